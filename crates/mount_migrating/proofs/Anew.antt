-- A block that was loaded and written anew.
use Rattle.std.proofs.Common.{◌≡◌, ◌≤◌, ◌+◌, ◌^◌, ℕ, true, List, [], ◌∷◌, refl, sym, ◌∙◌, ap, subst, inl, arith}
use Rattle.std.specs.Prelude.{is_some}
use Rattle.std.specs.declared.option.Option.TheVariants.{Some}
use Rattle.std.specs.declared.result.Result.TheVariants.{Err}
use Rattle.mount_answering.specs.answers.declared.answer.Answer.TheVariants.{Memory, Spent}
use Rattle.mount_answering.specs.answers.Sessions.{state_faults}
use Rattle.block_id.specs.declared.fail.Fail.{Fail}
use Rattle.block_id.specs.declared.fail.Fail.TheVariants as fail
use Rattle.fs_model.specs.Tree.{Tree}
use Rattle.mount_answering.specs.store_outcome.Meanings.{Meanings, Lawful, IsCalm, IsOfBlocks, OnVerdict, HasCause, UnlessFault}
use Rattle.outside.specs.Causes.{RoseBy}
use Rattle.outside.specs.Going.{goes_on_onward, goes_on_equal, goes_on_same}
use Rattle.outside.specs.declared.keeper.Keeper.{Ghosts as KeeperGhosts}
use Rattle.mount_answering.specs.record_saver.Saving.{world}
use Rattle.mount_answering.specs.record_saver.declared.saver.Saver.{Saver}
use Rattle.mount_answering.specs.store_api.Content.{Id, Changes, SameContent}
use Rattle.mount_answering.proofs.store_api_lemmas.Rising.{same_id_is}
use Rattle.mount_answering.specs.store_api.Durables.{Durables, Records, Enduring}
use Rattle.mount_answering.specs.store_api.Holdings.{Holdings, Steady, Stays, Changed, IsSpent}
use Rattle.mount_answering.specs.store_api.declared.blocks.ApplyError.{ApplyError}
use Rattle.mount_answering.specs.store_api.declared.blocks.ApplyError.TheVariants as apply_error
use Rattle.mount_answering.specs.mount_core.Showing.{Showing}
use Rattle.mount_answering.specs.mount_core.declared.body.Core.{Core}
use Rattle.mount_answering.specs.mount_core.Answering.{store_of}
use Rattle.mount_answering.specs.mount_core.Answers.{answer_of_fail, OnSpent}
use Rattle.mount_answering.specs.mount_core.Standing.{CoreStands}
use Rattle.mount_answering.proofs.mount_core_lemmas.Moving.{SameShown}
use Rattle.mount_answering.proofs.Lines.{calm, configures_loaded, configures_on, found_of, of_blocks, stands_loaded, stands_on}
use Rattle.mount_answering.proofs.Quiet.{fail_directory, fail_directory_rose}
use Rattle.mount_answering.proofs.data_tree_lemmas.Ids.{same_self}
use Rattle.mount_migrating.specs.Migrating.{answer_of, error_of_apply, error_of_fail, told, AreUnspent, HasReason, IsFoundSince, IsSpentAmong, Proceeds, Raises}
use Rattle.mount_migrating.proofs.Batches.{one, one_says, one_self, one_leaves, one_ids, one_has, one_rests}

-- ---- errors as answers

pub fail_told : (f : Fail) → answer_of_fail f ≡ answer_of (error_of_fail f)
fail_told fail.Memory = refl
fail_told fail.Fault = refl
fail_told (fail.Violation why) = refl

fail_state : (f : Fail) (a b : ℕ) → b ≡ a → RoseBy (state_faults (answer_of_fail f)) a b
fail_state fail.Memory a b e = omega (arith, e)
fail_state fail.Fault a b e = omega (arith, e)
fail_state (fail.Violation why) a b e = omega (arith, e)

fail_unspent : (f : Fail) (P : Type 0) → OnSpent (answer_of_fail f) P
fail_unspent fail.Memory P = tt
fail_unspent fail.Fault P = tt
fail_unspent (fail.Violation why) P = tt

module _ {S : Type 0} {K : Type 0} (shows : Showing) (M : Meanings S) (H : Holdings S) (D : Durables S) (R : Records) (G : KeeperGhosts K) (law : SameShown shows) (lawful : Lawful M) (steady : Steady M H)
    (applied : S → S → Changes → Type 0) (settled : (a b : S) → M.loaded a b → Stays H a b) (endures : Enduring M H applied D R) where
  abbrev Going : Core S K → Core S K → Type 0
  Going a b = Proceeds shows (world M H D R G) a b

  -- ---- blocks were only loaded

  pub loaded_proceeds : (old new : Core S K) → M.loaded (store_of old) (store_of new) → (M.sound (store_of old) → M.forgeries (store_of new) ≤ M.forgeries (store_of old) → M.sound (store_of new))
      → new.saver ≡ old.saver → new.violated ≡ old.violated → new.root ≡ old.root → Going old new
  loaded_proceeds old new loaded sound es ev er =
      let a = store_of old in
      let b = store_of new in
      let stays = settled a b loaded in
      let kept = ap (λ (x : Saver K). G.kept x.keeper) es in
      record {
        stands = λ kept_tree now s few. inl (stands_loaded shows M H D R G law applied endures old new kept_tree now s loaded stays (steady.sound_told a s.sound) (ap (λ x. x.0) er) kept (sound s.sound few));
        configures = λ may now s. configures_loaded shows M H D R G applied endures old new may now s loaded stays kept (ap (λ (x : Saver K). x.last.items) es);
        identity = endures.loaded_identity a b loaded;
        payload = stays.payload;
        ids = stays.ids;
        goes_on = endures.loaded_goes_on a b loaded;
        sound = sound;
        forgeries = lawful.forgeries_grow a b loaded;
        lies = lawful.lies_grow a b loaded;
        unforged = lawful.honest_unforged a b loaded;
        violated = ev;
        root = er;
      }

  -- the load failed
  pub failed_reason : (old new : Core S K) (ids : List Id) (f : Fail) → M.loaded (store_of old) (store_of new) → G.faults new.saver.keeper ≡ G.faults old.saver.keeper
      → HasCause f (M.faults (store_of old)) (M.faults (store_of new)) → UnlessFault f (M.faults (store_of new) ≡ M.faults (store_of old)) → OnVerdict f (M.met (store_of old) (store_of new))
      → ((kept now : Tree) → CoreStands shows (world M H D R G) old kept now → M.lies (store_of new) ≤ M.lies (store_of old) → IsCalm f) → IsOfBlocks f
      → HasReason shows (world M H D R G) old ids (told {T = Unit} (Err (error_of_fail f))) new
  failed_reason old new ids f loaded keeper cause quiet met honest blocks =
      let a = store_of old in
      let b = store_of new in
      subst (λ answer. HasReason shows (world M H D R G) old ids answer new) (fail_told f) (record {
        vault_cause = fail_directory_rose f (M.faults a) (M.faults b) (lawful.faults_grow a b loaded) cause;
        vault_quiet = fail_directory f (M.faults b ≡ M.faults a) quiet;
        keeper_cause = fail_state f (G.faults old.saver.keeper) (G.faults new.saver.keeper) keeper;
        keeper_quiet = λ none. keeper;
        alarm = λ kept now s few. calm f (honest kept now s few);
        of_blocks = of_blocks f blocks;
        found = found_of f (M.met a b) (IsFoundSince M D a b) (λ why m. record { from = a; goes_on = goes_on_same (D.trace a); loaded = loaded; met = m }) met;
        spent = fail_unspent f (IsSpentAmong H a ids);
      })

  pub raises_stays : (a b : S) (ids : List Id) → Stays H a b → Raises H a b ids
  raises_stays a b ids stays = record { raised = λ id. let v = stays.version id in omega (arith, v); rests = λ id none. stays.version id }

  -- ---- there was no memory for the batch, or it wasn't applied

  pub memory_reason : (old new : Core S K) (ids : List Id) → M.faults (store_of new) ≡ M.faults (store_of old) → G.faults new.saver.keeper ≡ G.faults old.saver.keeper → HasReason shows (world M H D R G) old ids Memory new
  memory_reason old new ids vault keeper = record {
    vault_cause = omega (arith, vault);
    vault_quiet = λ none. vault;
    keeper_cause = omega (arith, keeper);
    keeper_quiet = λ none. keeper;
    alarm = λ kept now s honest. refl;
    of_blocks = refl;
    found = tt;
    spent = tt;
  }

  spent_reason : (old new : Core S K) (ids : List Id) → M.faults (store_of new) ≡ M.faults (store_of old) → G.faults new.saver.keeper ≡ G.faults old.saver.keeper → IsSpentAmong H (store_of old) ids → HasReason shows (world M H D R G) old ids Spent new
  spent_reason old new ids vault keeper spent = record {
    vault_cause = omega (arith, vault);
    vault_quiet = λ none. vault;
    keeper_cause = omega (arith, keeper);
    keeper_quiet = λ none. keeper;
    alarm = λ kept now s honest. refl;
    of_blocks = refl;
    found = tt;
    spent = spent;
  }

  pub unapplied_reason : (old new : Core S K) (ids : List Id) (e : ApplyError) → M.faults (store_of new) ≡ M.faults (store_of old) → G.faults new.saver.keeper ≡ G.faults old.saver.keeper
      → (e ≡ apply_error.Spent → IsSpentAmong H (store_of old) ids) → HasReason shows (world M H D R G) old ids (told {T = Unit} (Err (error_of_apply e))) new
  unapplied_reason old new ids apply_error.Memory vault keeper spent = memory_reason old new ids vault keeper
  unapplied_reason old new ids apply_error.Spent vault keeper spent = spent_reason old new ids vault keeper (spent refl)

  -- an id of the batch that can get no further payload
  pub batch_spent : (old mid : S) (id : Id) (payload : List ℕ) → Stays H old mid → M.intact mid → IsSpent H mid (one id payload) → IsSpentAmong H old (id ∷ [])
  batch_spent old mid id payload stays intact (other, bytes, given, spent) =
      let is = one_says id other payload (Some bytes) given in
      let last = steady.spent_last mid other intact spent in
      (id, one_has id id ∙ same_self id, subst (λ x. H.version old x + 1 ≡ 2 ^ 64) is.0 (ap (λ n. n + 1) (sym (stays.version other)) ∙ last))

  -- ---- it was written anew

  module _ (old mid new : Core S K) (id : Id) (payload : List ℕ) (loaded : M.loaded (store_of old) (store_of mid))
      (sound : M.sound (store_of old) → M.forgeries (store_of mid) ≤ M.forgeries (store_of old) → M.sound (store_of mid))
      (holds : M.sound (store_of old) → M.forgeries (store_of mid) ≤ M.forgeries (store_of old) → H.content (store_of old) id ≡ Some payload)
      (live : is_some (H.content (store_of mid) id) ≡ true) (changed : Changed M H (store_of mid) (store_of new) (one id payload)) (batch : applied (store_of mid) (store_of new) (one id payload))
      (mid_intact : M.intact (store_of mid)) (intact : M.intact (store_of new)) (forgeries : M.forgeries (store_of new) ≡ M.forgeries (store_of mid)) (lies : M.lies (store_of new) ≡ M.lies (store_of mid))
      (mid_saver : mid.saver ≡ old.saver) (mid_violated : mid.violated ≡ old.violated) (mid_root : mid.root ≡ old.root)
      (kept : G.kept new.saver.keeper ≡ G.kept mid.saver.keeper) (last : new.saver.last.items ≡ mid.saver.last.items) (violated : new.violated ≡ mid.violated) (root : new.root ≡ mid.root) where
    first : Going old mid
    first = loaded_proceeds old mid loaded sound mid_saver mid_violated mid_root

    identity : D.identity (store_of new) ≡ D.identity (store_of mid)
    identity = endures.applied_identity (store_of mid) (store_of new) (one id payload) batch

    trace : D.trace (store_of new) ≡ D.trace (store_of mid)
    trace = endures.applied_trace (store_of mid) (store_of new) (one id payload) batch

    -- the content is the same
    same : M.sound (store_of old) → M.forgeries (store_of mid) ≤ M.forgeries (store_of old) → SameContent (H.content (store_of mid)) (H.content (store_of new))
    same s few =
        let stays = settled (store_of old) (store_of mid) loaded in
        let is_told = steady.sound_told (store_of old) s in
        let held = stays.content is_told id ∙ holds s few in
        λ other. changed.content (stays.told ∙ is_told) other ∙ one_leaves id payload (H.content (store_of mid)) held other

    pub renewed_proceeds : Going old new
    renewed_proceeds =
        let f = first.forgeries in
        let l = first.lies in
        record {
          stands = λ kept_tree now s few.
              let few_mid : M.forgeries (store_of mid) ≤ M.forgeries (store_of old) = omega (arith, forgeries, few) in
              let is_told = steady.sound_told (store_of old) s.sound in
              let stays = settled (store_of old) (store_of mid) loaded in
              let t = stands_loaded shows M H D R G law applied endures old mid kept_tree now s loaded stays is_told (ap (λ x. x.0) mid_root) (ap (λ (x : Saver K). G.kept x.keeper) mid_saver) (sound s.sound few_mid) in
              inl (stands_on shows M H D R G mid new kept_tree now now t (ap (λ x. x.0) root) identity changed.payload kept
              (λ i bytes content h. subst (λ t. R.stands i bytes t content) (sym trace) h) (changed.sound t.sound)
              (law _ _ (H.content (store_of mid)) (H.content (store_of new)) now (same s.sound few_mid) t.shown));
          configures = λ may now s.
              let t = first.configures may now s in
              configures_on shows M H D R G mid new may now t changed.told kept last (λ record_ bytes h. subst (λ t. R.configures record_ t bytes) (sym trace) h)
              (endures.applied_configures (store_of mid) (store_of new) (one id payload) now batch mid_intact intact t.present);
          identity = identity ∙ first.identity;
          payload = changed.payload ∙ first.payload;
          ids = λ other. (changed.ids other ∙ one_ids id payload (H.content (store_of mid)) live other) ∙ first.ids other;
          goes_on = goes_on_onward (D.trace (store_of old)) (D.trace (store_of mid)) (D.trace (store_of new)) first.goes_on (goes_on_equal (D.trace (store_of mid)) (D.trace (store_of new)) trace);
          sound = λ s few. changed.sound (sound s (omega (arith, forgeries, few)));
          forgeries = omega (arith, forgeries, f);
          lies = omega (arith, lies, l);
          unforged = λ s honest. let u = first.unforged s (omega (arith, lies, honest)) in omega (arith, forgeries, u);
          violated = violated ∙ first.violated;
          root = root ∙ first.root;
        }

    pub renewed_raises : Raises H (store_of old) (store_of new) (id ∷ [])
    renewed_raises =
        let stays = settled (store_of old) (store_of mid) loaded in
        record {
          raised = λ other. let r = changed.raised other in let v = stays.version other in omega (arith, r, v);
          rests = λ other none. changed.rests other (one_rests id other payload none) ∙ stays.version other;
        }

  -- no id of a batch that was applied was at its last version
  pub unspent_by : (old mid : S) (id : Id) (payload : List ℕ) → Stays H old mid → M.intact mid → (IsSpent H mid (one id payload) → ⊥) → AreUnspent H old (id ∷ [])
  unspent_by old mid id payload stays intact none other has last =
      let is = same_id_is other id (sym (one_has id other) ∙ has) in
      let at = subst (λ x. H.version old x + 1 ≡ 2 ^ 64) is last in
      none (id, payload, one_self id payload, steady.last_spent mid id intact (ap (λ n. n + 1) (stays.version id) ∙ at))
