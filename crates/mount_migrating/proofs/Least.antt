-- The least format that is taken, set and perhaps set back.
use Rattle.std.proofs.Common.{◌≡◌, ◌⊎◌, ◌≤◌, ℕ, true, false, List, [], refl, sym, ◌∙◌, ap, subst, inl, inr, arith}
use Rattle.std.specs.Prelude.{IsErrOf}
use Rattle.std.specs.declared.option.Option.{Option}
use Rattle.std.specs.declared.option.Option.TheVariants.{Some}
use Rattle.std.specs.declared.result.Result.TheVariants.{Ok, Err}
use Rattle.fs_model.specs.Tree.{Tree}
use Rattle.mount_answering.specs.store_outcome.Meanings.{Meanings}
use Rattle.outside.specs.Causes.{RoseBy}
use Rattle.outside.specs.Going.{goes_on_equal}
use Rattle.outside.specs.declared.keeper.Keeper.{Ghosts as KeeperGhosts}
use Rattle.mount_answering.specs.record_saver.Saving.{world, ShortSaved, UnlessState}
use Rattle.mount_answering.specs.record_saver.declared.saver.Saver.{Saver}
use Rattle.mount_answering.specs.record_saver.declared.saver.SyncError.{SyncError}
use Rattle.mount_answering.specs.record_saver.declared.saver.SyncError.TheVariants as sync_error
use Rattle.mount_answering.specs.store_api.Content.{Changes}
use Rattle.mount_answering.specs.store_api.Durables.{Identity, Durables, Records, Enduring}
use Rattle.mount_answering.specs.store_api.Holdings.{Holdings, Steady, Stays}
use Rattle.mount_answering.specs.store_api.Leaving.{SetsLeast, StaysMeant}
use Rattle.mount_answering.specs.mount_core.Showing.{Showing}
use Rattle.mount_answering.specs.mount_core.declared.body.Core.{Core}
use Rattle.mount_answering.specs.mount_core.Answering.{store_of}
use Rattle.mount_answering.specs.mount_core.Configuring.{CoreConfigures, KeptOneOf}
use Rattle.mount_answering.specs.mount_core.Standing.{CoreStands, Roomed}
use Rattle.mount_answering.proofs.mount_core_lemmas.Moving.{keeps_along, shown_along, SameShown}
use Rattle.mount_answering.proofs.Lines.{stays_on}
use Rattle.mount_migrating.specs.Migrating.{error_of_sync, told, HasReason, Proceeds, IsMigratedRecord, Rests}
use Rattle.mount_migrating.proofs.NewFiles.{new_same}
use Rattle.mount_migrating.proofs.Syncing.{done_reason}

module _ {S : Type 0} {K : Type 0} (shows : Showing) (M : Meanings S) (H : Holdings S) (D : Durables S) (R : Records) (G : KeeperGhosts K) (law : SameShown shows) (steady : Steady M H)
    (applied : S → S → Changes → Type 0) (endures : Enduring M H applied D R) where
  abbrev Standing : Core S K → Tree → Tree → Type 0
  Standing core kept now = CoreStands shows (world M H D R G) core kept now

  -- only the least format was set, to this
  pub record Sets (a b : S) : Type 0 where
    pub to : ℕ
    pub sets : SetsLeast D R to a b
    pub stays : Stays H a b
    pub meant : StaysMeant M a b
    pub faults : M.faults b ≡ M.faults a

  -- what the store would keep says the same of the configuration's file
  present_on : (a b : S) (bytes : List ℕ) → M.intact a → Sets a b → R.configures (D.local_record_of a true) (D.trace a) bytes → R.configures (D.local_record_of b true) (D.trace b) bytes
  present_on a b bytes intact u c = u.sets.configures (D.local_record_of a true) bytes (endures.written a true intact) c

  -- what is kept is the same
  same_stands : (old new : Core S K) (kept now : Tree) → D.identity (store_of new) ≡ D.identity (store_of old) → D.trace (store_of new) ≡ D.trace (store_of old) → Stays H (store_of old) (store_of new) → M.sound (store_of new)
      → new.root ≡ old.root → G.kept new.saver.keeper ≡ G.kept old.saver.keeper → Standing old kept now → Standing new kept now
  same_stands old new kept now ei et stays sound er ek s = record {
    keeps = keeps_along shows R _ _ _ _ _ _ _ _ _ _ kept stays.payload (ap (λ x. x.0) er) ei ek et s.keeps;
    sound = sound;
    unmarked = ap (λ (i : Identity). i.marked) ei ∙ s.unmarked;
    shown = law _ _ (H.content (store_of old)) (H.content (store_of new)) now (stays.content (steady.sound_told (store_of old) s.sound))
        (shown_along shows _ _ _ _ (H.content (store_of old)) now stays.payload (ap (λ x. x.0) er) s.shown);
  }

  -- the record with an empty list is kept, of a store between the two
  short_stands : (old new : Core S K) (up : S) (kept now : Tree) → Sets (store_of old) up → D.list (store_of old) ≡ [] → D.identity (store_of new) ≡ D.identity up → D.trace (store_of new) ≡ D.trace up → Stays H up (store_of new)
      → M.sound (store_of new) → new.root ≡ old.root → G.kept new.saver.keeper ≡ Some (D.local_record_of up false) → Standing old kept now → Standing new now now
  short_stands old new up kept now u none ei et stays sound er ek s =
      let short = D.local_record_of up false in
      let unmarked : (D.identity up).marked ≡ false = ap (λ (i : Identity). i.marked) u.sets.identity ∙ s.unmarked in
      let is_record = endures.same_record up short (u.sets.list ∙ none) (endures.written up false u.meant.intact) in
      let stands = endures.stands_now up short u.meant.intact (u.meant.sound s.sound) unmarked is_record in
      let moved = subst (λ i. R.stands i short (D.trace (store_of new)) (H.content up)) (sym ei) (subst (λ t. R.stands (D.identity up) short t (H.content up)) (sym et) stands) in
      let root = ap (λ x. x.0) er in
      let content = law _ _ (H.content (store_of old)) (H.content up) now (u.stays.content (steady.sound_told (store_of old) s.sound)) s.shown in
      let shown = shown_along shows _ _ _ _ (H.content up) now (stays.payload ∙ u.stays.payload) root content in
      record {
        keeps = record { content = H.content up; represents = (short, ek, moved); shown = shown };
        sound = sound;
        unmarked = ap (λ (i : Identity). i.marked) ei ∙ unmarked;
        shown = law _ _ (H.content up) (H.content (store_of new)) now (stays.content (steady.sound_told up (u.meant.sound s.sound))) shown;
      }

  -- what it says of the configuration's file is what the store would keep
  short_configures : (up : S) (bytes : List ℕ) → M.intact up → D.list up ≡ [] → R.configures (D.local_record_of up true) (D.trace up) bytes → R.configures (D.local_record_of up false) (D.trace up) bytes
  short_configures up bytes intact none c = subst (λ x. R.configures x (D.trace up) bytes) (endures.nothing_waits up none) c

  set_proceeds : (old new : Core S K) → Sets (store_of old) (store_of new) → new.root ≡ old.root → new.violated ≡ old.violated
      → ((kept now : Tree) → Standing old kept now → Roomed shows (world M H D R G) new kept now) → ((may : List (List ℕ)) (now : List ℕ) → CoreConfigures H D R G old may now → CoreConfigures H D R G new may now)
      → Proceeds shows (world M H D R G) old new
  set_proceeds old new u er ev stands configures =
      let f = u.meant.forgeries in
      let l = u.meant.lies in
      record {
        stands = λ kept now s few. stands kept now s;
        configures = configures;
        identity = u.sets.identity;
        payload = u.stays.payload;
        ids = u.stays.ids;
        goes_on = goes_on_equal (D.trace (store_of old)) (D.trace (store_of new)) u.sets.trace;
        sound = λ sound few. u.meant.sound sound;
        forgeries = omega (arith, f);
        lies = omega (arith, l);
        unforged = λ sound honest. omega (arith, f);
        violated = ev;
        root = er;
      }

  -- ---- it was kept

  module _ (old new : Core S K) (intact : M.intact (store_of old)) (none : D.list (store_of old) ≡ []) (u : Sets (store_of old) (store_of new)) (er : new.root ≡ old.root) (ev : new.violated ≡ old.violated)
      (last : new.saver.last.items ≡ D.local_record_of (store_of new) false) (kept : G.kept new.saver.keeper ≡ Some new.saver.last.items) (quiet : G.faults new.saver.keeper ≡ G.faults old.saver.keeper) where
    kept_configures : (may : List (List ℕ)) (now : List ℕ) → CoreConfigures H D R G old may now → CoreConfigures H D R G new may now
    kept_configures may now c =
        let present = present_on (store_of old) (store_of new) now intact u c.present in
        let short = subst (λ x. R.configures x (D.trace (store_of new)) now) (sym last) (short_configures (store_of new) now u.meant.intact (u.sets.list ∙ none) present) in
        record { told = u.stays.told ∙ c.told; among = c.among; kept = (now, c.among, (new.saver.last.items, kept, short)); last = (now, c.among, short); present = present }

    pub kept_rests : Rests shows (world M H D R G) old (Ok tt) new
    kept_rests = record {
      proceeds = set_proceeds old new u er ev
          (λ k now s. inr (short_stands old new (store_of new) k now u none refl refl (stays_none (store_of new)) (u.meant.sound s.sound) er (kept ∙ ap Some last) s))
          kept_configures;
      reason = done_reason shows M H D R G old new [] u.faults quiet;
      used = u.stays.used;
      versions = u.stays.version;
      stays_new = λ id n. new_same M H applied D R endures (store_of old) (store_of new) id u.sets.list u.sets.trace n;
    }
      where
        stays_none : (s : S) → Stays H s s
        stays_none s = record { ids = λ id. refl; content = λ told id. refl; told = refl; used = refl; spent = λ id. refl; version = λ id. refl; payload = refl }

    pub kept_record : D.least (store_of new) ≡ 2 → new.saver.changed ≡ false → IsMigratedRecord (world M H D R G) new
    kept_record least unchanged = record {
      bytes = new.saver.last.items;
      kept = kept;
      is_record = subst (λ x. D.is_record (store_of new) false x) (sym last) (endures.written (store_of new) false u.meant.intact);
      least = least;
      unchanged = unchanged;
    }

  -- ---- it wasn't

  module _ (old new : Core S K) (up : S) (intact : M.intact (store_of old)) (none : D.list (store_of old) ≡ []) (u : Sets (store_of old) up) (d : Sets up (store_of new)) (er : new.root ≡ old.root) (ev : new.violated ≡ old.violated)
      (last : new.saver.last.items ≡ old.saver.last.items) (kept : (G.kept new.saver.keeper ≡ G.kept old.saver.keeper) ⊎ (G.kept new.saver.keeper ≡ Some (D.local_record_of up false))) where
    both : Stays H (store_of old) (store_of new)
    both = stays_on H (store_of old) up (store_of new) u.stays d.stays

    lost_sets : Sets (store_of old) (store_of new)
    lost_sets = record {
      to = d.to;
      sets = record {
        least = d.sets.least;
        identity = d.sets.identity ∙ u.sets.identity;
        list = d.sets.list ∙ u.sets.list;
        trace = d.sets.trace ∙ u.sets.trace;
        configures = λ record_ bytes is c. present_on up (store_of new) bytes u.meant.intact d (u.sets.configures record_ bytes is c);
      };
      stays = both;
      meant = record { intact = d.meant.intact; sound = λ s. d.meant.sound (u.meant.sound s); forgeries = d.meant.forgeries ∙ u.meant.forgeries; lies = d.meant.lies ∙ u.meant.lies };
      faults = d.faults ∙ u.faults;
    }

    lost_stands : (k now : Tree) → Standing old k now → Roomed shows (world M H D R G) new k now
    lost_stands k now s = elim kept as (λ _. Roomed shows (world M H D R G) new k now) [
      | inl same ↦ inl (same_stands old new k now lost_sets.sets.identity lost_sets.sets.trace both (lost_sets.meant.sound s.sound) er same s)
      | inr short ↦ inr (short_stands old new up k now u none d.sets.identity d.sets.trace d.stays (lost_sets.meant.sound s.sound) er short s)
    ]

    lost_configures : (may : List (List ℕ)) (now : List ℕ) → CoreConfigures H D R G old may now → CoreConfigures H D R G new may now
    lost_configures may now c =
        let t = lost_sets.sets.trace in
        let middle = present_on (store_of old) up now intact u c.present in
        let short = subst (λ x. R.configures (D.local_record_of up false) x now) (sym d.sets.trace) (short_configures up now u.meant.intact (u.sets.list ∙ none) middle) in
        record {
          told = both.told ∙ c.told;
          among = c.among;
          kept = elim kept as (λ _. KeptOneOf R (G.kept new.saver.keeper) (D.trace (store_of new)) may) [
            | inl same ↦ (c.kept.0, c.kept.1, (c.kept.2.0, same ∙ c.kept.2.1, subst (λ x. R.configures c.kept.2.0 x c.kept.0) (sym t) c.kept.2.2))
            | inr is ↦ (now, c.among, (D.local_record_of up false, is, short))
          ];
          last = (c.last.0, c.last.1, subst (λ x. R.configures x (D.trace (store_of new)) c.last.0) (sym last) (subst (λ x. R.configures old.saver.last.items x c.last.0) (sym t) c.last.2));
          present = present_on up (store_of new) now u.meant.intact d middle;
        }

    lost_proceeds : Proceeds shows (world M H D R G) old new
    lost_proceeds = set_proceeds old new lost_sets er ev lost_stands lost_configures

    lost_rests : (e : SyncError) → HasReason shows (world M H D R G) old [] (told {T = Unit} (Err (error_of_sync e))) new → Rests shows (world M H D R G) old (Err (error_of_sync e)) new
    lost_rests e reason = record { proceeds = lost_proceeds; reason = reason; used = both.used; versions = both.version; stays_new = tt }

  -- why the save failed
  save_reason : (old new : Core S K) (e : SyncError) → (IsErrOf {T = Unit} (Err e) sync_error.FaultDirectory → ⊥) → M.faults (store_of new) ≡ M.faults (store_of old) → G.faults old.saver.keeper ≤ G.faults new.saver.keeper
      → (IsErrOf {T = Unit} (Err e) sync_error.FaultState → RoseBy 1 (G.faults old.saver.keeper) (G.faults new.saver.keeper)) → UnlessState (Err e) (G.faults new.saver.keeper ≡ G.faults old.saver.keeper)
      → HasReason shows (world M H D R G) old [] (told {T = Unit} (Err (error_of_sync e))) new
  save_reason old new sync_error.Memory never vault grows cause quiet = record {
    vault_cause = omega (arith, vault);
    vault_quiet = λ zero. vault;
    keeper_cause = omega (arith, quiet);
    keeper_quiet = λ zero. quiet;
    alarm = λ kept now s honest. refl;
    of_blocks = refl;
    found = tt;
    spent = tt;
  }
  save_reason old new sync_error.FaultDirectory never vault grows cause quiet = absurd (never refl)
  save_reason old new sync_error.FaultState never vault grows cause quiet = record {
    vault_cause = omega (arith, vault);
    vault_quiet = λ zero. vault;
    keeper_cause = cause refl;
    keeper_quiet = λ zero. absurd (cc zero);
    alarm = λ kept now s honest. refl;
    of_blocks = refl;
    found = tt;
    spent = tt;
  }

  -- what became of the save, with the format set back
  pub unsaved_rests : (old new : Core S K) (up : S) (saver : Saver K) (e : SyncError) → M.intact (store_of old) → D.list (store_of old) ≡ [] → Sets (store_of old) up → Sets up (store_of new) → new.root ≡ old.root → new.violated ≡ old.violated
      → new.saver.last.items ≡ saver.last.items → new.saver.keeper ≡ saver.keeper → ShortSaved D G up old.saver saver (Err e) → G.faults old.saver.keeper ≤ G.faults saver.keeper
      → (IsErrOf {T = Unit} (Err e) sync_error.FaultState → RoseBy 1 (G.faults old.saver.keeper) (G.faults saver.keeper)) → UnlessState (Err e) (G.faults saver.keeper ≡ G.faults old.saver.keeper)
      → Rests shows (world M H D R G) old (Err (error_of_sync e)) new
  unsaved_rests old new up saver sync_error.Memory intact none u d er ev el ek saved grows cause quiet =
      let same = ap G.faults ek in
      lost_rests old new up intact none u d er ev (el ∙ saved.0) (inl (ap G.kept ek ∙ saved.1)) sync_error.Memory
      (save_reason old new sync_error.Memory (λ is. absurd (cc)) (d.faults ∙ u.faults) (omega (arith, same, grows)) (λ is. absurd (cc)) (same ∙ quiet))
  unsaved_rests old new up saver sync_error.FaultDirectory intact none u d er ev el ek saved grows cause quiet = absurd saved
  unsaved_rests old new up saver sync_error.FaultState intact none u d er ev el ek saved grows cause quiet =
      let same = ap G.faults ek in
      lost_rests old new up intact none u d er ev (el ∙ saved.0) (kept_so (ap G.kept ek) saved.1) sync_error.FaultState
      (save_reason old new sync_error.FaultState (λ is. absurd (cc)) (d.faults ∙ u.faults) (omega (arith, same, grows)) (λ is. subst (λ n. RoseBy 1 (G.faults old.saver.keeper) n) (sym same) (cause is)) tt)
    where
      kept_so : {a b c d : Option (List ℕ)} → a ≡ b → (b ≡ c) ⊎ (b ≡ d) → (a ≡ c) ⊎ (a ≡ d)
      kept_so e (inl f) = inl (e ∙ f)
      kept_so e (inr f) = inr (e ∙ f)
