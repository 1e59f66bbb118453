-- A whole session over what is kept and the calls alone, from how it began, what it went through and how it was closed.
use Rattle.std.proofs.Common.{◌≡◌, ◌⊎◌, ◌≤◌, ◌+◌, ◌-◌, ◌||◌, ◌++◌, ℕ, Bool, true, false, List, [], ◌∷◌, length, refl, sym, ap, subst, ◌∙◌, inl, inr, arith, append_assoc}
use Rattle.std.specs.Prelude.{Result, is_some, IsErrOf, IsOk, OnOk}
use Rattle.std.specs.declared.option.Option.{Option}
use Rattle.std.specs.declared.option.Option.TheVariants.{Some}
use Rattle.std.specs.declared.result.Result.TheVariants.{Ok, Err}
use Rattle.std.proofs.lemmas.Bool.{or_parts}
use Rattle.mount.specs.aes_gcm.Gcm.{opened_of}
use Rattle.fs_model.specs.Tree.{Tree}
use Rattle.outside.specs.Causes.{RoseBy}
use Rattle.outside.specs.Going.{GoesOn, goes_on_onward}
use Rattle.outside.specs.Honest.{count_told}
use Rattle.outside.specs.Trace.{Call, config, got}
use Rattle.outside.specs.declared.keeper.Keeper.{Ghosts as KeeperGhosts}
use Rattle.run_frame.specs.answers.Sessions.{Exchange, RefusesAfterViolation, IsKeptPoint, is_violation, latest, violated, all_directory_faults, all_state_faults}
use Rattle.mount.specs.store_api.Durables.{Identity}
use Rattle.mount.specs.block_versions.Forgeries.{forged}
use Rattle.mount.specs.block_versions.Standing.{records}
use Rattle.mount.specs.config_file.Settings.{Settings, settings_of}
use Rattle.mount.specs.config_file.declared.config.Opened.{Opened}
use Rattle.mount.specs.record_saver.Saving.{KeptConfigures, UnlessDirectory, UnlessState}
use Rattle.mount.specs.record_saver.declared.saver.SyncError.{SyncError}
use Rattle.mount.specs.record_saver.declared.saver.SyncError.TheVariants.{Memory, FaultDirectory, FaultState}
use Rattle.mount.specs.mount_core.Configuring.{KeptOneOf, ConfigAnswered, ConfigClosed}
use Rattle.mount.specs.mount_core.Showing.{Showing}
use Rattle.mount.specs.mount_core.Standing.{IsKeptMarked}
use Rattle.mount.specs.declared.mount.Mount.{Mount}
use Rattle.mount.specs.Mounts.{IsReady, MountClosed}
use Rattle.mount.specs.Representing.{Represents}
use Rattle.mount.specs.Tower.{TowerStands}
use Rattle.run_frame.specs.mount_stores.Tower.{tower_holdings, tower_durables}
use Rattle.mount.specs.local_state.Record.{PlainState}
use Rattle.run_frame.specs.mount_stores.Unforged.{EachConfig}
use Rattle.run_frame.proofs.mount_stores_lemmas.Reading.{only_unforged}
use Rattle.mount.proofs.Reading.{represents_told}
use Rattle.mount.proofs.Standing.{represents}
use Rattle.session_laws.specs.Answering.{store_of, calls_of, forgeries_of, lies_of, version_of, kept_of, mount_hosting}
use Rattle.session_laws.specs.Passing.{MountKeeps, KeptAfter, LeftAt, PassedTrees, Passed}
use Rattle.session_laws.specs.Runs.{Outside, outside_of, OutsideStandsFor, forgeries, lies, OpensTo, OpensOnlyTo, IsFounded, AreCalm, Answers, directory_fault, state_fault, IsSessionRun}
use Rattle.session_laws.specs.Turns.{Begun, Closing, OnMount}
use Rattle.run_frame.specs.answers.Hosts.{Ran}
use Rattle.session_laws.proofs.Joining.{true_is_false, latest_kept}
use Rattle.session_laws.specs.Resting.{AreIdle, OnlyGot}
use Rattle.session_laws.proofs.Formats.{taken}
use Rattle.session_laws.proofs.Still.{loaded_got}
use Rattle.session_laws.proofs.Keeping.{kept_on, kept_by, kept_since}
use Rattle.session_laws.proofs.Rising.{spent_of}
use Rattle.session_laws.proofs.Passes.{passed, refusing}

-- ---- without a violation no answer is refused

-- where no answer is a violation, none stands
pub unviolated : (es : List Exchange) → AreCalm es → violated es ≡ false
unviolated [] a = refl
unviolated (e ∷ es) a = ap (λ (b : Bool). b || violated es) a.0 ∙ unviolated es a.2

calm : (es : List Exchange) → RefusesAfterViolation es → violated es ≡ false → AreCalm es
calm [] r v = tt
calm (e ∷ es) r v =
    let rest = (or_parts (is_violation e.answer) (violated es) v).1 in
    ((or_parts (is_violation e.answer) (violated es) v).0, r.0 ∙ rest, calm es r.1 rest)

-- ---- what was given at first stays so

pub each_before : {IsSo : PlainState → Settings → Type 0} (password : List ℕ) (kept : Option (List ℕ)) (old mid new : Option (List Call)) → GoesOn mid new → EachConfig IsSo password kept old new → EachConfig IsSo password kept old mid
each_before password kept old mid new on u = record {
  listed = u.listed;
  given = λ state list before calls max bytes found cost keeps none eo em opens.
      let first = got config max (Some bytes) ∷ before in
      let after : GoesOn (Some (calls ++ first)) new = subst (λ x. GoesOn x new) em on in
      u.given state list before (after.0 ++ calls) max bytes found cost keeps none eo (after.1 ∙ ap Some (sym (append_assoc after.0 calls first))) opens;
}

-- where no other configuration opens at all, no other one of this file system and key does
pub only_opens : (shows : Showing) (password : List ℕ) (c : Settings) (tree : Tree) (before after : Outside) → OpensOnlyTo shows password c tree before after → OpensTo shows password c tree before after
only_opens shows password c tree before after o = record { stands = o.stands; unforged_config = only_unforged password before.kept before.calls after.calls c o.only }

-- ---- faults

pub directory_rose : (closing : Result Unit SyncError) (n a b c d : ℕ) → b ≡ a → RoseBy n b c → c ≤ d → (IsErrOf closing FaultDirectory → RoseBy 1 c d) → RoseBy (n + directory_fault closing) a d
directory_rose (Ok u) n a b c d first rose last cause = omega (arith, first, rose, last)
directory_rose (Err Memory) n a b c d first rose last cause = omega (arith, first, rose, last)
directory_rose (Err FaultDirectory) n a b c d first rose last cause = let r = cause refl in omega (arith, first, rose, r)
directory_rose (Err FaultState) n a b c d first rose last cause = omega (arith, first, rose, last)

pub state_rose : (closing : Result Unit SyncError) (n a b c d : ℕ) → b ≡ a → RoseBy n b c → c ≤ d → (IsErrOf closing FaultState → RoseBy 1 c d) → RoseBy (n + state_fault closing) a d
state_rose (Ok u) n a b c d first rose last cause = omega (arith, first, rose, last)
state_rose (Err Memory) n a b c d first rose last cause = omega (arith, first, rose, last)
state_rose (Err FaultDirectory) n a b c d first rose last cause = omega (arith, first, rose, last)
state_rose (Err FaultState) n a b c d first rose last cause = let r = cause refl in omega (arith, first, rose, r)

pub directory_still : (closing : Result Unit SyncError) (n a b c d : ℕ) → b ≡ a → (n ≡ 0 → c ≡ b) → UnlessDirectory closing (d ≡ c) → n + directory_fault closing ≡ 0 → d ≡ a
directory_still (Ok u) n a b c d first rest last none = last ∙ (rest (omega (arith, none)) ∙ first)
directory_still (Err Memory) n a b c d first rest last none = last ∙ (rest (omega (arith, none)) ∙ first)
directory_still (Err FaultDirectory) n a b c d first rest last none = absurd (omega (arith, none))
directory_still (Err FaultState) n a b c d first rest last none = last ∙ (rest (omega (arith, none)) ∙ first)

pub state_still : (closing : Result Unit SyncError) (n a b c d : ℕ) → b ≡ a → (n ≡ 0 → c ≡ b) → UnlessState closing (d ≡ c) → n + state_fault closing ≡ 0 → d ≡ a
state_still (Ok u) n a b c d first rest last none = last ∙ (rest (omega (arith, none)) ∙ first)
state_still (Err Memory) n a b c d first rest last none = last ∙ (rest (omega (arith, none)) ∙ first)
state_still (Err FaultDirectory) n a b c d first rest last none = last ∙ (rest (omega (arith, none)) ∙ first)
state_still (Err FaultState) n a b c d first rest last none = absurd (omega (arith, none))

-- ---- the configuration's file

pub only_one : (kept : Option (List ℕ)) (calls : Option (List Call)) (file : List ℕ) → KeptOneOf records kept calls (file ∷ []) → KeptConfigures records kept calls file
only_one kept calls file (bytes, inl e, k) = subst (λ x. KeptConfigures records kept calls x) e k
only_one kept calls file (bytes, inr none, k) = absurd none

config_closed : (kept : Option (List ℕ)) (calls : Option (List Call)) (file : List ℕ) (closing : Result Unit SyncError) → ConfigClosed records kept calls (file ∷ []) file closing → KeptConfigures records kept calls file
config_closed kept calls file (Ok u) k = k
config_closed kept calls file (Err e) k = only_one kept calls file k

module _ {V : Type 0} {K : Type 0} (shows : Showing) (trace : V → Option (List Call)) (faults : V → ℕ) (G : KeeperGhosts K) (es : List Exchange) (opened_ left : Mount V K) (closing : Result Unit SyncError) (vault : V) (keeper : K)
    (ready : IsReady trace faults G left) (p : Passed shows trace faults G opened_ left es) (z : Closing shows trace faults G left closing vault keeper) where
  abbrev After : Outside
  After = outside_of trace faults G vault keeper

  config_after : (file : List ℕ) (flag : Bool) → left.core.violated ≡ flag → ConfigAnswered (tower_holdings trace) (tower_durables trace) records G left.core (file ∷ []) file flag → KeptConfigures records After.kept After.calls file
  config_after file true v c =
      let l = z.closes.left (inl v) in
      subst (λ k. KeptConfigures records (G.kept k) (trace vault) file) (sym l.2) (subst (λ x. KeptConfigures records (kept_of G left) (trace x) file) (sym l.1) (only_one (kept_of G left) (calls_of trace left) file c))
  config_after file false v c = config_closed (G.kept keeper) (trace vault) file closing (z.closes.configures (file ∷ []) file v c)

  -- ---- the trees

  module _ (c : Settings) (is : settings_of left.opened.config ≡ c) (first : Tree) (trees : List Tree) (point : IsKeptPoint first es trees (latest first trees)) where
    of_keeps : (tree : Tree) → MountKeeps shows trace G left tree → Represents shows (kept_of G left) (calls_of trace left) c tree
    of_keeps tree k = subst (λ x. Represents shows (kept_of G left) (calls_of trace left) x tree) is
        (represents shows (settings_of left.opened.config) ready.holder _ _ _ (kept_of G left) (calls_of trace left) tree (ap (λ (i : Identity). i.size - 78) ready.identity) (ap (λ x. x.0) ready.root) ready.identity k)

    of_closed : (kept : Tree) → IsKeptPoint first es trees kept → (result : Result Unit SyncError) → MountClosed shows (settings_of left.opened.config) After.kept After.calls kept (latest first trees) result
        → (tree : Tree) × IsKeptPoint first es trees tree × OutsideStandsFor shows c tree After
    of_closed kept k (Ok u) s = (latest first trees, point, subst (λ x. Represents shows After.kept After.calls x (latest first trees)) is s.0)
    of_closed kept k (Err e) (inl s) = (kept, k, subst (λ x. Represents shows After.kept After.calls x kept) is s)
    of_closed kept k (Err e) (inr s) = (latest first trees, point, subst (λ x. Represents shows After.kept After.calls x (latest first trees)) is s)

    kept_after : (flag : Bool) → violated es ≡ flag → LeftAt shows trace faults G left first es trees flag
        → ((violated es ≡ true) × IsKeptMarked records After.kept) ⊎ ((tree : Tree) × IsKeptPoint first es trees tree × OutsideStandsFor shows c tree After)
    kept_after true v (inl m) = let l = z.closes.left (inl (p.flag ∙ v)) in inl (v, subst (λ k. IsKeptMarked records (G.kept k)) (sym l.2) m)
    kept_after true v (inr (tree, k, keeps)) =
        let l = z.closes.left (inl (p.flag ∙ v)) in
        inr (tree, k, subst (λ k. Represents shows (G.kept k) (trace vault) c tree) (sym l.2) (subst (λ x. Represents shows (kept_of G left) (trace x) c tree) (sym l.1) (of_keeps tree keeps)))
    kept_after false v (kept, k, s) = inr (of_closed kept k closing (z.closes.stands kept (latest first trees) (p.flag ∙ v) s))

    of_done : (kept : Tree) (result : Result Unit SyncError) → MountClosed shows (settings_of left.opened.config) After.kept After.calls kept (latest first trees) result → OnOk result (OutsideStandsFor shows c (latest first trees) After)
    of_done kept (Ok u) s = subst (λ x. Represents shows After.kept After.calls x (latest first trees)) is s.0
    of_done kept (Err e) s = tt

    done_after : (flag : Bool) → violated es ≡ flag → LeftAt shows trace faults G left first es trees flag → violated es ≡ false → OnOk closing (OutsideStandsFor shows c (latest first trees) After)
    done_after true v s f = absurd (true_is_false (sym v ∙ f))
    done_after false v (kept, k, s) f = of_done kept closing (z.closes.stands kept (latest first trees) (p.flag ∙ v) s)

  module _ (password : List ℕ) (first_vault : V) (first_keeper : K) (b : Begun shows trace faults G password first_vault first_keeper opened_) (refuses : RefusesAfterViolation es) where
    abbrev Before : Outside
    Before = outside_of trace faults G first_vault first_keeper

    -- the configuration that opened is the one
    module _ (c : Settings) (first : Tree) (f : OpensTo shows password c first Before After) where
      is_opened : settings_of opened_.opened.config ≡ c
      is_opened =
          let told = represents_told shows Before.kept Before.calls c first f.stands in
          let on = goes_on_onward (calls_of trace opened_) (calls_of trace left) (trace vault) p.goes_on z.leaves.goes_on in
          b.stands.config c told (each_before password Before.kept Before.calls (calls_of trace opened_) After.calls on f.unforged_config)

      is_left : settings_of left.opened.config ≡ c
      is_left = ap (λ (o : Opened). settings_of o.config) p.opened ∙ is_opened

      forged_first : forgeries_of trace faults opened_ ≡ forgeries c Before
      forged_first = b.calls.forgeries ∙ ap (λ (s : Settings). count_told (forged (opened_of s.key) s.block_size) (trace first_vault)) is_opened

      forged_last : forgeries c After ≡ forgeries_of trace faults left
      forged_last = sym (ap (λ (s : Settings). count_told (forged (opened_of s.key) s.block_size) (trace vault)) is_left) ∙ z.leaves.forgeries

      stood_first : TowerStands shows trace faults G opened_.core first first
      stood_first = b.stands.tree first (subst (λ x. Represents shows Before.kept Before.calls x first) (sym is_opened) f.stands)

      honest_lies : lies After ≤ lies Before → lies_of trace faults left ≤ lies_of trace faults opened_
      honest_lies honest = let l = z.leaves.lies in let g = b.calls.lies in omega (arith, l, g, honest)

      unforged : lies After ≤ lies Before → forgeries c After ≤ forgeries c Before
      unforged honest = let few = p.unforged first stood_first (honest_lies honest) in omega (arith, forged_first, forged_last, few)

    founded : (c : Settings) (first : Tree) → IsFounded shows password c first Before After → Answers shows c first Before After closing es
    founded c first f =
        let is = is_left c first f.opens in
        let few : forgeries_of trace faults left ≤ forgeries_of trace faults opened_ = omega (arith, forged_first c first f.opens, forged_last c first f.opens, f.unforged) in
        let t : PassedTrees shows trace faults G opened_ left first es = p.passes first (stood_first c first f.opens) few in
        let point = latest_kept first es t.trees t.session in
        record {
          trees = t.trees;
          replies = t.session;
          kept = kept_after c is first t.trees point (violated es) refl t.left;
          no_false_alarm = λ honest. calm es refuses (t.alarm (honest_lies c first f.opens honest));
          built = t.built;
          done = done_after c is first t.trees point (violated es) refl t.left;
        }

    refusal_after : violated es ≡ true → IsKeptMarked records After.kept ⊎ RoseBy (all_state_faults es + 1) Before.keeper_faults After.keeper_faults
    refusal_after v =
        let l = z.closes.left (inl (p.flag ∙ v)) in
        elim (p.marked v) [
          | inl m ↦ inl (subst (λ k. IsKeptMarked records (G.kept k)) (sym l.2) m)
          | inr r ↦ inr (let k = ap G.faults l.2 in let g = b.calls.keeper_quiet in omega (arith, r, k, g))
        ]

    -- after a violation closing leaves what is kept, else it keeps that or a record of the mount's store
    kept_closed : (bad : Bool) → violated es ≡ bad → KeptAfter (violated es) (λ id. version_of trace opened_ id + length es) (kept_of G opened_) After.kept
    kept_closed true v =
        kept_on (kept_of G opened_) (kept_of G left) After.kept (violated es) (violated es) (λ id. version_of trace opened_ id + length es) (λ id. version_of trace opened_ id + length es) (λ t. t) (λ id. omega arith)
        (ap G.kept (z.closes.left (inl (p.flag ∙ v))).2) (p.keeps (ap (λ (i : Identity). i.marked) b.opened.ready.identity))
    kept_closed false v =
        let unmarked = ap (λ (i : Identity). i.marked) b.opened.ready.identity in
        kept_by trace (store_of left) (ap (λ (i : Identity). i.marked) p.identity ∙ unmarked) (kept_of G opened_) (kept_of G left) After.kept (violated es) (violated es)
        (λ id. version_of trace opened_ id + length es) (λ id. version_of trace opened_ id + length es) (λ t. t) (λ id. omega arith) p.rose (p.keeps unmarked) (z.closes.kept (p.flag ∙ v))

    kept_file : (file : List ℕ) → is_some Before.calls ≡ true → KeptConfigures records Before.kept Before.calls file → KeptConfigures records After.kept After.calls file
    kept_file file told k = config_after file (violated es) p.flag (p.configures (file ∷ []) file (b.stands.file file told k))

    rests_after : AreIdle es → IsOk closing × (After.kept ≡ kept_of G opened_) × OnlyGot (calls_of trace opened_) After.calls
    rests_after idle =
        let r = p.rests b.opened.unchanged idle in
        let l = z.closes.left (inr r.changed) in
        (l.0, ap G.kept (l.2 ∙ r.keeper), subst (λ (v : V). OnlyGot (calls_of trace opened_) (trace v)) (sym l.1) (loaded_got shows trace faults G (store_of opened_) (store_of left) r.loaded))

    pub session_run : IsSessionRun shows password Before After left.core.violated closing es
    session_run = record {
      attached = record {
        opened = opened_.opened;
        kept = kept_of G opened_;
        calls = calls_of trace opened_;
        attached = b.attached;
        goes_on = goes_on_onward (calls_of trace opened_) (calls_of trace left) (trace vault) p.goes_on z.leaves.goes_on;
      };
      rests = rests_after;
      refuses = refuses;
      answered = p.answered;
      spent = λ version known. spent_of (version_of trace opened_) version (λ id. b.versions b.attached.state b.attached.list b.attached.loaded id ∙ sym (known b.attached.state b.attached.list b.attached.loaded id)) es p.spent;
      violation = p.flag;
      closed = λ v. (z.closes.left (inl (p.flag ∙ v))).0;
      refusal = refusal_after;
      directory_faults_happened = directory_rose closing (all_directory_faults es) _ _ _ _ b.calls.vault_quiet p.vault_cause z.leaves.vault_grows z.leaves.vault_cause;
      state_faults_happened = state_rose closing (all_state_faults es) _ _ _ _ b.calls.keeper_quiet p.keeper_cause z.leaves.keeper_grows z.leaves.keeper_cause;
      directory_quiet = directory_still closing (all_directory_faults es) _ _ _ _ b.calls.vault_quiet p.vault_quiet z.leaves.vault_quiet;
      state_quiet = λ v. state_still closing (all_state_faults es) _ _ _ _ b.calls.keeper_quiet (p.keeper_quiet v) z.leaves.keeper_quiet;
      emptied = λ v. z.closes.emptied (p.flag ∙ v);
      versions = kept_since Before.kept (kept_of G opened_) b.attached.state b.attached.list b.attached.loaded b.attached.kept (version_of trace opened_) b.versions es After.kept (violated es) (kept_closed (violated es) refl);
      least = taken shows trace faults G password first_vault vault first_keeper keeper opened_ left closing b p.level p.least z;
      configures = kept_file;
      opens = λ other c told o. (o.0, o.1, kept_file o.0 told o.2, o.3);
      founded = founded;
      unforged = unforged;
    }

-- what answered the lines has the mount
by_mount : {H : Type 0} {V : Type 0} {K : Type 0} (mount : H → Mount V K) (shows : Showing) (trace : V → Option (List Call)) (faults : V → ℕ) (G : KeeperGhosts K) (old new : H) (es : List Exchange)
    → Ran (mount_hosting mount shows trace faults G) old es new → Ran (mount_hosting (λ (m : Mount V K). m) shows trace faults G) (mount old) es (mount new)
by_mount mount shows trace faults G old new [] r = ap mount r
by_mount mount shows trace faults G old new (e ∷ es) r = (mount r.0, by_mount mount shows trace faults G old r.0 es r.1, r.2)

-- whether a violation stood is what the mount says at last
pub whole : {H : Type 0} {V : Type 0} {K : Type 0} (mount : H → Mount V K) (shows : Showing) (trace : V → Option (List Call)) (faults : V → ℕ) (G : KeeperGhosts K) (password : List ℕ)
    (vault last_vault : V) (keeper last_keeper : K) (old new : H) (es : List Exchange) (closing : Result Unit SyncError) (stood : Bool)
    → Begun shows trace faults G password vault keeper (mount old) → IsReady trace faults G (mount new) → Ran (mount_hosting mount shows trace faults G) old es new
    → Closing shows trace faults G (mount new) closing last_vault last_keeper → stood ≡ (mount new).core.violated
    → IsSessionRun shows password (outside_of trace faults G vault keeper) (outside_of trace faults G last_vault last_keeper) stood closing es
    × OnMount shows trace faults G password vault keeper closing last_vault last_keeper es
whole mount shows trace faults G password vault last_vault keeper last_keeper old new es closing stood b ready ran z is = (
  subst (λ s. IsSessionRun shows password (outside_of trace faults G vault keeper) (outside_of trace faults G last_vault last_keeper) s closing es) (sym is)
      (session_run shows trace faults G es (mount old) (mount new) closing last_vault last_keeper ready (passed mount shows trace faults G old new es b.opened.fresh ran) z
      password vault keeper b (refusing mount shows trace faults G old new es b.opened.fresh ran)),
  record { opened = mount old; left = mount new; begun = b; ran = by_mount mount shows trace faults G old new es ran; closed = z },
)
