-- A file system that was opened and its password changed, or not.
use Rattle.std.proofs.Common.{◌≡◌, ◌⊎◌, ◌≤◌, ◌+◌, ℕ, true, false, List, [], ◌∷◌, length, ap, refl, sym, ◌∙◌, subst, inl, inr, arith}
use Rattle.std.specs.Prelude.{Result, IsOk, IsErrOf, OnOk, is_some}
use Rattle.std.specs.declared.option.Option.{Option}
use Rattle.std.specs.declared.option.Option.TheVariants.{Some}
use Rattle.std.specs.declared.result.Result.TheVariants.{Ok, Err}
use Rattle.rand_core.specs.Stream.{Stream as Chance}
use Rattle.session_laws.specs.answers.Sessions.{Exchange}
use Rattle.session_laws.specs.store_api.Durables.{Identity}
use Rattle.session_laws.specs.config_file.ConfigOf.{IsOnly, opened}
use Rattle.session_laws.specs.config_file.Settings.{settings_of}
use Rattle.fs_model.specs.Tree.{Tree}
use Rattle.session_laws.specs.block_versions.Standing.{records}
use Rattle.session_laws.specs.line_io.Streams.{Stream}
use Rattle.session_laws.specs.mount_stores.Drawing.{seal_drawn}
use Rattle.session_laws.specs.config_file.Sealing.{sealed_file}
use Rattle.session_laws.specs.mount_stores.Identities.{HasEmptyList}
use Rattle.session_laws.specs.mount.Tower.{tower, TowerStands, TowerConfigures}
use Rattle.session_laws.specs.mount_stores.Tower.{tower_holdings, tower_durables}
use Rattle.session_laws.specs.mount.declared.mount.Mount.{Mount}
use Rattle.session_laws.specs.mount_core.Configuring.{ConfigClosed, KeptOneOf, Replaced}
use Rattle.session_laws.specs.mount_core.Formats.{StaysLeast}
use Rattle.session_laws.specs.mount_core.Keeping.{IsSameOrWaiting, ReplaceKeeps}
use Rattle.session_laws.specs.mount_core.Standing.{IsKeptMarked, Synced}
use Rattle.outside.specs.Causes.{RoseBy}
use Rattle.outside.specs.Going.{GoesOn}
use Rattle.outside.specs.Trace.{Call}
use Rattle.outside.specs.declared.keeper.Keeper.{Ghosts as KeeperGhosts}
use Rattle.session_laws.specs.Drawing.{SealsNone}
use Rattle.session_laws.specs.Openings.{HasCauses}
use Rattle.session_laws.specs.run_frame.Statuses.{closing_status}
use Rattle.run_status.specs.declared.ended.Ended.{Ended}
use Rattle.run_status.specs.declared.status.Status.{Status}
use Rattle.run_status.specs.declared.status.Status.TheVariants.{DirectoryFault, StateFault}
use Rattle.run_status.specs.Statuses.{first_of}
use Rattle.session_laws.specs.Answering.{store_of, calls_of, kept_of, vault_faults, keeper_faults, version_of}
use Rattle.session_laws.specs.Runs.{outside_of, directory_fault, state_fault}
use Rattle.session_laws.specs.Turns.{Begun, Closing}
use Rattle.session_laws.proofs.Keeping.{kept_by, kept_since}
use Rattle.session_laws.specs.Causes.{VersionsSince}
use Rattle.session_laws.specs.Passing.{KeptAfter}
use Rattle.session_laws.specs.record_saver.Saving.{KeptConfigures, UnlessDirectory, UnlessState}
use Rattle.session_laws.specs.record_saver.declared.saver.SyncError.{SyncError}
use Rattle.session_laws.specs.record_saver.declared.saver.SyncError.TheVariants as sync_error
use Rattle.session_laws.specs.mount_core.Showing.{ShowsFiles}
use Rattle.setup_runs.specs.Passwd.{IsChanged, NewOpens}
use Rattle.setup_runs.specs.PasswdText.{Reports, changed_text}
use Rattle.setup_runs.proofs.Closing.{attached_on, calls_on, config_is, config_ok, quiet, told_on}
use Rattle.setup_runs.proofs.Ending.{ends}
use Rattle.setup_runs.proofs.Telling.{printed_causes}

-- what was a fault of the change, or none
fault_directory : (error : SyncError) (v0 v1 : ℕ) → (IsErrOf {T = Unit} (Err error) sync_error.FaultDirectory → RoseBy 1 v0 v1) → closing_status (Err error) ≡ DirectoryFault → RoseBy 1 v0 v1
fault_directory sync_error.FaultDirectory v0 v1 cause e = cause refl
fault_directory sync_error.Memory v0 v1 cause e = absurd (cc)
fault_directory sync_error.FaultState v0 v1 cause e = absurd (cc)

fault_state : (error : SyncError) (k0 k1 : ℕ) → (IsErrOf {T = Unit} (Err error) sync_error.FaultState → RoseBy 1 k0 k1) → closing_status (Err error) ≡ StateFault → RoseBy 1 k0 k1
fault_state sync_error.FaultState k0 k1 cause e = cause refl
fault_state sync_error.Memory k0 k1 cause e = absurd (cc)
fault_state sync_error.FaultDirectory k0 k1 cause e = absurd (cc)

changed_causes : (change : Result Unit SyncError) (v0 v1 v2 v3 k0 k1 k2 k3 : ℕ) (kept0 kept1 : Option (List ℕ)) (t0 t1 : Option (List Call)) (output : Stream) (status : Status) → Reports change output status
    → v0 ≤ v1 → v1 ≤ v2 → v2 ≤ v3 → k0 ≤ k1 → k1 ≤ k2 → k2 ≤ k3
    → (IsErrOf change sync_error.FaultDirectory → RoseBy 1 v1 v2) → (IsErrOf change sync_error.FaultState → RoseBy 1 k1 k2)
    → HasCauses (record { kept = kept0; calls = t0; vault_faults = v0; keeper_faults = k0 }) (record { kept = kept1; calls = t1; vault_faults = v3; keeper_faults = k3 }) status
changed_causes (Ok u) v0 v1 v2 v3 k0 k1 k2 k3 kept0 kept1 t0 t1 output status r a b d e f h vault keeper =
    printed_causes v0 v3 k0 k3 kept0 kept1 t0 t1 output changed_text status r (omega (arith, a, b, d)) (omega (arith, e, f, h))
changed_causes (Err error) v0 v1 v2 v3 k0 k1 k2 k3 kept0 kept1 t0 t1 output status r a b d e f h vault keeper = record {
  vault_grows = omega (arith, a, b, d);
  keeper_grows = omega (arith, e, f, h);
  directory_fault = λ s. let rose = fault_directory error v1 v2 vault (sym r.0 ∙ s) in omega (arith, a, rose, d);
  state_fault = λ s. let rose = fault_state error k1 k2 keeper (sym r.0 ∙ s) in omega (arith, e, rose, h);
}

-- a count is as it was where no fault is named
unnamed_directory : (result : Result Unit SyncError) (P : Type 0) → directory_fault result ≡ 0 → UnlessDirectory result P → P
unnamed_directory (Ok u) P none p = p
unnamed_directory (Err sync_error.Memory) P none p = p
unnamed_directory (Err sync_error.FaultDirectory) P none p = absurd (omega (arith, none))
unnamed_directory (Err sync_error.FaultState) P none p = p

unnamed_state : (result : Result Unit SyncError) (P : Type 0) → state_fault result ≡ 0 → UnlessState result P → P
unnamed_state (Ok u) P none p = p
unnamed_state (Err sync_error.Memory) P none p = p
unnamed_state (Err sync_error.FaultDirectory) P none p = p
unnamed_state (Err sync_error.FaultState) P none p = absurd (omega (arith, none))

both_directory : (change closing : Result Unit SyncError) (v0 v1 v2 v3 : ℕ) → v1 ≡ v0 → UnlessDirectory change (v2 ≡ v1) → UnlessDirectory closing (v3 ≡ v2) → directory_fault change + directory_fault closing ≡ 0 → v3 ≡ v0
both_directory change closing v0 v1 v2 v3 first rest last none =
    unnamed_directory closing (v3 ≡ v2) (omega (arith, none)) last ∙ (unnamed_directory change (v2 ≡ v1) (omega (arith, none)) rest ∙ first)

both_state : (change closing : Result Unit SyncError) (k0 k1 k2 k3 : ℕ) → k1 ≡ k0 → UnlessState change (k2 ≡ k1) → UnlessState closing (k3 ≡ k2) → state_fault change + state_fault closing ≡ 0 → k3 ≡ k0
both_state change closing k0 k1 k2 k3 first rest last none =
    unnamed_state closing (k3 ≡ k2) (omega (arith, none)) last ∙ (unnamed_state change (k2 ≡ k1) (omega (arith, none)) rest ∙ first)

ok_not_memory : {u : Unit {0}} → IsErrOf {E = SyncError} (Ok u) sync_error.Memory → ⊥
ok_not_memory e = cc

module _ {V : Type 0} {K : Type 0} (trace : V → Option (List Call)) (faults : V → ℕ) (G : KeeperGhosts K) (old new : List ℕ) (chance left_chance : Chance) (vault : V) (keeper : K) (first left : Mount V K) (change closing : Result Unit SyncError) (ended : Ended V K)
    (b : Begun ShowsFiles trace faults G old vault keeper first) (unmarked : ¬ IsKeptMarked records (G.kept keeper))
    (z : Closing ShowsFiles trace faults G left closing ended.vault ended.keeper)
    (fresh : left.core.violated ≡ false) (same : left.opened ≡ first.opened) (on : GoesOn (calls_of trace first) (calls_of trace left))
    (unchanged : OnOk change (left.core.saver.changed ≡ false)) where
  abbrev file : List ℕ
  file = sealed_file new first.opened.params (seal_drawn chance).0 (settings_of first.opened.config)

  -- where the change went well, nothing is done to close
  still : (result : Result Unit SyncError) → OnOk result (left.core.saver.changed ≡ false) → IsOk result → IsOk closing × (ended.keeper ≡ left.core.saver.keeper)
  still (Ok u) c ok = let l = z.closes.left (inr c) in (l.0, l.2)
  still (Err e) c ok = absurd (cc)

  stands : ((kept now : Tree) → TowerStands ShowsFiles trace faults G first.core kept now → Synced ShowsFiles (tower trace faults G) left.core kept now change)
      → (tree : Tree) → TowerStands ShowsFiles trace faults G first.core tree tree → TowerStands ShowsFiles trace faults G left.core tree tree
  stands synced tree s = either change (synced tree tree s)
    where
      either : (result : Result Unit SyncError) → Synced ShowsFiles (tower trace faults G) left.core tree tree result → TowerStands ShowsFiles trace faults G left.core tree tree
      either (Ok u) t = t
      either (Err e) (inl t) = t
      either (Err e) (inr t) = t

  -- ---- the configuration's file

  abbrev Opens : Type 0
  Opens = NewOpens new file first.opened (outside_of trace faults G ended.vault ended.keeper)

  abbrev Was : List ℕ → Type 0
  Was was = KeptConfigures records (G.kept ended.keeper) (trace ended.vault) was

  one_of : (was : List ℕ) → KeptOneOf records (G.kept ended.keeper) (trace ended.vault) (was ∷ []) → Was was
  one_of was (bytes, inl e, k) = subst Was e k
  one_of was (bytes, inr none, k) = absurd none

  closed_old : (was : List ℕ) (result : Result Unit SyncError) → ConfigClosed records (G.kept ended.keeper) (trace ended.vault) (was ∷ []) was result → Was was
  closed_old was (Ok u) k = k
  closed_old was (Err e) k = one_of was k

  closed_either : (was : List ℕ) (result : Result Unit SyncError) → ConfigClosed records (G.kept ended.keeper) (trace ended.vault) (file ∷ was ∷ []) file result → Was was ⊎ Was file
  closed_either was (Ok u) k = inr k
  closed_either was (Err e) (bytes, inl is, k) = inr (subst Was is k)
  closed_either was (Err e) (bytes, inr (inl is), k) = inl (subst Was is k)
  closed_either was (Err e) (bytes, inr (inr none), k) = absurd none

  only_new : (was : List ℕ) → IsOnly new file (opened (settings_of first.opened.config) first.opened.params) → Was was ⊎ Was file → Was was ⊎ Opens
  only_new was only (inl k) = inl k
  only_new was only (inr k) = inr (record { holds = k; opens = only })

  stays : (was : List ℕ) (result : Result Unit SyncError) → OnOk result (left.core.saver.changed ≡ false) → TowerConfigures trace G first.core (was ∷ []) was
      → Replaced (tower_holdings trace) (tower_durables trace) records G left.core (was ∷ []) was file result
      → IsOnly new file (opened (settings_of first.opened.config) first.opened.params) ⊎ (IsErrOf result sync_error.Memory × (left ≡ first))
      → Was was ⊎ Opens
  stays was (Ok u) c before r (inl only) = inr (record {
    holds = config_ok (G.kept ended.keeper) (trace ended.vault) (file ∷ []) file closing (z.closes.left (inr c)).0 (z.closes.configures (file ∷ []) file fresh r);
    opens = only;
  })
  stays was (Ok u) c before r (inr none) = absurd (ok_not_memory none.0)
  stays was (Err e) c before (inl r) o = inl (closed_old was closing (z.closes.configures (was ∷ []) was fresh r))
  stays was (Err e) c before (inr r) (inl only) = only_new was only (closed_either was closing (z.closes.configures (file ∷ was ∷ []) file fresh r))
  stays was (Err e) c before (inr r) (inr none) =
      inl (closed_old was closing (z.closes.configures (was ∷ []) was fresh (subst (λ (m : Mount V K). TowerConfigures trace G m.core (was ∷ []) was) (sym none.1) before)))

  opens_after : (result : Result Unit SyncError) → OnOk result (left.core.saver.changed ≡ false) → OnOk result (KeptConfigures records (kept_of G left) (calls_of trace left) file)
      → IsOnly new file (opened (settings_of first.opened.config) first.opened.params) ⊎ (IsErrOf result sync_error.Memory × (left ≡ first)) → OnOk result Opens
  opens_after (Ok u) c k (inl only) =
      let l = z.closes.left (inr c) in
      record {
        holds = subst (λ (x : K). KeptConfigures records (G.kept x) (trace ended.vault) file) (sym l.2) (subst (λ (x : V). KeptConfigures records (kept_of G left) (trace x) file) (sym l.1) k);
        opens = only;
      }
  opens_after (Ok u) c k (inr none) = absurd (ok_not_memory none.0)
  opens_after (Err e) c k o = tt

  emptied : (result : Result Unit SyncError) → OnOk result (left.core.saver.changed ≡ false) → OnOk result (HasEmptyList (kept_of G left)) → OnOk result (HasEmptyList (G.kept ended.keeper))
  emptied (Ok u) c h = subst (λ (k : K). HasEmptyList (G.kept k)) (sym (z.closes.left (inr c)).2) h
  emptied (Err e) c h = tt

  -- ---- the versions in what is kept

  abbrev Most : List ℕ → ℕ
  Most id = version_of trace first id + length {A = Exchange} []

  unmarked_store : ((tower_durables trace).identity (store_of first)).marked ≡ false
  unmarked_store = ap (λ (i : Identity). i.marked) b.opened.ready.identity

  replaced : IsSameOrWaiting (tower trace faults G) (store_of first) file (kept_of G first) (kept_of G left) → KeptAfter false Most (kept_of G first) (kept_of G left)
  replaced (inl same_kept) = inr (inl same_kept)
  replaced (inr (waiting, w, of)) =
      kept_by trace waiting (ap (λ (i : Identity). i.marked) w.identity ∙ unmarked_store) (kept_of G first) (kept_of G first) (kept_of G left) false false Most Most (λ e. e) (λ id. omega arith)
      (λ id. let v = w.stays.version id in omega (arith, v)) (inr (inl refl)) (inr of)

  since : ReplaceKeeps (tower trace faults G) (store_of first) file first.core.saver left.core.saver → (tower_durables trace).identity (store_of left) ≡ (tower_durables trace).identity (store_of first)
      → ((id : List ℕ) → version_of trace left id ≡ version_of trace first id) → VersionsSince (G.kept keeper) (G.kept ended.keeper) []
  since keeps identity versions =
      elim (kept_since (G.kept keeper) (kept_of G first) b.attached.state b.attached.list b.attached.loaded b.attached.kept (version_of trace first) b.versions [] (G.kept ended.keeper) false
      (kept_by trace (store_of left) (ap (λ (i : Identity). i.marked) identity ∙ unmarked_store) (kept_of G first) (kept_of G left) (G.kept ended.keeper) false false Most Most (λ e. e) (λ id. omega arith)
      (λ id. let v = versions id in omega (arith, v)) (replaced keeps.kept) (z.closes.kept fresh))) [
        | inl marked ↦ absurd (cc marked.0)
        | inr s ↦ s
      ]

  pub changed : (status : Status) (output : Stream) → ended.status ≡ first_of status (closing_status closing) → Reports change output status → left_chance ≡ (seal_drawn chance).1
      → ((kept now : Tree) → TowerStands ShowsFiles trace faults G first.core kept now → Synced ShowsFiles (tower trace faults G) left.core kept now change)
      → ((may : List (List ℕ)) (now : List ℕ) → TowerConfigures trace G first.core may now → Replaced (tower_holdings trace) (tower_durables trace) records G left.core may now file change)
      → IsOnly new file (opened (settings_of first.opened.config) first.opened.params) ⊎ (IsErrOf change sync_error.Memory × (left ≡ first))
      → (is_some (calls_of trace first) ≡ true → OnOk change (KeptConfigures records (kept_of G left) (calls_of trace left) file))
      → OnOk change (HasEmptyList (kept_of G left)) → ReplaceKeeps (tower trace faults G) (store_of first) file first.core.saver left.core.saver
      → (tower_durables trace).identity (store_of left) ≡ (tower_durables trace).identity (store_of first) → ((id : List ℕ) → version_of trace left id ≡ version_of trace first id)
      → (tower_durables trace).least (store_of left) ≡ (tower_durables trace).least (store_of first) → StaysLeast (tower trace faults G) (store_of first) (kept_of G first) (kept_of G left)
      → UnlessDirectory change (vault_faults trace faults left ≡ vault_faults trace faults first) → UnlessState change (keeper_faults G left ≡ keeper_faults G first)
      → SealsNone (Some file) (outside_of trace faults G vault keeper) (outside_of trace faults G ended.vault ended.keeper) → IsChanged trace faults G old new chance left_chance output vault keeper ended
  changed status output es r drawn synced configures opens holds empty keeps identity versions level least vault_quiet keeper_quiet sealed = record {
    was = record {
      opened = first.opened;
      kept = kept_of G first;
      calls = calls_of trace first;
      attached = b.attached;
      goes_on = calls_on trace faults G old vault keeper first left closing ended.vault ended.keeper b z fresh same on (stands synced);
    };
    change = change;
    told = status;
    reports = r;
    closing = closing;
    closed = λ ok. (still change unchanged ok).0;
    status = es;
    directory_quiet = both_directory change closing _ _ _ _ b.calls.vault_quiet vault_quiet z.leaves.vault_quiet;
    state_quiet = both_state change closing _ _ _ _ b.calls.keeper_quiet keeper_quiet z.leaves.keeper_quiet;
    drawn = drawn;
    opens = λ told. opens_after change unchanged (holds (told_on (trace vault) (calls_of trace first) (attached_on old (G.kept keeper) (kept_of G first) (trace vault) (calls_of trace first) first.opened b.attached) told)) opens;
    stays = λ was told k. let before = b.stands.file was told k in stays was change unchanged before (configures (was ∷ []) was before) opens;
    emptied = emptied change unchanged empty;
    sealed = sealed;
    versions = since keeps identity versions;
    config = config_is trace faults G old vault keeper first left closing ended.vault ended.keeper b z fresh same on (stands synced);
    unmarked = unmarked;
    quiet = quiet trace faults G old vault keeper first left closing ended.vault ended.keeper b z fresh same on (stands synced) unmarked level least;
  }

  pub caused : (status : Status) (output : Stream) → ended.status ≡ first_of status (closing_status closing) → Reports change output status
      → vault_faults trace faults first ≤ vault_faults trace faults left → (IsErrOf change sync_error.FaultDirectory → RoseBy 1 (vault_faults trace faults first) (vault_faults trace faults left))
      → keeper_faults G first ≤ keeper_faults G left → (IsErrOf change sync_error.FaultState → RoseBy 1 (keeper_faults G first) (keeper_faults G left))
      → HasCauses (outside_of trace faults G vault keeper) (outside_of trace faults G ended.vault ended.keeper) ended.status
  caused status output es r grows cause keeper_grows keeper_cause =
      changed_causes change _ _ _ _ _ _ _ _ _ _ _ _ output ended.status (ends closing output status ended.status es change r (λ ok. (still change unchanged ok).0))
      (let q = b.calls.vault_quiet in omega (arith, q)) grows z.leaves.vault_grows (let q = b.calls.keeper_quiet in omega (arith, q)) keeper_grows z.leaves.keeper_grows cause keeper_cause
