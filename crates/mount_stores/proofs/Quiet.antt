-- That no fault is passed over, and that what is written forges no block.
use Rattle.std.proofs.Common.{◌≡◌, ◌≢◌, ◌⊎◌, ℕ, List, refl, ap, inl, inr}
use Rattle.std.specs.Prelude.{Result}
use Rattle.std.specs.declared.option.Option.{Option}
use Rattle.std.specs.declared.result.Result.TheVariants.{Ok, Err}
use Rattle.integrity_store.proofs.WriteOuts.{wrote, same_count, forgeries_spare}
use Rattle.integrity_store.specs.block_versions.Forgeries.{forged}
use Rattle.mount_stores.specs.Opening.{error_of}
use Rattle.mount_stores.specs.Tower.{Cached, trace_in, tower_durables}
use Rattle.mount_stores.specs.declared.error.OpenError.{OpenError}
use Rattle.mount_stores.specs.declared.error.OpenError.TheVariants.{FaultDirectory, FaultState}
use Rattle.outside.specs.Honest.{count_told}
use Rattle.outside.specs.Trace.{Call}
use Rattle.outside.specs.declared.vault.GetFail.TheVariants.{Failed}
use Rattle.record_saver.specs.Saving.{UnlessDirectory, UnlessState, Wrote}
use Rattle.record_saver.specs.declared.saver.SyncError.{SyncError}
use Rattle.record_saver.specs.declared.saver.SyncError.TheVariants.{Memory as SyncMemory, FaultDirectory as SyncDirectory, FaultState as SyncState}

-- ---- errors that name no fault

pub err_same : {T : Type 0} {a b : OpenError} → ◌≡◌ {A = Result T OpenError} (Err a) (Err b) → a ≡ b
err_same e = cc

pub ok_err : {T : Type 0} (x : T) (e : OpenError) → ◌≡◌ {A = Result T OpenError} (Ok x) (Err e) → ⊥
ok_err x e is = cc

pub start_directory : (e : SyncError) (P : Type 0) → UnlessDirectory (Err e) P → error_of e ≢ FaultDirectory → P
start_directory SyncMemory P h n = h
start_directory SyncDirectory P h n = absurd (n refl)
start_directory SyncState P h n = h

pub start_state : (e : SyncError) (P : Type 0) → UnlessState (Err e) P → error_of e ≢ FaultState → P
start_state SyncMemory P h n = h
start_state SyncDirectory P h n = h
start_state SyncState P h n = absurd (n refl)

-- ---- writing gives no block

pub stopped_forgeries : {V : Type 0} (trace : V → Option (List Call)) (opens : List ℕ → List ℕ → Option (List ℕ)) (size : ℕ) (before after : Cached V) → (after ≡ before) ⊎ Wrote (tower_durables trace) before after
    → count_told (forged opens size) (trace_in trace after) ≡ count_told (forged opens size) (trace_in trace before)
stopped_forgeries trace opens size before after (inl same) = ap (λ s. count_told (forged opens size) (trace_in trace s)) same
stopped_forgeries trace opens size before after (inr (inl stops)) =
    let D = tower_durables trace in
    same_count (forged opens size) (D.list before) (D.trace before) (D.trace after) (D.list after) (forgeries_spare opens size)
    (wrote (Err Failed) (D.list before) (D.list after) (D.trace before) (D.trace after) tt tt stops)
stopped_forgeries trace opens size before after (inr (inr whole)) =
    let D = tower_durables trace in
    same_count (forged opens size) (D.list before) (D.trace before) (D.trace after) (D.list after) (forgeries_spare opens size)
    (wrote (Ok tt) (D.list before) (D.list after) (D.trace before) (D.trace after) whole.0 whole.1 tt)
