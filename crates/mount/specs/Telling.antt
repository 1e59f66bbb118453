-- What a mount tells: its store, the calls on its directory, and counts.
use Rattle.std.specs.Prelude.{ℕ, List}
use Rattle.std.specs.declared.option.Option.{Option}
use Rattle.outside.specs.Trace.{Call}
use Rattle.outside.specs.declared.keeper.Keeper.{Ghosts as KeeperGhosts}
use Rattle.mount.specs.declared.mount.Mount.{Mount}
use Rattle.mount_stores.specs.Tower.{Cached, trace_in, tower_meanings, tower_holdings}

abbrev pub store_of : {V : Type 0} → {K : Type 0} → Mount V K → Cached V
store_of mount = mount.core.blobs.tx.store

abbrev pub calls_of : {V : Type 0} → {K : Type 0} → (V → Option (List Call)) → Mount V K → Option (List Call)
calls_of trace mount = trace_in trace (store_of mount)

abbrev pub forgeries_of : {V : Type 0} → {K : Type 0} → (V → Option (List Call)) → (V → ℕ) → Mount V K → ℕ
forgeries_of trace faults mount = (tower_meanings trace faults).forgeries (store_of mount)

abbrev pub lies_of : {V : Type 0} → {K : Type 0} → (V → Option (List Call)) → (V → ℕ) → Mount V K → ℕ
lies_of trace faults mount = (tower_meanings trace faults).lies (store_of mount)

abbrev pub vault_faults : {V : Type 0} → {K : Type 0} → (V → Option (List Call)) → (V → ℕ) → Mount V K → ℕ
vault_faults trace faults mount = (tower_meanings trace faults).faults (store_of mount)

abbrev pub keeper_faults : {V : Type 0} → {K : Type 0} → KeeperGhosts K → Mount V K → ℕ
keeper_faults G mount = G.faults mount.core.saver.keeper

abbrev pub version_of : {V : Type 0} → {K : Type 0} → (V → Option (List Call)) → Mount V K → List ℕ → ℕ
version_of trace mount id = (tower_holdings trace).version (store_of mount) id

abbrev pub kept_of : {V : Type 0} → {K : Type 0} → KeeperGhosts K → Mount V K → Option (List ℕ)
kept_of G mount = G.kept mount.core.saver.keeper
