-- What the blocks of an opened file system mean where they are loaded past the cache.
use Rattle.std.specs.Prelude.{◌≡◌, ℕ, List}
use Rattle.std.specs.declared.option.Option.{Option}
use Rattle.mount.specs.block_cache.Through.{holdings_past}
use Rattle.mount.specs.block_versions.Held.{Held}
use Rattle.mount.specs.Answering.{store_of, calls_of, forgeries_of, lies_of, vault_faults}
use Rattle.mount.specs.Mounts.{IsReady}
use Rattle.mount.specs.declared.mount.Mount.{Mount}
use Rattle.mount.specs.mount_stores.Tower.{held_in, tower_meanings, tower_holdings}
use Rattle.mount.specs.store_outcome.Meanings.{Meanings}
use Rattle.outside.specs.Trace.{Call}
use Rattle.outside.specs.declared.keeper.Keeper.{Ghosts as KeeperGhosts}
use Rattle.mount.specs.store_api.Holdings.{Holdings}
use Rattle.check_blocks.specs.declared.examined.Examined.{Examined}

-- what its store of blocks holds, and the calls on its directory
abbrev pub held_of : {V : Type 0} → {K : Type 0} → Examined V K → Held
held_of e = held_in (store_of e.mount)

abbrev pub trace_of : {V : Type 0} → {K : Type 0} → (V → Option (List Call)) → Examined V K → Option (List Call)
trace_of trace e = calls_of trace e.mount

-- all that a mount holds beside its store of blocks is the same
pub record SameBeside {V : Type 0} {K : Type 0} (old new : Mount V K) : Type 0 where
  pub opened : new.opened ≡ old.opened
  pub root : new.core.root ≡ old.core.root
  pub violated : new.core.violated ≡ old.core.violated
  pub saver : new.core.saver ≡ old.core.saver
  pub overlay : new.core.blobs.tx.overlay ≡ old.core.blobs.tx.overlay
  pub cached : (store_of new).cached ≡ (store_of old).cached

-- Blocks were only loaded, and nothing else was done with the mount.
pub record OnlyExamined {V : Type 0} {K : Type 0} (trace : V → Option (List Call)) (faults : V → ℕ) (old new : Mount V K) : Type 0 where
  pub loaded : (tower_meanings trace faults).loaded (store_of old) (store_of new)
  pub beside : SameBeside old new

-- those of its store, of a mount that is ready; it is sound where what is cached agrees with the store too
abbrev pub examined_meanings : {V : Type 0} → {K : Type 0} → (V → Option (List Call)) → (V → ℕ) → KeeperGhosts K → Meanings (Examined V K)
examined_meanings trace faults G = record {
  intact = λ e. IsReady trace faults G e.mount;
  sound = λ e. (tower_meanings trace faults).sound (store_of e.mount);
  forgeries = λ e. forgeries_of trace faults e.mount;
  lies = λ e. lies_of trace faults e.mount;
  faults = λ e. vault_faults trace faults e.mount;
  loaded = λ a b. OnlyExamined trace faults a.mount b.mount;
  met = λ a b. (tower_meanings trace faults).met (store_of a.mount) (store_of b.mount);
  gave = λ a b. (tower_meanings trace faults).gave (store_of a.mount) (store_of b.mount);
}

abbrev pub examined_holdings : {V : Type 0} → {K : Type 0} → (V → Option (List Call)) → Holdings (Examined V K)
examined_holdings trace = holdings_past (λ e. store_of e.mount) (tower_holdings trace)
