-- The formats of block files that are taken, from how a file system was opened to how it was closed.
use Rattle.std.proofs.Common.{◌≡◌, ◌∙◌, ℕ, List}
use Rattle.std.specs.Prelude.{Result}
use Rattle.std.specs.declared.option.Option.{Option}
use Rattle.outside.specs.Trace.{Call}
use Rattle.outside.specs.declared.keeper.Keeper.{Ghosts as KeeperGhosts}
use Rattle.mount.specs.record_saver.declared.saver.SyncError.{SyncError}
use Rattle.mount.specs.mount_core.Showing.{Showing}
use Rattle.mount.specs.mount_core.Formats.{StaysLeast}
use Rattle.run_frame.specs.mount_stores.Tower.{tower_durables}
use Rattle.mount.specs.declared.mount.Mount.{Mount}
use Rattle.mount.specs.Formats.{TakesSame}
use Rattle.mount.specs.Tower.{tower}
use Rattle.mount.proofs.Formats.{opened_keeps, stays_at, takes_of}
use Rattle.session_laws.specs.Answering.{store_of, calls_of, kept_of}
use Rattle.session_laws.specs.Turns.{Begun, Closing}

module _ {V : Type 0} {K : Type 0} (shows : Showing) (trace : V → Option (List Call)) (faults : V → ℕ) (G : KeeperGhosts K) (password : List ℕ) (vault last_vault : V) (keeper last_keeper : K) (first left : Mount V K)
    (closing : Result Unit SyncError) where
  pub taken : Begun shows trace faults G password vault keeper first → (tower_durables trace).least (store_of left) ≡ (tower_durables trace).least (store_of first)
      → StaysLeast (tower trace faults G) (store_of first) (kept_of G first) (kept_of G left) → Closing shows trace faults G left closing last_vault last_keeper → TakesSame (G.kept keeper) (G.kept last_keeper)
  taken b level stays z = λ least takes.
      let found = b.level least takes in
      let keeps = opened_keeps trace faults G first b.opened.ready b.opened.unchanged password (G.kept keeper) (trace vault) (calls_of trace first) first.opened b.attached least takes in
      let mid = stays_at trace faults G least (store_of first) (kept_of G first) (kept_of G left) found stays keeps in
      takes_of trace least (G.kept last_keeper) (stays_at trace faults G least (store_of left) (kept_of G left) (G.kept last_keeper) (level ∙ found) z.closes.least mid)
