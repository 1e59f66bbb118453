-- A mount: what it tells, and what a line leaves of it.
use Rattle.std.specs.Prelude.{◌≡◌, ℕ, List}
use Rattle.std.specs.declared.option.Option.{Option}
use Rattle.fs_model.specs.Instant.{Instant}
use Rattle.fs_model.specs.Tree.{Tree}
use Rattle.outside.specs.Trace.{Call}
use Rattle.outside.specs.declared.keeper.Keeper.{Ghosts as KeeperGhosts}
use Rattle.mount_core.specs.answers.declared.answer.Answer.{Answer}
use Rattle.mount_core.specs.answers.Sessions.{Asked}
use Rattle.mount_core.specs.Showing.{Showing}
use Rattle.mount_core.specs.Answering.{LineAnswers, LineAnswered as CoreAnswered}
use Rattle.mount.specs.declared.mount.Mount.{Mount}
use Rattle.mount_stores.specs.Tower.{tower_durables}
use Rattle.mount.specs.Owning.{KeepsOwn}
use Rattle.mount.specs.Sealing.{view_of}
pub use Rattle.mount.specs.Telling.{store_of, calls_of, forgeries_of, lies_of, vault_faults, keeper_faults, version_of, kept_of}
use Rattle.mount.specs.Tower.{tower}

-- ---- an answer

-- the tree that an answer leaves, and where it leaves the mount
abbrev pub LineAnswered : {V : Type 0} → {K : Type 0} → Showing → (V → Option (List Call)) → (V → ℕ) → KeeperGhosts K → Instant → Mount V K → Tree → Tree → Asked → Answer → Type 0
LineAnswered shows trace faults G now mount kept present asked answer = CoreAnswered shows (tower trace faults G) now mount.core kept present asked answer

-- asked this, the mount gave this answer and is so afterwards
pub record MountAnswers {V : Type 0} {K : Type 0} (shows : Showing) (trace : V → Option (List Call)) (faults : V → ℕ) (G : KeeperGhosts K) (now : Instant) (old : Mount V K) (asked : Asked) (answer : Answer) (new : Mount V K) : Type 0 where
  pub opened : new.opened ≡ old.opened
  pub line : LineAnswers shows (tower trace faults G) now old.core asked answer new.core
  -- what it seals is its own client's
  pub own : KeepsOwn ((tower_durables trace).identity (store_of old)) (view_of trace old) (view_of trace new)
