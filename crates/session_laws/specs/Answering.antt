-- A mount as what answers commands.
use Rattle.std.specs.Prelude.{ℕ, List}
use Rattle.std.specs.declared.option.Option.{Option}
use Rattle.outside.specs.Trace.{Call}
use Rattle.outside.specs.declared.keeper.Keeper.{Ghosts as KeeperGhosts}
use Rattle.rand_core.specs.Stream.{Stream}
use Rattle.run_frame.specs.answers.Hosts.{Hosting}
use Rattle.mount.specs.mount_core.Showing.{Showing}
use Rattle.mount.specs.declared.mount.Mount.{Mount}
use Rattle.mount.specs.Mounts.{IsReady}
use Rattle.mount.specs.Sealing.{SealsFresh, view_of}
pub use Rattle.mount.specs.Answering.{store_of, calls_of, forgeries_of, lies_of, vault_faults, keeper_faults, version_of, kept_of, LineAnswered, MountAnswers}

-- what has a mount answers by it
abbrev pub mount_hosting : {H : Type 0} → {V : Type 0} → {K : Type 0} → (H → Mount V K) → Showing → (V → Option (List Call)) → (V → ℕ) → KeeperGhosts K → Hosting H
mount_hosting mount shows trace faults G = record {
  ready = λ h. IsReady trace faults G (mount h);
  refuses = λ h. (mount h).core.violated;
  chance = λ h. 0;
  answers = λ old now asked answer new. MountAnswers shows trace faults G now (mount old) asked answer (mount new);
}

-- what has a generator besides, by this name and with this stream, draws from it for each file that is sealed
abbrev pub drawing_hosting : {H : Type 0} → {V : Type 0} → {K : Type 0} → (H → Mount V K) → (H → Stream) → (H → ℕ) → Showing → (V → Option (List Call)) → (V → ℕ) → KeeperGhosts K → Hosting H
drawing_hosting mount stream chance shows trace faults G = record {
  ready = λ h. IsReady trace faults G (mount h);
  refuses = λ h. (mount h).core.violated;
  chance = chance;
  answers = λ old now asked answer new.
      MountAnswers shows trace faults G now (mount old) asked answer (mount new) × SealsFresh (stream old) (stream new) (view_of trace (mount old)) (view_of trace (mount new));
}
