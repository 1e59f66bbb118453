-- A mount as what answers the commands of a copy.
use Rattle.std.specs.Prelude.{◌≡◌, ℕ, List}
use Rattle.std.specs.declared.option.Option.{Option}
use Rattle.std.specs.declared.option.Option.TheVariants.{None}
use Rattle.outside.specs.Trace.{Call}
use Rattle.outside.specs.declared.keeper.Keeper.{Ghosts as KeeperGhosts}
use Rattle.rand_core.specs.Stream.{Stream}
use Rattle.shell_runs.specs.mount.Mounts.{IsReady}
use Rattle.shell_runs.specs.Mounting.{mounted_hosting}
use Rattle.copy_attributes.specs.tree_copy.copy_laws.Questions.{Asking, LawfulAsker}
use Rattle.copy_file.specs.copy_sessions.Hosted.{host_asking}
use Rattle.copy_file.specs.copy_sessions.HostedLaws.{host_lawful}
use Rattle.copy_runs.specs.declared.asker.MountAsker.{MountAsker}

abbrev pub mount_asking : {V : Type 0} → {K : Type 0} → {R : Type 0} → (R → Stream) → (V → Option (List Call)) → (V → ℕ) → KeeperGhosts K → Asking (MountAsker V K R)
mount_asking stream trace faults G = host_asking (mounted_hosting stream trace faults G) (λ a. a.mounted) (λ a. a.now) (λ a. a.kept) (λ a. a.stopped)

pub mount_lawful : {V : Type 0} {K : Type 0} {R : Type 0} (stream : R → Stream) (trace : V → Option (List Call)) (faults : V → ℕ) (G : KeeperGhosts K) → LawfulAsker (mount_asking stream trace faults G)
mount_lawful stream trace faults G = host_lawful (mounted_hosting stream trace faults G) (λ a. a.mounted) (λ a. a.now) (λ a. a.kept) (λ a. a.stopped)

-- its mount serves, and no answer that isn't a reply was kept
pub record IsFresh {V : Type 0} {K : Type 0} {R : Type 0} (trace : V → Option (List Call)) (faults : V → ℕ) (G : KeeperGhosts K) (asker : MountAsker V K R) : Type 0 where
  pub ready : IsReady trace faults G asker.mounted.mount
  pub kept : asker.kept ≡ None
