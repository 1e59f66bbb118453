-- What has a mount and a generator as what answers commands.
use Rattle.std.specs.Prelude.{ℕ, List}
use Rattle.std.specs.declared.option.Option.{Option}
use Rattle.session_laws.specs.answers.Hosts.{Hosting, LawfulHost}
use Rattle.outside.specs.Trace.{Call}
use Rattle.outside.specs.declared.keeper.Keeper.{Ghosts as KeeperGhosts}
use Rattle.rand_core.specs.Stream.{Stream}
use Rattle.session_laws.specs.Answering.{drawing_hosting}
use Rattle.session_laws.specs.Lawful.{drawing_lawful}
use Rattle.shell_runs.specs.declared.mounted.Mounted.{Mounted}
use Rattle.mount_calls.specs.path_layer.Showing.{ShowsFiles}

abbrev pub mounted_hosting : {V : Type 0} → {K : Type 0} → {R : Type 0} → (R → Stream) → (V → Option (List Call)) → (V → ℕ) → KeeperGhosts K → Hosting (Mounted V K R)
mounted_hosting stream trace faults G = drawing_hosting (λ m. m.mount) (λ m. stream m.chance.now) (λ m. m.chance.ghost_name) ShowsFiles trace faults G

pub mounted_lawful : {V : Type 0} {K : Type 0} {R : Type 0} (stream : R → Stream) (trace : V → Option (List Call)) (faults : V → ℕ) (G : KeeperGhosts K) → LawfulHost (mounted_hosting stream trace faults G)
mounted_lawful stream trace faults G = drawing_lawful (λ m. m.mount) (λ m. stream m.chance.now) (λ m. m.chance.ghost_name) ShowsFiles trace faults G
