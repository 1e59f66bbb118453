-- A run that does nothing draws nothing.
use Rattle.std.proofs.Common.{ℕ, Bool, true, false, List}
use Rattle.std.specs.declared.option.Option.{Option}
use Rattle.outside.specs.Trace.{Call}
use Rattle.outside.specs.declared.keeper.Keeper.{Ghosts as KeeperGhosts}
use Rattle.rand_core.specs.Stream.{Stream}
use Rattle.session_laws.proofs.Drawing.{draws_nothing, named_nothing}
use Rattle.session_laws.specs.Drawing.{DrawsVectors, DrawsAs}
use Rattle.session_laws.specs.Runs.{outside_of}

pub undone : {V : Type 0} {K : Type 0} (trace : V → Option (List Call)) (faults : V → ℕ) (G : KeeperGhosts K) (vault : V) (keeper : K) (stream : Stream)
    → DrawsVectors stream stream (outside_of trace faults G vault keeper) (outside_of trace faults G vault keeper)
undone trace faults G vault keeper stream = draws_nothing stream (outside_of trace faults G vault keeper)

pub undone_as : {V : Type 0} {K : Type 0} (trace : V → Option (List Call)) (faults : V → ℕ) (G : KeeperGhosts K) (vault : V) (keeper : K) (stream : Stream) (anew : Bool)
    → DrawsAs anew stream stream (outside_of trace faults G vault keeper) (outside_of trace faults G vault keeper)
undone_as trace faults G vault keeper stream true = named_nothing stream (outside_of trace faults G vault keeper)
undone_as trace faults G vault keeper stream false = draws_nothing stream (outside_of trace faults G vault keeper)
