-- What a run reads, writes, draws and copies, before it and after it.
use Rattle.std.specs.Prelude.{◌≤◌}
use Rattle.trial_runs.specs.line_io.Streams.{Stream}
use Rattle.rand_core.specs.Stream.{Stream as Chance}
use Rattle.copy_runs.specs.shell_runs.Hosts.{HostSeen}

-- its input, its output and the host folder, and the random bytes that were to come before it and after it
pub record Streams : Type 0 where
  pub input : Stream
  pub output : Stream
  pub host : HostSeen
  pub chance : Chance
  pub left : Chance

-- the streams that these are
abbrev pub streams_of : Stream → Stream → HostSeen → Chance → Chance → Streams
streams_of input output host chance left = record { input = input; output = output; host = host; chance = chance; left = left }

-- no count of faults falls
pub record NoneFalls (s : Streams) : Type 0 where
  pub input : s.input.faults ≤ s.input.risen
  pub output : s.output.faults ≤ s.output.risen
  pub host : s.host.faults ≤ s.host.risen
