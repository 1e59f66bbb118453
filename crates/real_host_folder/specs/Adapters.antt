-- What is seen of a real folder of the host: nothing of what it holds.
use Rattle.std.specs.Prelude.{ℕ}
use Rattle.real_host_folder.specs.declared.host.RealHost.{RealHost}

-- how often a call failed
abbrev pub host_faults : RealHost → ℕ
host_faults h = h.faults
