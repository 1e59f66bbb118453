-- How runs end.
use Rattle.std.specs.Prelude.{Bool}
use Rattle.run_status.specs.declared.status.Status.{Status}
use Rattle.run_status.specs.contracts.status.StatusPartialEq.TheImpl as partial_eq

-- whether two statuses are the same
abbrev pub same_status : Status → Status → Bool
same_status a b = partial_eq.ghosts.eq a b
