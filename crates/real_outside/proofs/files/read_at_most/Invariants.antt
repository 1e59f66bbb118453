use Rattle.std.proofs.Common.{◌≡◌, ◌≤◌, length}
use Rattle.std.specs.Io.KnownBytes.{Consumes}
use Rattle.real_outside.proofs.files.read_at_most.Given as goal

abbrev pub invariant-loop : goal.invariant-loop
invariant-loop g l = (length l.bytes.items ≤ l.max) × (l.max ≡ l.initial.max) × Consumes (g.F.Read.remaining l.initial.file) (g.F.Read.remaining l.file) l.bytes.items
