use Rattle.std.specs.Io.KnownBytes.{Keeps}
use Rattle.mount_serving.proofs.channel.give.Given as goal

abbrev pub invariant-tries : goal.invariant-tries
invariant-tries g l = Keeps (g.O.Write.contents l.fn.output) (g.O.Write.contents l.output)
