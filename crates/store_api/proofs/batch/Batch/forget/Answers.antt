use Rattle.std.proofs.Common.{ap, ◌∙◌}
use Rattle.std.specs.FinMap as fin
use Rattle.store_api.proofs.Places.{sorted-others, changes-remove}
use Rattle.store_api.proofs.batch.Batch.forget.Goals as goal

pub invariant_of-self : goal.invariant_of-self
invariant_of-self c = sorted-others c.self.inside.entries.items c.take_out.new.entries.items c.args.id.now.0 c.self.invariant c.take_out.ensures

pub returns : goal.returns
returns c = changes-remove c.self.inside.entries.items c.take_out.new.entries.items c.args.id.now.0 c.self.invariant c.take_out.ensures ∙ ap (λ m. fin.remove m c.args.id.now.0) c.self.view_is
