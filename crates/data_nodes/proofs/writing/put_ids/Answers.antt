-- One id more, and all of them.
use Rattle.std.proofs.Common.{◌∙◌}
use Rattle.data_nodes.proofs.Laws.{concat-next_id, sized_next, sized_all}
use Rattle.data_nodes.proofs.writing.put_ids.Goals as goal

pub loop-id-preserved : goal.loop-id-preserved
loop-id-preserved c = record {
  text = c.in_ok-put_id.ensures.text ∙ concat-next_id c.args.out.now.items c.args.ids.now c.loop-id.id-index _ _ c.loop-id-test.true c.loop-id.invariant.text;
  types = sized_next c.args.ids.now c.loop-id.id-index _ c.loop-id-test.true c.put_id.ensures.len c.loop-id.invariant.types;
}

pub returns-clause-types : goal.returns-clause-types
returns-clause-types c = sized_all c.args.ids.now c.loop-id.id-index c.loop-id-test.false c.loop-id.invariant.types
