-- One entry more, and all of them.
use Rattle.dir_entries.proofs.Bodies.{mode_at, body_next, types_next, body_whole}
use Rattle.dir_entries.proofs.encode.encode_entries.Goals as goal

pub put_entry-requires : goal.put_entry-requires
put_entry-requires c = mode_at c.args.entries.now c.loop-entry.entry-index c.entry-item.result c.requires.modes c.loop-entry-test.true c.entry-item.is

pub loop-entry-preserved : goal.loop-entry-preserved
loop-entry-preserved c = record {
  text = body_next c.args.entries.now c.loop-entry.entry-index c.entry-item.result _ _ c.loop-entry-test.true c.entry-item.is c.loop-entry.invariant.text c.in_ok-put_entry.ensures.text;
  types = types_next c.args.entries.now c.loop-entry.entry-index c.entry-item.result c.loop-entry-test.true c.entry-item.is c.in_ok-put_entry.ensures.types c.loop-entry.invariant.types;
}

pub returns : goal.returns
returns c = body_whole c.args.entries.now c.loop-entry.entry-index _ c.loop-entry-test.false c.requires.order c.loop-entry.invariant.text c.loop-entry.invariant.types
