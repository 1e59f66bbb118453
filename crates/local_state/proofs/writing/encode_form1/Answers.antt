use Rattle.std.proofs.Common.{arith}
use Rattle.local_state.proofs.Written.{each_fits}
use Rattle.local_state.proofs.writing.encode_form1.Goals as goal

pub put_list-requires : goal.put_list-requires
put_list-requires c = each_fits c.args.state.now.known.lives c.args.list.now c.requires.list.each

pub returns-clause-has_record : goal.returns-clause-has_record
returns-clause-has_record c = record {
  state = record { head = c.in_ok-put_older_head.ensures.fits; least = record { from_one = omega (arith, c.requires.least); to_two = omega (arith, c.requires.least) }; client = c.requires.client; lives = c.in_ok-put_known.ensures.fits; count = omega (arith, c.front_len.ensures) };
  entries = c.requires.list;
}
