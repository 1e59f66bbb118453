use Rattle.std.proofs.lemmas.Result.{on_ok_weaker}
use Rattle.dir_entries.proofs.Bodies.{moment_put}
use Rattle.dir_entries.proofs.encode.put_moment.Goals as goal

pub returns-clause-text : goal.returns-clause-text
returns-clause-text c =
    on_ok_weaker c.put_u32.result (moment_put _ _ _ c.args.moment c.secs.result c.nanos.result c.secs.ensures c.nanos.ensures.value c.in_ok-put_u64.ensures.text) c.put_u32.ensures.text
