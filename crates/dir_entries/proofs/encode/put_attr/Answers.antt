use Rattle.std.proofs.Common.{arith}
use Rattle.std.proofs.lemmas.Result.{on_ok_weaker}
use Rattle.dir_entries.proofs.Bodies.{attr_put}
use Rattle.dir_entries.proofs.encode.put_attr.Goals as goal

pub returns-clause-text : goal.returns-clause-text
returns-clause-text c =
    on_ok_weaker c.put_moment-3.result
    (attr_put _ _ _ _ _ _ _ _ c.args.attr.now c.kind_byte.result c.kind_byte.ensures c.in_ok-push.ensures.items c.in_ok-put_u32.ensures.text c.in_ok-put_u32-2.ensures.text c.in_ok-put_u32-3.ensures.text
    c.in_ok-put_moment.ensures.text c.in_ok-put_moment-2.ensures.text)
    c.put_moment-3.ensures.text

pub returns-clause-types : goal.returns-clause-types
returns-clause-types c =
    on_ok_weaker c.put_moment-3.result
    (λ _. record {
      mode = c.requires;
      uid = omega arith;
      gid = omega arith;
      atime = c.in_ok-put_moment.ensures.types;
      mtime = c.in_ok-put_moment-2.ensures.types;
      ctime = c.put_moment-3.ensures.types;
    })
    c.put_moment-3.ensures.text
