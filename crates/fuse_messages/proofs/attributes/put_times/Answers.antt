use Rattle.fuse_messages.proofs.Written.{times_put}
use Rattle.fuse_messages.proofs.attributes.put_times.Goals as goal

pub returns : goal.returns
returns c =
    times_put _ _ _ _ _ _ _ c.args.times.now
    c.in_ok-put_u64.ensures.text c.in_ok-put_u64-2.ensures.text c.in_ok-put_u64-3.ensures.text
    c.in_ok-put_u32.ensures.text c.in_ok-put_u32-2.ensures.text c.in_ok-put_u32-3.ensures.text
