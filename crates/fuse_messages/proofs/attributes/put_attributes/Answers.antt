use Rattle.fuse_messages.proofs.Written.{attributes_put}
use Rattle.fuse_messages.proofs.attributes.put_attributes.Goals as goal

pub returns : goal.returns
returns c =
    attributes_put _ _ _ _ _ _ _ _ _ _ _ _ c.args.it.now
    c.in_ok-put_u64.ensures.text c.in_ok-put_u64-2.ensures.text c.in_ok-put_u64-3.ensures.text
    c.in_ok-put_times.ensures c.in_ok-put_u32.ensures.text c.in_ok-put_u32-2.ensures.text
    c.in_ok-put_u32-3.ensures.text c.in_ok-put_u32-4.ensures.text c.in_ok-put_u32-5.ensures.text
    c.in_ok-put_u32-6.ensures.text c.in_ok-put_u32-7.ensures.text
