use Rattle.fuse_messages.proofs.Written.{entry_put}
use Rattle.fuse_messages.proofs.attributes.put_entry.Goals as goal

pub returns : goal.returns
returns c =
    entry_put _ _ _ _ _ _ _ _ c.args.entry.now
    c.in_ok-put_u64.ensures.text c.in_ok-put_u64-2.ensures.text c.in_ok-put_u64-3.ensures.text
    c.in_ok-put_u64-4.ensures.text c.in_ok-put_u32.ensures.text c.in_ok-put_u32-2.ensures.text
    c.in_ok-put_attributes.ensures
