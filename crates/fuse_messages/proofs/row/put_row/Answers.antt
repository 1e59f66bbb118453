use Rattle.fuse_messages.proofs.Written.{row_put}
use Rattle.fuse_messages.proofs.row.put_row.Goals as goal

pub returns : goal.returns
returns c =
    row_put _ _ _ _ _ _ _ c.args.row.now.node c.args.row.now.place c.args.row.now.kind c.args.row.now.name.now
    c.in_ok-put_u64.ensures.text c.in_ok-put_u64-2.ensures.text c.in_ok-put_u32.ensures.text
    c.in_ok-put_u32-2.ensures.text c.in_ok-extend_from_slice.ensures.items c.in_ok-put_fill.ensures
