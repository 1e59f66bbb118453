use Rattle.std.proofs.Common.{◌≡◌, ◌≤◌, length, ◌∙◌, arith}
use Rattle.copy_row.proofs.Filling.{piece_of, cut_written}
use Rattle.copy_row.proofs.bytes.next_piece.Goals as goal

pub returns-in-Ok-fill-clause-told : goal.returns-in-Ok-fill-clause-told
returns-in-Ok-fill-clause-told g c =
    let whole : length c.fill.new.piece ≡ 1048576 = omega (arith, c.fill.auto.piece, c.deref_mut.ensures.len, c.in-Ok.ensures.len) in
    let few : c.in-Ok-fill.len ≤ length c.fill.new.piece = c.in-Ok-fill.ensures.len in
    let room : c.in-Ok-fill.len ≤ c.in-Ok.piece.len = omega (arith, few, whole, c.in-Ok.ensures.len) in
    piece_of (g.F.Folder.tree c.args.host.now) c.args.path.now c.args.from c.in-Ok-fill.len c.fill.new.piece c.truncate.new.self.items whole
    (c.truncate.ensures.items ∙ cut_written c.in-Ok-fill.len c.in-Ok.piece.len c.fill.new.piece _ few room) c.in-Ok-fill.ensures.told
