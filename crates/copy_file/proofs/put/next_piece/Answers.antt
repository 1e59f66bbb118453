use Rattle.std.proofs.Common.{◌≡◌, ◌≤◌, length, ◌∙◌, arith}
use Rattle.copy_row.proofs.Filling.{cut_written}
use Rattle.copy_file.proofs.Pieces.{taken_cut}
use Rattle.copy_file.proofs.put.next_piece.Goals as goal

pub returns-in-Ok-read_bytes-clause-piece : goal.returns-in-Ok-read_bytes-clause-piece
returns-in-Ok-read_bytes-clause-piece g c =
    let e = c.in-Ok-read_bytes.ensures in
    let whole : length c.read_bytes.new.piece ≡ 1048576 = omega (arith, c.read_bytes.auto.piece, c.deref_mut.ensures.len, c.in-Ok.ensures.len) in
    let few : c.in-Ok-read_bytes.len ≤ length c.read_bytes.new.piece = e.bytes.bound in
    let room : c.in-Ok-read_bytes.len ≤ c.in-Ok.piece.len = omega (arith, few, whole, c.in-Ok.ensures.len) in
    taken_cut _ _ c.in-Ok-read_bytes.len c.read_bytes.new.piece c.truncate.new.self.items whole few
    (c.truncate.ensures.items ∙ cut_written c.in-Ok-read_bytes.len c.in-Ok.piece.len c.read_bytes.new.piece _ few room) e.bytes.read e.bytes.short
