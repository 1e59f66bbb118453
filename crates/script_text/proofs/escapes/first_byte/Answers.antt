use Rattle.std.proofs.Common.{arith}
use Rattle.std.proofs.Common.{length-take, length-drop}
use Rattle.script_text.proofs.Spelled.{unescaped_plain, unescaped_cut, unescaped_no_x, unescaped_byte}
use Rattle.script_text.proofs.escapes.first_byte.Goals as goal
use Rattle.script_text.proofs.escapes.first_byte.Goals.{then-word-lt4-via-then-word-lt4, then-word-lt4-via-else-word-lt4+then-word-ne120}

pub returns-then-word-ne92 : goal.returns-then-word-ne92
returns-then-word-ne92 c =
    let w = c.args.word.now in
    (unescaped_plain w c.requires c.if-word-ne92.true, simp (length-take, length-drop) (omega arith))

pub returns-then-word-lt4 : goal.returns-then-word-lt4
returns-then-word-lt4 c =
    elim c.then-word-lt4.branch [
      | then-word-lt4-via-then-word-lt4 w ↦ unescaped_cut c.args.word.now c.requires c.if-word-ne92.false w.if-word-lt4.true
      | then-word-lt4-via-else-word-lt4+then-word-ne120 w ↦ unescaped_no_x c.args.word.now w.if-word-lt4.false c.if-word-ne92.false w.if-word-ne120.true
    ]

pub returns-in_err-byte : goal.returns-in_err-byte
returns-in_err-byte c =
    rw c.from_residual.ensures (unescaped_byte c.args.word.now _ c.if-word-lt4.false c.if-word-ne92.false c.if-word-ne120.false c.in_err-byte.ensures)

pub returns : goal.returns
returns c = (
  unescaped_byte c.args.word.now _ c.if-word-lt4.false c.if-word-ne92.false c.if-word-ne120.false c.in_ok-byte.ensures,
  simp (length-take, length-drop) (omega arith),
)
