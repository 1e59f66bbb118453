use Rattle.std.proofs.Common.{arith, length-take, length-drop}
use Rattle.script_text.proofs.Cuts.{cut_found, cut_none}
use Rattle.script_text.proofs.words.cut.Goals as goal

pub returns-in-Some : goal.returns-in-Some
returns-in-Some c =
    let high = c.in-Some.ensures.0.high in
    (cut_found c.args.line.now c.in-Some.n c.in-Some.ensures, simp (length-take, length-drop) (omega arith))

pub returns-in-None : goal.returns-in-None
returns-in-None c = cut_none c.args.line.now c.in-None.ensures
