use Rattle.std.specs.Fmt.{decimal}
use Rattle.std.proofs.Common.{◌++◌, append_assoc}
use Rattle.script_text.specs.Texts.{octal, word}
use Rattle.script_text.proofs.Appended.{then_all, stopped}
use Rattle.script_text.proofs.print.push_numbers.Goals as goal

pub returns-in_err-push_octal : goal.returns-in_err-push_octal
returns-in_err-push_octal c =
    let a = c.args.attr.now in
    simp append_assoc
    (stopped _ _ _ _ (word (octal a.mode)) (word (decimal a.uid) ++ (word (decimal a.gid) ++ word (decimal c.args.size))) _ c.in_err-push_octal.was c.from_residual.ensures.0 c.push_octal.ensures)

pub returns-in_err-push_decimal : goal.returns-in_err-push_decimal
returns-in_err-push_decimal c =
    let a = c.args.attr.now in
    simp append_assoc
    (then_all _ _ _ _ _ (word (octal a.mode)) (word (decimal a.uid) ++ (word (decimal a.gid) ++ word (decimal c.args.size))) _ c.in_ok-push_octal.was c.push_octal.ensures
    (stopped _ _ _ _ (word (decimal a.uid)) (word (decimal a.gid) ++ word (decimal c.args.size)) _ c.in_err-push_decimal.was c.from_residual-in_err-push_decimal.ensures.0 c.push_decimal.ensures))

pub returns-in_err-push_decimal-2 : goal.returns-in_err-push_decimal-2
returns-in_err-push_decimal-2 c =
    let a = c.args.attr.now in
    stopped _ _ _ _ (word (octal a.mode) ++ word (decimal a.uid) ++ word (decimal a.gid)) (word (decimal c.args.size)) _ c.in_err-push_decimal-2.was c.from_residual-in_err-push_decimal-2.ensures.0
    (then_all _ _ _ _ _ (word (octal a.mode) ++ word (decimal a.uid)) (word (decimal a.gid)) _ c.in_ok-push_decimal.was
    (then_all _ _ _ _ _ (word (octal a.mode)) (word (decimal a.uid)) _ c.in_ok-push_octal.was c.push_octal.ensures c.push_decimal.ensures) c.push_decimal-2.ensures)

pub returns : goal.returns
returns c =
    let a = c.args.attr.now in
    then_all _ _ _ _ _ (word (octal a.mode) ++ word (decimal a.uid) ++ word (decimal a.gid)) (word (decimal c.args.size)) _ c.in_ok-push_decimal-2.was
    (then_all _ _ _ _ _ (word (octal a.mode) ++ word (decimal a.uid)) (word (decimal a.gid)) _ c.in_ok-push_decimal.was
    (then_all _ _ _ _ _ (word (octal a.mode)) (word (decimal a.uid)) _ c.in_ok-push_octal.was c.push_octal.ensures c.push_decimal.ensures) c.push_decimal-2.ensures) c.push_decimal-3.ensures
