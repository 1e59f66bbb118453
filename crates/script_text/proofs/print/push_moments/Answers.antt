use Rattle.std.proofs.Common.{◌++◌, append_assoc, sym, subst}
use Rattle.script_text.specs.Appending.{Appends}
use Rattle.script_text.specs.Texts.{moment_text, word}
use Rattle.script_text.proofs.Appended.{then_all, stopped}
use Rattle.script_text.proofs.print.push_moments.Goals as goal

pub returns-in_err-push_moment : goal.returns-in_err-push_moment
returns-in_err-push_moment c =
    let a = c.args.attr.now in
    subst (Appends c.args.out.now c.push_moment.new.out c.from_residual.result) (sym (append_assoc (word (moment_text a.atime)) (word (moment_text a.mtime)) (word (moment_text a.ctime))))
    (stopped _ _ _ _ (word (moment_text a.atime)) (word (moment_text a.mtime) ++ word (moment_text a.ctime)) _ c.in_err-push_moment.was c.from_residual.ensures.0 c.push_moment.ensures)

pub returns-in_err-push_moment-2 : goal.returns-in_err-push_moment-2
returns-in_err-push_moment-2 c =
    let a = c.args.attr.now in
    stopped _ _ _ _ (word (moment_text a.atime) ++ word (moment_text a.mtime)) (word (moment_text a.ctime)) _ c.in_err-push_moment-2.was c.from_residual-in_err-push_moment-2.ensures.0
    (then_all _ _ _ _ _ (word (moment_text a.atime)) (word (moment_text a.mtime)) _ c.in_ok-push_moment.was c.push_moment.ensures c.push_moment-2.ensures)

pub returns : goal.returns
returns c =
    let a = c.args.attr.now in
    then_all _ _ _ _ _ (word (moment_text a.atime) ++ word (moment_text a.mtime)) (word (moment_text a.ctime)) _ c.in_ok-push_moment-2.was
    (then_all _ _ _ _ _ (word (moment_text a.atime)) (word (moment_text a.mtime)) _ c.in_ok-push_moment.was c.push_moment.ensures c.push_moment-2.ensures) c.push_moment-3.ensures
