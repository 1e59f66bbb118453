use Rattle.std.proofs.Common.{◌≡◌, List, ℕ, false, sym, ap, ◌∙◌, subst, rules, Bor}
use Rattle.std.specs.declared.option.Option.{Option}
use Rattle.std.specs.Option.{option_copied}
use Rattle.fs_model.specs.declared.error.FsError.TheVariants.{BadLine}
use Rattle.fs_model.specs.declared.reply.Reply.TheVariants.{Error}
use Rattle.answers.specs.declared.answer.Answer.TheVariants.{Reply as Replied}
use Rattle.answers.specs.Sessions.{Asked}
use Rattle.session_lines.proofs.Telling.{long_is_bad}
use Rattle.session_lines.proofs.tell.answer_line.Goals as goal

pub returns-in-None-clause-answered : goal.returns-in-None-clause-answered
returns-in-None-clause-answered g c = λ whole e.
    let M = g.H.Host.hosting in
    let host = c.args.host.now in
    let serves : M.refuses host ≡ false = search rules in
    let bad = long_is_bad whole (sym (ap (λ (line : Option (Bor (List ℕ))). option_copied line) c.in-None.is) ∙ e) in
    subst (λ (asked : Asked). M.answers host c.args.now asked (Replied (Error BadLine)) host) (sym bad) (g.met.H.Host.lawful.bad host c.args.now BadLine c.requires.ready serves)
