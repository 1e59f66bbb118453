-- The trees of a copy's session are those of its questions.
use Rattle.std.proofs.Common.{◌≡◌, Bool, true, false, List, [], ◌∷◌, ◌++◌, refl, sym, ap, subst, ◌∙◌}
use Rattle.std.specs.declared.result.Result.{Result}
use Rattle.std.specs.declared.result.Result.TheVariants.{Ok, Err}
use Rattle.fs_model.specs.declared.command.Command.{Command}
use Rattle.fs_model.specs.declared.reply.Reply.{Reply}
use Rattle.fs_model.specs.Instant.{Instant}
use Rattle.fs_model.specs.Tree.{Tree}
use Rattle.session_lines.specs.answers.declared.answer.Answer.{Answer}
use Rattle.session_lines.specs.answers.declared.answer.Answer.TheVariants.{Reply as Replied, Memory, Spent, FaultDirectory, FaultState, Violation, Refused}
use Rattle.session_lines.specs.answers.Sessions.{Follows, Next, latest, violated}
use Rattle.session_lines.specs.answers.Summaries.{is_other}
use Rattle.copy_laws.specs.declared.asker.Stopped.{Stopped}
use Rattle.copy_laws.specs.Questions.{Question, Answered, Followed}
use Rattle.copy_laws.proofs.Copying.{done_merges, import_same}
use Rattle.copy_laws.proofs.Exported.{export_same, export_part}
use Rattle.copy_sessions.specs.Fitting.{WentAs}
use Rattle.copy_sessions.specs.Laws.{CopyFollows, ExportLeaves, ExportLeavesPart, ImportLeaves}

followed_last : (now : Instant) (t mid last : Tree) (qs : List Question) (q : Question) → Followed t now qs mid → Answered mid now q.command q.outcome last → Followed t now (qs ++ q ∷ []) last
followed_last now t mid last [] q h a = (last, (subst (λ z. Answered z now q.command q.outcome last) h a, refl))
followed_last now t mid last (p ∷ qs) q (next, (b, h)) a = (next, (b, followed_last now next mid last qs q h a))

pub true_is_false : true ≡ false → ⊥
true_is_false e = cc

unanswered : (now : Instant) (tree next : Tree) (command : Command) (answer : Answer) → is_other answer ≡ true → Follows now tree command answer next → next ≡ tree
unanswered now tree next command (Replied reply) w f = absurd (true_is_false (sym w))
unanswered now tree next command Memory w f = f
unanswered now tree next command Spent w f = f.2
unanswered now tree next command FaultDirectory w f = f
unanswered now tree next command FaultState w f = f
unanswered now tree next command (Violation why) w f = f
unanswered now tree next command Refused w f = absurd f

by_outcome : (now : Instant) (tree next : Tree) (command : Command) (answer : Answer) (outcome : Result Reply Stopped) → WentAs answer outcome → Follows now tree command answer next → Answered tree now command outcome next
by_outcome now tree next command answer (Ok reply) w f = subst (λ z. Follows now tree command z next) w f
by_outcome now tree next command answer (Err stopped) w f = unanswered now tree next command answer w f

-- a session's next tree is that of the question, after a violation too
answered_next : (bad : Bool) (now : Instant) (tree next : Tree) (command : Command) (answer : Answer) (outcome : Result Reply Stopped) → WentAs answer outcome → Next bad now tree (Ok command) answer next → Answered tree now command outcome next
answered_next true now tree next command answer (Ok reply) w n = absurd (true_is_false (ap is_other (sym n.0 ∙ w)))
answered_next true now tree next command answer (Err stopped) w n = n.1
answered_next false now tree next command answer outcome w n = by_outcome now tree next command answer outcome w n

pub follows : CopyFollows
follows now first qs [] [] f at s = subst (λ z. Followed first now z first) (sym f) refl
follows now first qs [] (tree ∷ trees) f at s = absurd s
follows now first qs (e ∷ es) [] f at s = absurd s
follows now first qs (e ∷ es) (tree ∷ trees) f at s =
    let here = subst (λ z. Next (violated es) z (latest first trees) e.asked e.answer tree) at.0 s.0 in
    let step = subst (λ z. Next (violated es) now (latest first trees) z e.answer tree) f.3.asked here in
    let last = answered_next (violated es) now (latest first trees) tree f.1.command e.answer f.1.outcome f.3.outcome step in
    subst (λ z. Followed first now z tree) (sym f.2) (followed_last now first (latest first trees) tree f.0 f.1 (follows now first f.0 es trees f.4 at.1 s.1) last)

pub leaves : ImportLeaves
leaves folder q t totals now first qs es trees is f at s =
    let h = follows now first qs es trees f at s in
    record {
      merged = done_merges folder q t qs totals now first (latest first trees) is h;
      same = import_same folder q t qs totals now first (latest first trees) is h;
    }

pub exported : ExportLeaves
exported before after q totals now first qs es trees is well f at s = export_same before after q qs totals now first (latest first trees) is well (follows now first qs es trees f at s)

pub part_exported : ExportLeavesPart
part_exported before after q e now first qs es trees is well f at s = export_part before after q qs e now first (latest first trees) is well (follows now first qs es trees f at s)
