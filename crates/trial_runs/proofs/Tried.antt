-- What a trial did, from what the plain tree went through.
use Rattle.std.proofs.Common.{◌≡◌, ◌||◌, ℕ, false, List, [], ◌∷◌, inr, refl, sym, ap, ◌∙◌, subst}
use Rattle.std.specs.Prelude.{Bool}
use Rattle.std.specs.declared.option.Option.{Option}
use Rattle.fs_model.specs.Instant.{Instant}
use Rattle.fs_model.specs.Tree.{Tree, empty_tree}
use Rattle.session_lines.specs.line_io.Reading.{Reading, coming, fresh}
use Rattle.session_lines.specs.line_io.Streams.{Stream}
use Rattle.session_lines.proofs.line_io_lemmas.Flow.{coming-nil}
use Rattle.answers.specs.Hosts.{Ran}
use Rattle.answers.specs.Sessions.{Exchange, Next, violated, latest, IsSession}
use Rattle.session_lines.specs.Asking.{generated}
use Rattle.session_lines.specs.Driven.{EndsAs, Served, Generated as Answered}
use Rattle.session_lines.specs.declared.end.End.{End}
use Rattle.run_status.specs.declared.status.Status.{Status}
use Rattle.trial_runs.specs.declared.trial.Trial.{Trial}
use Rattle.trial_runs.specs.Lawful.{calm}
use Rattle.trial_runs.specs.Plain.{ArePlain, plain}
use Rattle.trial_runs.specs.Runs.{Tried, GeneratedOnPlain, status_of}

-- these trees are those that the exchanges leave, and the last of them is there
record IsPlainSession (first : Tree) (es : List Exchange) (present : Tree) (trees : List Tree) : Type 0 where
  session : IsSession first es trees
  plain : ArePlain es
  last : present ≡ latest first trees

no_violation : (es : List Exchange) → ArePlain es → violated es ≡ false
no_violation [] p = refl
no_violation (e ∷ es) p = ap (λ (b : Bool). b || violated es) (calm e.answer p.0) ∙ no_violation es p.1

-- what a plain tree went through is a session
session_of : {H : Type 0} (tree : H → Tree) (old : H) (es : List Exchange) (new : H) → Ran (plain tree) old es new
    → (trees : List Tree) × IsPlainSession (tree old) es (tree new) trees
session_of tree old [] new r = ([], record { session = tt; plain = tt; last = ap tree r })
session_of tree old (e ∷ es) new r =
    let before = session_of tree old es r.0 r.1 in
    let s = before.1 in (
      tree new ∷ before.0,
      record {
        session = (
          subst (λ (b : Bool). Next b e.at (latest (tree old) before.0) e.asked e.answer (tree new)) (sym (no_violation es s.plain))
              (subst (λ (t : Tree). Next false e.at t e.asked e.answer (tree new)) s.last r.2.1),
          s.session,
        );
        plain = (r.2.0, s.plain);
        last = refl;
      },
    )

-- from the first byte on
from_start : (reader : Reading) (input output : Stream) (es : List Exchange) (end : End) → reader ≡ fresh
    → EndsAs reader.taken (coming reader.ahead input.old) input output es end → EndsAs 0 input.old input output es end
from_start reader input output es end f e =
    subst (λ (c : Option (List ℕ)). EndsAs 0 c input output es end) (coming-nil input.old)
    (subst (λ (r : Reading). EndsAs r.taken (coming r.ahead input.old) input output es end) f e)

pub tried : (now : Instant) (old new : Trial) (reader : Reading) (input output : Stream) (end : End) (status : Status) → old.tree ≡ empty_tree → reader ≡ fresh → status ≡ status_of end
    → Served (plain (λ (t : Trial). t.tree)) now old new reader.taken (coming reader.ahead input.old) input output end
    → Tried now input output status
tried now old new reader input output end status t f u s =
    let h = session_of (λ (t : Trial). t.tree) old s.0 new s.1 in
    inr (
      end,
      u,
      s.0,
      h.0,
      record {
        replies = subst (λ (first : Tree). IsSession first s.0 h.0) t h.1.session;
        moments = s.2;
        plain = h.1.plain;
        ends = from_start reader input output s.0 end f s.3;
      },
    )

pub summed : (now : Instant) (count : ℕ) (old new : Trial) (output : Stream) (end : End) (status : Status) → old.tree ≡ empty_tree → status ≡ status_of end
    → Answered (plain (λ (t : Trial). t.tree)) now old new count output end → GeneratedOnPlain now count output status
summed now count old new output end status t u s =
    let h = session_of (λ (t : Trial). t.tree) old (generated now s.0) new s.1.ran in
    inr (
      end,
      u,
      s.0,
      h.0,
      record {
        replies = subst (λ (first : Tree). IsSession first (generated now s.0) h.0) t h.1.session;
        plain = h.1.plain;
        all = s.1.all;
        written = s.1.written;
      },
    )
