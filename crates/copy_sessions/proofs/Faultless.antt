-- How copies end where nothing failed.
use Rattle.std.proofs.Common.{◌≡◌, ◌⊎◌, ◌∙◌, ℕ, true, List, [], ◌∷◌, ◌++◌, inl, inr, refl, sym, ap, subst}
use Rattle.std.specs.declared.option.Option.{Option}
use Rattle.std.specs.declared.option.Option.TheVariants.{None, Some}
use Rattle.std.specs.declared.result.Result.{Result}
use Rattle.std.specs.declared.result.Result.TheVariants.{Ok, Err}
use Rattle.fs_model.specs.declared.command.Command.{Command}
use Rattle.session_lines.specs.answers.declared.answer.Answer.{Answer}
use Rattle.session_lines.specs.answers.declared.answer.Answer.TheVariants.{Reply as Replied, Memory, Spent, FaultDirectory, FaultState, Violation, Refused}
use Rattle.session_lines.specs.answers.Sessions.{Exchange}
use Rattle.session_lines.specs.answers.Summaries.{is_other}
use Rattle.session_lines.specs.line_io.Streams.{Stream}
use Rattle.outside.specs.Causes.{RoseBy}
use Rattle.run_status.specs.declared.status.Status.{Status}
use Rattle.run_status.specs.declared.status.Status.TheVariants as status
use Rattle.session_lines.specs.declared.end.End.{End}
use Rattle.copy_laws.specs.declared.asker.Stopped.{Stopped}
use Rattle.copy_laws.specs.declared.copied.CopyFail.{CopyFail}
use Rattle.copy_laws.specs.declared.copied.CopyFail.TheVariants as fail
use Rattle.copy_laws.specs.declared.copied.Totals.{Totals}
use Rattle.copy_laws.specs.Ends.{HostCause, EndsBy}
use Rattle.copy_laws.specs.Exporting.{IsExport, IsIdleBy, EndsOut}
use Rattle.copy_laws.specs.Questions.{Question}
use Rattle.copy_laws.specs.host_folder.Folders.{HostPath, HostTree}
use Rattle.copy_sessions.specs.declared.way.Way.{Way}
use Rattle.copy_sessions.specs.declared.way.Way.TheVariants.{In, Out}
use Rattle.copy_sessions.specs.Coming.{IsTold, IsCopyTold}
use Rattle.copy_sessions.specs.Fitting.{Fits, WentAs, kept_by, kept_after}
use Rattle.copy_sessions.specs.Laws.{IsFaultless, AreFaultless, IsEndOf, ImportEnds, ExportEnds}
use Rattle.copy_sessions.specs.Statuses.{copy_status}
use Rattle.copy_sessions.proofs.Asked.{kept_other}

-- ---- a copy that stopped kept an answer

last_in : {A : Type 0} → A → List A → A
last_in d [] = d
last_in d (x ∷ xs) = last_in x xs

last_is : {A : Type 0} (d : A) (xs : List A) (a : A) → last_in d (xs ++ a ∷ []) ≡ a
unfolding last_in
last_is d [] a = refl
last_is d (x ∷ xs) a = last_is x xs a

same_last : {A : Type 0} (xs ys : List A) (a b : A) → xs ++ a ∷ [] ≡ ys ++ b ∷ [] → a ≡ b
same_last xs ys a b e = sym (last_is a xs a) ∙ (ap (last_in a) e ∙ last_is a ys b)

never_empty : {A : Type 0} (xs : List A) (a : A) → xs ++ a ∷ [] ≡ [] → ⊥
never_empty [] a e = cc
never_empty (x ∷ xs) a e = cc

-- the last question of these wasn't answered
pub record HasStopped (qs : List Question) : Type 0 where
  pub front : List Question
  pub last : Command
  pub stopped : Stopped
  pub are : qs ≡ front ++ record { command = last; outcome = Err stopped } ∷ []

some_kept : (qs : List Question) (es : List Exchange) → Fits qs es → HasStopped qs → (before : Option Answer) → (answer : Answer) × ((kept_after before es ≡ Some answer) × (is_other answer ≡ true))
some_kept qs [] f h before = absurd (never_empty h.front _ (sym h.are ∙ f))
some_kept qs (e ∷ es) f h before =
    let same : f.1 ≡ record { command = h.last; outcome = Err h.stopped } = same_last f.0 h.front f.1 (record { command = h.last; outcome = Err h.stopped }) (sym f.2 ∙ h.are) in
    let other : is_other e.answer ≡ true = subst (λ (q : Question). WentAs e.answer q.outcome) same f.3.outcome in
    (e.answer, (sym (kept_other e.answer (kept_after before es) other), other))

-- ---- without a fault it is one of two

kept_fair : (es : List Exchange) → AreFaultless es → (answer : Answer) → kept_after None es ≡ Some answer → IsFaultless answer
kept_fair [] fair answer e = absurd (cc)
kept_fair (x ∷ es) fair answer e = by x.answer (kept_fair es fair.1 answer) fair.0 e
  where
    by : (a : Answer) → (kept_after None es ≡ Some answer → IsFaultless answer) → IsFaultless a → kept_by a (kept_after None es) ≡ Some answer → IsFaultless answer
    by (Replied reply) more f e = more e
    by Memory more f e = let same : Memory ≡ answer = cc in subst IsFaultless same f
    by Spent more f e = let same : Spent ≡ answer = cc in subst IsFaultless same f
    by FaultDirectory more f e = absurd f
    by FaultState more f e = absurd f
    by (Violation why) more f e = absurd f
    by Refused more f e = absurd f

one_of_two : (kept : Option Answer) (own : Status) (answer : Answer) → kept ≡ Some answer → IsFaultless answer → is_other answer ≡ true → own ≡ copy_status (Err fail.Stopped) kept → IsEndOf (Err fail.Stopped) kept own
one_of_two kept own (Replied reply) e f other s = absurd (cc other)
one_of_two kept own Memory e f other s = inl (e, s ∙ ap (copy_status (Err fail.Stopped)) e)
one_of_two kept own Spent e f other s = inr (e, s ∙ ap (copy_status (Err fail.Stopped)) e)
one_of_two kept own FaultDirectory e f other s = absurd f
one_of_two kept own FaultState e f other s = absurd f
one_of_two kept own (Violation why) e f other s = absurd f
one_of_two kept own Refused e f other s = absurd f

abbrev pub OnStopped : Result Totals CopyFail → Type 0 → Type 0
OnStopped (Err fail.Stopped) P = P
OnStopped result P = Unit {0}

pub by_result : (qs : List Question) (es : List Exchange) (result : Result Totals CopyFail) (own : Status) (faults risen : ℕ) → Fits qs es → OnStopped result (HasStopped qs) → HostCause faults risen result → AreFaultless es → ¬ RoseBy 1 faults risen
    → own ≡ copy_status result (kept_after None es) → IsEndOf result (kept_after None es) own
by_result qs es (Ok totals) own faults risen f stopped h fair calm s = s
by_result qs es (Err fail.Memory) own faults risen f stopped h fair calm s = s
by_result qs es (Err fail.Host) own faults risen f stopped h fair calm s = absurd (calm h.1)
by_result qs es (Err fail.Stopped) own faults risen f stopped h fair calm s =
    let k = some_kept qs es f stopped None in
    one_of_two (kept_after None es) own k.0 k.1.0 (kept_fair es fair k.0 k.1.0) k.1.1 s
by_result qs es (Err (fail.LongPath p)) own faults risen f stopped h fair calm s = s
by_result qs es (Err (fail.Refused p e)) own faults risen f stopped h fair calm s = s

pub ends : (way : Way) (qs : List Question) (es : List Exchange) (result : Result Totals CopyFail) (output : Stream) (end : End) (own : Status) (faults risen : ℕ) → Fits qs es → OnStopped result (HasStopped qs) → HostCause faults risen result
    → IsCopyTold way result (kept_after None es) output end own → AreFaultless es → ¬ RoseBy 1 faults risen → (own ≡ status.Memory) ⊎ IsEndOf result (kept_after None es) own
ends way qs es result output end own faults risen f stopped h t fair calm = by t.is
  where
    by : IsTold way result (kept_after None es) t.told → (own ≡ status.Memory) ⊎ IsEndOf result (kept_after None es) own
    by (inl same) = inr (by_result qs es result own faults risen f stopped h fair calm (t.status ∙ ap (λ z. copy_status z (kept_after None es)) same))
    by (inr long) = inl (t.status ∙ ap (λ z. copy_status z (kept_after None es)) long.1)

-- ---- of an import

import_stopped : (q : HostPath) (t : HostTree) (qs : List Question) (result : Result Totals CopyFail) → EndsBy q t qs result → OnStopped result (HasStopped qs)
import_stopped q t qs (Ok totals) e = tt
import_stopped q t qs (Err fail.Memory) e = tt
import_stopped q t qs (Err fail.Host) e = tt
import_stopped q t qs (Err fail.Stopped) e = let l = e.0.2 in record { front = l.front; last = l.last; stopped = e.0.1; are = l.are }
import_stopped q t qs (Err (fail.LongPath p)) e = tt
import_stopped q t qs (Err (fail.Refused p f)) e = tt

pub import_ends : ImportEnds
import_ends folder faults risen target input output end own es s fair calm =
    ends In s.qs es s.result output end own faults risen s.fits (import_stopped target s.tree s.qs s.result s.is.ends) s.host s.told fair calm

-- ---- of an export

idle_stopped : (before : Option HostTree) (qs : List Question) (result : Result Totals CopyFail) → IsIdleBy before result → OnStopped result (HasStopped qs)
idle_stopped before qs (Ok totals) e = tt
idle_stopped before qs (Err fail.Memory) e = tt
idle_stopped before qs (Err fail.Host) e = tt
idle_stopped before qs (Err fail.Stopped) e = absurd e
idle_stopped before qs (Err (fail.LongPath p)) e = tt
idle_stopped before qs (Err (fail.Refused p f)) e = tt

begun_stopped : (before after : Option HostTree) (q : HostPath) (qs : List Question) (result : Result Totals CopyFail) → EndsOut before after q qs result → OnStopped result (HasStopped qs)
begun_stopped before after q qs (Ok totals) e = tt
begun_stopped before after q qs (Err fail.Memory) e = tt
begun_stopped before after q qs (Err fail.Host) e = tt
begun_stopped before after q qs (Err fail.Stopped) e = let l = e.0.1.1 in record { front = l.front; last = l.last; stopped = e.0.1.0; are = l.are }
begun_stopped before after q qs (Err (fail.LongPath p)) e = tt
begun_stopped before after q qs (Err (fail.Refused p f)) e = tt

export_stopped : (before after : Option HostTree) (q : HostPath) (qs : List Question) (result : Result Totals CopyFail) → IsExport before after q qs result → OnStopped result (HasStopped qs)
export_stopped before after q qs result (inl idle) = idle_stopped before qs result idle.ends
export_stopped before after q qs result (inr begun) = begun_stopped before after q qs result begun.ends

pub export_ends : ExportEnds
export_ends before after faults risen source input output end own es s fair calm =
    ends Out s.qs es s.result output end own faults risen s.fits (export_stopped before after source s.qs s.result s.is) s.host s.told fair calm
