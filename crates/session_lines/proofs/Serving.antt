-- Lines that are answered one after another.
use Rattle.std.proofs.Common.{◌≡◌, ◌⊎◌, ◌^◌, ◌++◌, [], ◌∷◌, ℕ, List, map, inl, inr, ap, ◌∙◌, sym, subst, refl, append_assoc, append-nil}
use Rattle.std.proofs.lemmas.List.{map-append}
use Rattle.std.specs.declared.option.Option.{Option}
use Rattle.std.specs.declared.option.Option.TheVariants.{None, Some}
use Rattle.fs_model.specs.Instant.{Instant}
use Rattle.outside.specs.Causes.{RoseBy}
use Rattle.outside.specs.Streams.{appends, Ends}
use Rattle.line_io.specs.Lines.{lines}
use Rattle.line_io.specs.Reading.{Line, EndsLine, TookNoLine, total}
use Rattle.line_io.specs.Streams.{Cut, HasFailed, TookMost}
use Rattle.line_io.proofs.Flow.{appends-append, appends-nil}
use Rattle.answers.specs.script_text.Grammar.{command_of}
use Rattle.answers.specs.declared.answer.Answer.{Answer}
use Rattle.answers.specs.Hosts.{Hosting, Ran}
use Rattle.answers.specs.Sessions.{Exchange, AllAt}
use Rattle.answers.specs.Texts.{text_of_answer}
use Rattle.session_lines.specs.declared.end.End.{End}
use Rattle.session_lines.specs.declared.end.End.TheVariants.{Finished, InputFault, OutputFault}
use Rattle.session_lines.specs.Asking.{asked_in, said_in, ended_lines, AskedFirst, AskedAll, AskedTaken}
use Rattle.session_lines.specs.Driven.{Took, Stopped, Served}

-- a newline stands behind each of the lines and in front of what is left, or nothing is left
abbrev EndLines : List ℕ → List (List ℕ) → List ℕ → Type 0
EndLines bytes some rest = (bytes ≡ ended_lines some ++ rest) ⊎ (rest ≡ [])

ended-append : (some : List (List ℕ)) (line more : List ℕ) → ended_lines some ++ (line ++ 10 ∷ more) ≡ ended_lines (some ++ line ∷ []) ++ more
ended-append [] line more = sym (append_assoc line (10 ∷ []) more)
ended-append (first ∷ some) line more =
    append_assoc first (10 ∷ ended_lines some) (line ++ 10 ∷ more)
    ∙ (ap (λ r. first ++ 10 ∷ r) (ended-append some line more) ∙ sym (append_assoc first (10 ∷ ended_lines (some ++ line ∷ [])) more))

one_more : (bytes : List ℕ) (some : List (List ℕ)) (rest line more : List ℕ) → EndLines bytes some rest → lines rest ≡ line ∷ lines more → EndsLine rest line more → EndLines bytes (some ++ line ∷ []) more
one_more bytes some rest line more (inr none) next cut = absurd (cc (sym (ap lines none) ∙ next))
one_more bytes some rest line more (inl e) next (inl f) = inl (e ∙ (ap (λ r. ended_lines some ++ r) f ∙ ended-append some line more))
one_more bytes some rest line more (inl e) next (inr f) = inr f.1

-- the bytes are the lines that were asked and what is left, where they are told
abbrev pub After : Option (List ℕ) → List Exchange → Option (List ℕ) → Type 0
After None es left = left ≡ None
After (Some bytes) es left = (some : List (List ℕ)) × (rest : List ℕ) × (lines bytes ≡ some ++ lines rest) × (asked_in es ≡ map command_of some) × (left ≡ Some rest) × EndLines bytes some rest

pub After-none : (all : Option (List ℕ)) → After all [] all
After-none None = refl
After-none (Some bytes) = ([], bytes, refl, refl, refl, inl refl)

After-line : (all : Option (List ℕ)) (es : List Exchange) (left : Option (List ℕ)) (line : List ℕ) (next : Option (List ℕ)) (now : Instant) (answer : Answer)
    → After all es left → Line left line next → After all (record { at = now; asked = command_of line; answer = answer } ∷ es) next
After-line None es left line next now answer a l = subst (λ (left : Option (List ℕ)). Line left line next) a l
After-line (Some bytes) es left line next now answer a l =
    let m : Line (Some a.1) line next = subst (λ (left : Option (List ℕ)). Line left line next) a.4 l in (
      a.0 ++ line ∷ [],
      m.0,
      a.2 ∙ (ap (λ (rest : List (List ℕ)). a.0 ++ rest) m.1 ∙ sym (append_assoc a.0 (line ∷ []) (lines m.0))),
      ap (λ r. r ++ command_of line ∷ []) a.3 ∙ sym (map-append command_of a.0 (line ∷ [])),
      m.2,
      one_more bytes a.0 a.1 line m.0 a.5 m.1 m.3,
    )

After-begins : (all : Option (List ℕ)) (es : List Exchange) (left : Option (List ℕ)) → After all es left → AskedFirst all es
After-begins None es left a = tt
After-begins (Some bytes) es left a = (a.0, lines a.1, a.2, a.3)

After-ends : (all : Option (List ℕ)) (es : List Exchange) (left : Option (List ℕ)) → After all es left → Ends left → AskedAll all es
After-ends None es left a e = tt
After-ends (Some bytes) es left a e =
    let none : a.1 ≡ [] = subst Ends a.4 e in
    let whole : lines bytes ≡ a.0 = a.2 ∙ (ap (λ (rest : List ℕ). a.0 ++ lines rest) none ∙ append-nil a.0) in
    a.3 ∙ ap (map command_of) (sym whole)

-- where no line ends in what was taken besides
After-taken : (all : Option (List ℕ)) (es : List Exchange) (left new : Option (List ℕ)) → After all es left → TookNoLine left new → AskedTaken all new es
After-taken None es left new a i = tt
After-taken (Some bytes) es left new a i =
    let m : TookNoLine (Some a.1) new = subst (λ (left : Option (List ℕ)). TookNoLine left new) a.4 i in
    elim a.5 as (λ _. AskedTaken (Some bytes) new es) [
      | inl cut ↦ inr (
        m.1,
        m.4,
        record { first = a.0; part = m.0; unbroken = m.2; taken = cut ∙ ap (λ r. ended_lines a.0 ++ r) m.3; begins = a.2 ∙ ap (λ r. a.0 ++ lines r) m.3; asked = a.3 },
      )
      | inr none ↦ inl (After-ends (Some bytes) es left a (subst Ends (sym a.4) none))
    ]

wrote_more : (old mid new : Option (List ℕ)) (before text : List ℕ) → mid ≡ appends old before → new ≡ appends mid text → new ≡ appends old (before ++ text)
wrote_more old mid new before text e f = f ∙ (ap (λ (w : Option (List ℕ)). appends w text) e ∙ appends-append old before text)

-- the turns so far, from the first moment on: the lines that are left, what was written, and the counts of faults of the input and the output
pub record Turned {H : Type 0} (M : Hosting H) (moment : Instant) (first now : H) (coming left written shown : Option (List ℕ)) (a b x y : ℕ) (es : List Exchange) : Type 0 where
  pub ran : Ran M first es now
  pub at : AllAt moment es
  pub after : After coming es left
  pub wrote : shown ≡ appends written (said_in es)
  pub input : b ≡ a
  pub output : y ≡ x

pub turned_none : {H : Type 0} (M : Hosting H) (moment : Instant) (first : H) (coming written : Option (List ℕ)) (a x : ℕ) → Turned M moment first first coming coming written written a a x x []
turned_none M moment first coming written a x = record { ran = refl; at = tt; after = After-none coming; wrote = appends-nil written; input = refl; output = refl }

pub turned_more : {H : Type 0} (M : Hosting H) (moment : Instant) (first now next : H) (coming left after mid end written shown new : Option (List ℕ)) (a b c x y z : ℕ) (es : List Exchange) (text : List ℕ)
    → Turned M moment first now coming left written shown a b x y es
    → Took M moment now next left after text (record { old = mid; new = end; faults = b; risen = c }) (record { old = shown; new = new; faults = y; risen = z })
    → (es : List Exchange) × Turned M moment first next coming after written new a c x z es
turned_more M moment first now next coming left after mid end written shown new a b c x y z es text t took =
    let line = took.0.0 in
    let answer = took.0.1.0 in (
      record { at = moment; asked = command_of line; answer = answer } ∷ es,
      record {
        ran = (now, t.ran, took.0.1.1);
        at = (refl, t.at);
        after = After-line coming es left line after moment answer t.after took.0.2;
        wrote = wrote_more written shown new (said_in es) (text_of_answer answer) t.wrote (took.1 ∙ ap (appends shown) took.0.1.2);
        input = took.2 ∙ t.input;
        output = took.3 ∙ t.output;
      },
    )

risen : (a b c : ℕ) → b ≡ a → RoseBy 1 b c → RoseBy 1 a c
risen a b c e r = subst (λ (n : ℕ). RoseBy 1 n c) e r

input_cause : (first : ℕ) (old mid new : Option (List ℕ)) (taken now a b c : ℕ) → b ≡ a
    → total now new ≡ total taken mid → total taken mid ≡ total first old → RoseBy 1 b c ⊎ (now ≡ 2 ^ 63)
    → HasFailed (record { old = old; new = new; faults = a; risen = c }) ⊎ TookMost first (record { old = old; new = new; faults = a; risen = c })
input_cause first old mid new taken now a b c h e f (inl r) = inl (risen a b c h r)
input_cause first old mid new taken now a b c h e f (inr m) = inr (ap (λ (n : ℕ). total n new) (sym m) ∙ (e ∙ f))

-- the lines are served where a turn ends them
pub stops : {H : Type 0} (M : Hosting H) (moment : Instant) (first now next : H) (coming left after : Option (List ℕ)) (start taken end_taken : ℕ) (old mid new written shown seen : Option (List ℕ))
    (a b c x y z : ℕ) (es : List Exchange) (text : List ℕ) (end : End)
    → Turned M moment first now coming left written shown a b x y es
    → Stopped M moment now next left after end_taken (record { old = mid; new = new; faults = b; risen = c }) (record { old = shown; new = seen; faults = y; risen = z }) text end
    → total end_taken new ≡ total taken mid → total taken mid ≡ total start old
    → Served M moment first next start coming (record { old = old; new = new; faults = a; risen = c }) (record { old = written; new = seen; faults = x; risen = z }) end
stops M moment first now next coming left after start taken end_taken old mid new written shown seen a b c x y z es text Finished t s e f = (
  es,
  subst (Ran M first es) (sym s.0) t.ran,
  t.at,
  record {
    asked = After-ends coming es left t.after s.1;
    ends = s.2;
    written = s.3 ∙ t.wrote;
    input_quiet = s.4 ∙ t.input;
    output_quiet = s.5 ∙ t.output;
  },
)
stops M moment first now next coming left after start taken end_taken old mid new written shown seen a b c x y z es text InputFault t s e f = (
  es,
  subst (Ran M first es) (sym s.0) t.ran,
  t.at,
  record {
    asked = After-taken coming es left new t.after s.4;
    written = s.1 ∙ t.wrote;
    cause = input_cause start old mid new taken end_taken a b c t.input e f s.2;
    output_quiet = s.3 ∙ t.output;
  },
)
stops M moment first now next coming left after start taken end_taken old mid new written shown seen a b c x y z es text OutputFault t s e f =
    let line = s.0.0 in
    let answer = s.0.1.0 in
    let one : Exchange = record { at = moment; asked = command_of line; answer = answer } in (
      one ∷ es,
      (now, t.ran, s.0.1.1),
      (refl, t.at),
      record {
        asked = After-begins coming (one ∷ es) after (After-line coming es left line after moment answer t.after s.0.2);
        written = subst (λ (w : Option (List ℕ)). Cut w seen (text_of_answer answer)) t.wrote (subst (Cut shown seen) s.0.1.2 s.1);
        cause = risen x y z t.output s.2;
        input_quiet = s.3 ∙ t.input;
      },
    )
