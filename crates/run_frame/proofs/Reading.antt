-- A password line that was read.
use Rattle.std.proofs.Common.{◌≡◌, ◌⊎◌, ◌^◌, ℕ, List, [], ◌++◌, Bool, true, false, not, IsTrue, Bor, refl, sym, ◌∙◌, ap, subst, inl, inr}
use Rattle.std.specs.Option.{option_copied, is_some}
use Rattle.std.specs.declared.option.Option.{Option}
use Rattle.std.specs.declared.option.Option.TheVariants.{None, Some}
use Rattle.outside.specs.Streams.{WereTaken, Ends}
use Rattle.outside.specs.Causes.{RoseBy}
use Rattle.line_io.specs.Lines.{first_line, kept}
use Rattle.line_io.specs.Reading.{Reading, Line, TookLine, ShowsFirst, ShowsUnended, coming, fresh, total}
use Rattle.line_io.specs.Streams.{Stream}
use Rattle.line_io.proofs.Flow.{coming-nil}
use Rattle.run_status.specs.declared.status.Status.TheVariants.{InputFault}
use Rattle.run_frame.specs.Passwords.{IsLongLine, IsNextPassword, PasswordRead, PasswordUnread}
use Rattle.run_frame.proofs.Following.{kept_line, split_nil, first_whole}

-- the line that is held
pub held_some : (shown : Option (Bor (List ℕ))) (line : Option (List ℕ)) → option_copied shown ≡ line → is_some shown ≡ true → (password : List ℕ) × (line ≡ Some password)
held_some None line e h = absurd (cc)
held_some (Some bytes) line e h = (bytes.now, sym e)

pub held_none : (shown : Option (Bor (List ℕ))) (line : Option (List ℕ)) (none : Bool) → option_copied shown ≡ line → is_some shown ≡ not none → none ≡ true → line ≡ None
held_none None line none e f h = sym e
held_none (Some bytes) line none e f h = absurd (cc)

-- the same line is the next one and the first in what was taken
pub is_first : (line : Option (List ℕ)) (password bytes : List ℕ) → line ≡ Some password → line ≡ kept (first_line bytes) → (password ≡ first_line bytes) × (¬ IsLongLine password)
is_first line password bytes e f =
    let k = kept_line (first_line bytes) password (sym e ∙ f) in
    (k.0, subst (λ (l : List ℕ). ¬ IsLongLine l) (sym k.0) k.1)

-- where nothing comes, the line is empty
empty : (ahead later part password : List ℕ) (old new line : Option (List ℕ)) → WereTaken old new part → line ≡ Some password → line ≡ kept (first_line (ahead ++ part))
    → Ends (coming ahead old) → Ends (coming later new) → IsNextPassword (coming ahead old) password (coming later new)
empty ahead later part password None new line g e f before after = inl (ap (coming later) g)
empty ahead later part password (Some old) new line g e f before after =
    let none = split_nil ahead old before in
    let taken = split_nil part g.0 (sym g.1 ∙ none.1) in
    let all : ahead ++ part ≡ [] = ap (λ (l : List ℕ). l ++ part) none.0 ∙ taken.0 in
    inr (before, (is_first line password (ahead ++ part) e f).0 ∙ ap first_line all, ended (coming later new) later g.0 (ap (coming later) g.2) after ∙ ap Some (sym before))
  where
    ended : (all : Option (List ℕ)) (later rest : List ℕ) → all ≡ Some (later ++ rest) → Ends all → all ≡ Some []
    ended all later rest e h = e ∙ ap Some (subst Ends e h)

pub next_password : (ahead later password : List ℕ) (old new line : Option (List ℕ)) (found : Bool) → line ≡ Some password → ShowsFirst ahead old new line
    → (IsTrue found → TookLine (coming ahead old) line (coming later new)) → (found ≡ false → Ends (coming ahead old)) → (found ≡ false → Ends (coming later new))
    → IsNextPassword (coming ahead old) password (coming later new)
next_password ahead later password old new line true e shown took none over =
    let t = took refl in
    let k : password ≡ t.0 = (kept_line t.0 password (sym e ∙ t.1)).0 in
    inl (subst (λ (l : List ℕ). Line (coming ahead old) l (coming later new)) (sym k) t.2)
next_password ahead later password old new line false e shown took none over =
    empty ahead later shown.0 password old new line shown.1 e shown.2 (none refl) (over refl)

-- the first line of an input
pub first_password : (start reader : Reading) (input : Stream) (found : Bool) (password : List ℕ) → start ≡ fresh → reader.line ≡ Some password
    → ShowsFirst start.ahead input.old input.new reader.line → (IsTrue found → TookLine (coming start.ahead input.old) reader.line (coming reader.ahead input.new))
    → (found ≡ false → Ends (coming start.ahead input.old)) → (found ≡ false → Ends (coming reader.ahead input.new)) → (reader.ended ≡ true → Ends (coming reader.ahead input.new))
    → total reader.taken input.new ≡ total start.taken input.old → input.risen ≡ input.faults → (taken : List ℕ) × (password : List ℕ) × PasswordRead input reader taken password
first_password start reader input found password s e shown took none over ended counted quiet =
    let ahead : start.ahead ≡ [] = ap (λ (r : Reading). r.ahead) s in
    let first : ShowsFirst [] input.old input.new reader.line = subst (λ (l : List ℕ). ShowsFirst l input.old input.new reader.line) ahead shown in
    let f = is_first reader.line password first.0 e first.2 in
    let next = next_password start.ahead reader.ahead password input.old input.new reader.line found e shown took none over in (
      first.0,
      password,
      record {
        stands = record { took = first.1; ended = ended; counted = counted ∙ ap (λ (r : Reading). total r.taken input.old) s; quiet = quiet };
        held = e;
        short = f.1;
        is_first = f.0;
        is_next = subst (λ (before : Option (List ℕ)). IsNextPassword before password (coming reader.ahead input.new)) (ap (λ (l : List ℕ). coming l input.old) ahead ∙ coming-nil input.old) next;
      },
    )

-- ---- lines that weren't read

-- why a read failed, by the bytes that were counted
pub failed : (before after taken : ℕ) (old new : Option (List ℕ)) → total taken new ≡ total 0 old → RoseBy 1 before after ⊎ (taken ≡ 2 ^ 63) → RoseBy 1 before after ⊎ (total (2 ^ 63) new ≡ total 0 old)
failed before after taken old new counted (inl rose) = inl rose
failed before after taken old new counted (inr most) = inr (sym (ap (λ (n : ℕ). total n new) most) ∙ counted)

-- the first line isn't over, and the input failed
pub first_unended : (start reader : Reading) (input : Stream) (password : List ℕ) → start ≡ fresh → reader.line ≡ Some password → ShowsUnended start.ahead input.old input.new reader.line
    → total reader.taken input.new ≡ total start.taken input.old → RoseBy 1 input.faults input.risen ⊎ (reader.taken ≡ 2 ^ 63) → PasswordUnread input InputFault
first_unended start reader input password s e shown counted cause =
    let first : ShowsUnended [] input.old input.new reader.line = subst (λ (l : List ℕ). ShowsUnended l input.old input.new reader.line) (ap (λ (r : Reading). r.ahead) s) shown in
    let short = kept_line first.0 password (sym e ∙ first.3) in (
      first.0,
      first.1,
      first.2,
      subst (λ (l : List ℕ). ¬ IsLongLine l) (sym (first_whole first.0 first.2)) short.1,
      failed input.faults input.risen reader.taken input.old input.new (counted ∙ ap (λ (r : Reading). total r.taken input.old) s) cause,
    )
