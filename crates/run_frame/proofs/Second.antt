-- A second password line, after a first.
use Rattle.std.proofs.Common.{◌≡◌, ◌⊎◌, ◌^◌, ℕ, List, ◌++◌, Bool, true, false, IsTrue, sym, ◌∙◌, subst, inl, inr, arith}
use Rattle.std.specs.declared.option.Option.{Option}
use Rattle.std.specs.declared.option.Option.TheVariants.{None, Some}
use Rattle.outside.specs.Causes.{RoseBy}
use Rattle.outside.specs.Streams.{WereTaken, Ends}
use Rattle.line_io.specs.Lines.{first_line}
use Rattle.line_io.specs.Reading.{Reading, TookLine, ShowsFirst, ShowsUnended, coming, total}
use Rattle.line_io.specs.Streams.{Stream, stream_of}
use Rattle.run_status.specs.declared.status.Status.{Status}
use Rattle.run_status.specs.declared.status.Status.TheVariants.{LongPassword, InputFault, Memory}
use Rattle.run_frame.specs.Passwords.{IsLongLine, IsNextPassword, PasswordRead, PasswordUnread, PasswordsRead, PasswordsUnread}
use Rattle.run_frame.proofs.Following.{AreTaken, two_taken, no_second, first_whole, kept_line, kept_none}
use Rattle.run_frame.proofs.Reading.{is_first, next_password, failed}

-- where the first line wasn't read, none was reached after it
pub unread_first : (input : Stream) (status : Status) → PasswordUnread input status → PasswordsUnread input status
unread_first input LongPassword u = (u.0, u.1, inl u.2)
unread_first input InputFault u =
    (u.0, u.1, u.3, subst (λ (l : List ℕ). ¬ IsLongLine l) (sym (no_second u.0 u.2)) (λ long. absurd (omega (arith, long))), u.4)
unread_first input Memory u = u
unread_first input status u = absurd u

same_line : (line : Option (List ℕ)) (a b : List ℕ) → line ≡ Some a → line ≡ Some b → b ≡ a
same_line line a b e f = cc

module _ {S : Type 0} (rest : S → Option (List ℕ)) (faults : S → ℕ) (start mid end : S) (one two : Reading) (taken password : List ℕ) (read : PasswordRead (stream_of rest faults start mid) one taken password) where
  both : (part : List ℕ) → WereTaken (rest mid) (rest end) part → AreTaken (rest start) (rest end) password (first_line (one.ahead ++ part))
  both part g = two_taken (rest start) (rest mid) (rest end) taken one.ahead part password read.stands.took g read.is_first read.is_next

  pub second_password : (found : Bool) (copy next : List ℕ) → one.line ≡ Some copy → two.line ≡ Some next
      → ShowsFirst one.ahead (rest mid) (rest end) two.line → (IsTrue found → TookLine (coming one.ahead (rest mid)) two.line (coming two.ahead (rest end)))
      → (found ≡ false → Ends (coming one.ahead (rest mid))) → (found ≡ false → Ends (coming two.ahead (rest end))) → (two.ended ≡ true → Ends (coming two.ahead (rest end)))
      → total two.taken (rest end) ≡ total one.taken (rest mid) → faults end ≡ faults mid
      → (taken : List ℕ) × (new : List ℕ) × PasswordsRead (stream_of rest faults start end) two taken copy new
  second_password found copy next held e shown took none over ended counted quiet =
      let t = both shown.0 shown.1 in
      let f = is_first two.line next (one.ahead ++ shown.0) e shown.2 in
      let same : copy ≡ password = same_line one.line password copy read.held held in (
        t.taken,
        next,
        record {
          stands = record { took = t.gave; ended = ended; counted = counted ∙ read.stands.counted; quiet = quiet ∙ read.stands.quiet };
          held = e;
          old_short = subst (λ (l : List ℕ). ¬ IsLongLine l) (sym same) read.short;
          new_short = f.1;
          is_first = same ∙ t.is_first;
          is_second = f.0 ∙ t.is_second;
          between = coming one.ahead (rest mid);
          old_is_next = subst (λ (l : List ℕ). IsNextPassword (rest start) l (coming one.ahead (rest mid))) (sym same) read.is_next;
          new_is_next = next_password one.ahead two.ahead next (rest mid) (rest end) two.line found e shown took none over;
        },
      )

  pub second_long : two.line ≡ None → ShowsFirst one.ahead (rest mid) (rest end) two.line → PasswordsUnread (stream_of rest faults start end) LongPassword
  second_long e shown =
      let t = both shown.0 shown.1 in
      (t.taken, t.gave, inr (subst IsLongLine t.is_second (kept_none (first_line (one.ahead ++ shown.0)) (sym e ∙ shown.2))))

  pub second_unended : (next : List ℕ) → two.line ≡ Some next → ShowsUnended one.ahead (rest mid) (rest end) two.line
      → total two.taken (rest end) ≡ total one.taken (rest mid) → RoseBy 1 (faults mid) (faults end) ⊎ (two.taken ≡ 2 ^ 63) → PasswordsUnread (stream_of rest faults start end) InputFault
  second_unended next e u counted cause =
      let t = both u.0 u.1 in
      let short = (kept_line (one.ahead ++ u.0) next (sym e ∙ u.3)).1 in (
        t.taken,
        t.gave,
        subst (λ (l : List ℕ). ¬ IsLongLine l) t.is_first read.short,
        subst (λ (l : List ℕ). ¬ IsLongLine l) (sym (first_whole (one.ahead ++ u.0) u.2) ∙ t.is_second) short,
        failed (faults start) (faults end) two.taken (rest start) (rest end) (counted ∙ read.stands.counted) (rose cause),
      )
    where
      rose : RoseBy 1 (faults mid) (faults end) ⊎ (two.taken ≡ 2 ^ 63) → RoseBy 1 (faults start) (faults end) ⊎ (two.taken ≡ 2 ^ 63)
      rose (inl r) = let q = read.stands.quiet in inl (omega (arith, r, q))
      rose (inr most) = inr most
