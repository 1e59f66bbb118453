-- Why no password is read, and which the passwords of a told input are.
use Rattle.std.proofs.Common.{◌≡◌, ◌≤◌, ◌∙◌, ℕ, Bool, true, false, List, [], ◌∷◌, ◌++◌, length, refl, sym, ap, subst, inl, inr, arith}
use Rattle.std.specs.Prelude.{cond}
use Rattle.std.specs.declared.option.Option.{Option}
use Rattle.std.specs.declared.option.Option.TheVariants.{Some}
use Rattle.copy_file.specs.line_io.Lines.{is_newline, lines, onto_first, first_of, first_line}
use Rattle.copy_file.specs.line_io.Streams.{Stream, HasFailed, TookMost}
use Rattle.outside.specs.Streams.{WereTaken}
use Rattle.shell_runs.specs.run_frame.Passwords.{after_first, second_line, IsLongLine, IsNextPassword, PasswordUnread, PasswordsUnread, InputFailed}
use Rattle.run_status.specs.declared.status.Status.{Status}
use Rattle.run_status.specs.declared.status.Status.TheVariants.{LongPassword, InputFault, Memory}

-- ---- lines of more bytes

first_onto : (byte : ℕ) (p q : List (List ℕ)) → length (first_of p) ≤ length (first_of q) → length (first_of (onto_first byte p)) ≤ length (first_of (onto_first byte q))
first_onto byte [] [] h = omega arith
first_onto byte [] (line ∷ q) h = omega arith
first_onto byte (line ∷ p) [] h = omega arith
first_onto byte (line ∷ p) (other ∷ q) h = omega arith

first_one : (byte : ℕ) (b : Bool) (p q : List (List ℕ)) → length (first_of p) ≤ length (first_of q)
    → length (first_of (cond b ([] ∷ p) (onto_first byte p))) ≤ length (first_of (cond b ([] ∷ q) (onto_first byte q)))
first_one byte true p q h = omega arith
first_one byte false p q h = first_onto byte p q h

-- of more bytes the first line is no shorter
first_grows : (bytes rest : List ℕ) → length (first_line bytes) ≤ length (first_line (bytes ++ rest))
first_grows [] rest = omega arith
first_grows (byte ∷ bytes) rest = first_one byte (is_newline byte) (lines bytes) (lines (bytes ++ rest)) (first_grows bytes rest)

after_onto : (byte : ℕ) (p : List (List ℕ)) → after_first (onto_first byte p) ≡ after_first p
after_onto byte [] = refl
after_onto byte (line ∷ p) = refl

second_onto : (byte : ℕ) (p q : List (List ℕ)) → length (first_of (after_first p)) ≤ length (first_of (after_first q))
    → length (first_of (after_first (onto_first byte p))) ≤ length (first_of (after_first (onto_first byte q)))
second_onto byte p q h =
    subst (λ x. length (first_of x) ≤ length (first_of (after_first (onto_first byte q)))) (sym (after_onto byte p))
    (subst (λ x. length (first_of (after_first p)) ≤ length (first_of x)) (sym (after_onto byte q)) h)

second_one : (byte : ℕ) (b : Bool) (p q : List (List ℕ)) → length (first_of p) ≤ length (first_of q) → length (first_of (after_first p)) ≤ length (first_of (after_first q))
    → length (first_of (after_first (cond b ([] ∷ p) (onto_first byte p)))) ≤ length (first_of (after_first (cond b ([] ∷ q) (onto_first byte q))))
second_one byte true p q first second = first
second_one byte false p q first second = second_onto byte p q second

-- nor the second
second_grows : (bytes rest : List ℕ) → length (second_line bytes) ≤ length (second_line (bytes ++ rest))
second_grows [] rest = omega arith
second_grows (byte ∷ bytes) rest = second_one byte (is_newline byte) (lines bytes) (lines (bytes ++ rest)) (first_grows bytes rest) (second_grows bytes rest)

-- ---- why no password is read

long_first : (bytes taken rest : List ℕ) → bytes ≡ taken ++ rest → IsLongLine (first_line taken) → IsLongLine (first_line bytes)
long_first bytes taken rest e long = subst (λ x. IsLongLine (first_line x)) (sym e) (omega (arith, first_grows taken rest, long))

long_second : (bytes taken rest : List ℕ) → bytes ≡ taken ++ rest → IsLongLine (second_line taken) → IsLongLine (second_line bytes)
long_second bytes taken rest e long = subst (λ x. IsLongLine (second_line x)) (sym e) (omega (arith, second_grows taken rest, long))

-- what was taken is from the front of a told input
taken_of : (old new : Option (List ℕ)) (bytes taken : List ℕ) → old ≡ Some bytes → WereTaken old new taken → (rest : List ℕ) × (bytes ≡ taken ++ rest)
taken_of old new bytes taken told gives = let g : WereTaken (Some bytes) new taken = subst (λ x. WereTaken x new taken) told gives in (g.0, g.1)

unfailed : (input : Stream) → ¬ HasFailed input → ¬ TookMost 0 input → InputFailed input → ⊥
unfailed input quiet few (inl failed) = quiet failed
unfailed input quiet few (inr most) = few most

module _ (input : Stream) (bytes : List ℕ) (told : input.old ≡ Some bytes) (short : ¬ IsLongLine (first_line bytes)) (quiet : ¬ HasFailed input) (few : ¬ TookMost 0 input) where
  pub one_unread : (status : Status) → PasswordUnread input status → status ≡ Memory
  one_unread LongPassword u = let r = taken_of input.old input.new bytes u.0 told u.1 in absurd (short (long_first bytes u.0 r.0 r.1 u.2))
  one_unread InputFault u = absurd (unfailed input quiet few u.4)
  one_unread Memory u = refl
  one_unread status u = absurd u

  pub two_unread : ¬ IsLongLine (second_line bytes) → (status : Status) → PasswordsUnread input status → status ≡ Memory
  two_unread also LongPassword (taken, gave, inl long) = let r = taken_of input.old input.new bytes taken told gave in absurd (short (long_first bytes taken r.0 r.1 long))
  two_unread also LongPassword (taken, gave, inr long) = let r = taken_of input.old input.new bytes taken told gave in absurd (also (long_second bytes taken r.0 r.1 long))
  two_unread also InputFault u = absurd (unfailed input quiet few u.4)
  two_unread also Memory u = refl
  two_unread also status u = absurd u

-- ---- the passwords of a told input are its first lines

next_is_first : (bytes password : List ℕ) (script : Option (List ℕ)) → IsNextPassword (Some bytes) password script → password ≡ first_line bytes
next_is_first bytes password script (inl line) = sym (ap first_of line.1)
next_is_first bytes password script (inr none) = none.1 ∙ sym (ap first_line none.0)

pub password_is : (old : Option (List ℕ)) (bytes password : List ℕ) (script : Option (List ℕ)) → old ≡ Some bytes → IsNextPassword old password script → password ≡ first_line bytes
password_is old bytes password script told next = next_is_first bytes password script (subst (λ (x : Option (List ℕ)). IsNextPassword x password script) told next)

next_is_second : (bytes old new : List ℕ) (between after : Option (List ℕ)) → IsNextPassword (Some bytes) old between → IsNextPassword between new after → new ≡ second_line bytes
next_is_second bytes old new between after (inl line) next = password_is between line.0 new after line.2 next ∙ sym (ap (λ l. first_of (after_first l)) line.1)
next_is_second bytes old new between after (inr none) next = password_is between bytes new after none.2 next ∙ (ap first_line none.0 ∙ sym (ap second_line none.0))

pub second_is : (whole : Option (List ℕ)) (bytes old new : List ℕ) (between after : Option (List ℕ)) → whole ≡ Some bytes → IsNextPassword whole old between → IsNextPassword between new after → new ≡ second_line bytes
second_is whole bytes old new between after told first next = next_is_second bytes old new between after (subst (λ (x : Option (List ℕ)). IsNextPassword x old between) told first) next
