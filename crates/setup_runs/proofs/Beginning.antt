-- The password lines of a run.
use Rattle.std.proofs.Common.{◌≡◌, ℕ, List, Bor, sym, ap, ◌∙◌, arith}
use Rattle.std.specs.Prelude.{unwrap_or}
use Rattle.std.specs.Option.{option_copied}
use Rattle.std.specs.declared.option.Option.{Option}
use Rattle.std.specs.declared.option.Option.TheVariants.{None, Some}
use Rattle.session_laws.specs.line_io.Reading.{Reading, coming}
use Rattle.session_laws.specs.line_io.Streams.{Stream}
use Rattle.session_laws.specs.run_frame.Passwords.{PasswordRead, PasswordUnread, PasswordsRead, PasswordsUnread}
use Rattle.session_laws.specs.Openings.{HasCauses, HasPassword, HasPasswords}
use Rattle.run_status.specs.declared.status.Status.{Status}
use Rattle.run_status.specs.declared.status.Status.TheVariants.{LongPassword, InputFault, Memory}
use Rattle.session_laws.specs.Runs.{Outside}

-- what a reference to the line holds, where the line is known
pub held : (line : Option (Bor (List ℕ))) (other shown : Bor (List ℕ)) (kept : Option (List ℕ)) (password : List ℕ) → option_copied line ≡ kept → kept ≡ Some password
    → shown ≡ unwrap_or line other → password ≡ shown.now
held None other shown kept password e f g = absurd (cc)
held (Some bytes) other shown kept password e f g = same (e ∙ f) ∙ ap (λ (b : Bor (List ℕ)). b.now) (sym g)
  where
    same : Some bytes.now ≡ Some password → password ≡ bytes.now
    same h = cc

pub has_password : (input : Stream) (reader : Reading) (taken password : List ℕ) → PasswordRead input reader taken password → HasPassword input password (coming reader.ahead input.new)
has_password input reader taken password r = record { short = r.short; is_next = r.is_next }

pub has_passwords : (input : Stream) (reader : Reading) (taken old new : List ℕ) → PasswordsRead input reader taken old new → HasPasswords input old new
has_passwords input reader taken old new r = record {
  old_short = r.old_short;
  new_short = r.new_short;
  between = r.between;
  after = coming reader.ahead input.new;
  old_is_next = r.old_is_next;
  new_is_next = r.new_is_next;
}

-- where no password line was read, no store failed
pub unread_causes : (o : Outside) (input : Stream) (status : Status) → PasswordUnread input status → HasCauses o o status
unread_causes o input LongPassword u = record { vault_grows = omega arith; keeper_grows = omega arith; directory_fault = λ e. absurd (cc); state_fault = λ e. absurd (cc) }
unread_causes o input InputFault u = record { vault_grows = omega arith; keeper_grows = omega arith; directory_fault = λ e. absurd (cc); state_fault = λ e. absurd (cc) }
unread_causes o input Memory u = record { vault_grows = omega arith; keeper_grows = omega arith; directory_fault = λ e. absurd (cc); state_fault = λ e. absurd (cc) }
unread_causes o input status u = absurd u

pub both_unread_causes : (o : Outside) (input : Stream) (status : Status) → PasswordsUnread input status → HasCauses o o status
both_unread_causes o input LongPassword u = record { vault_grows = omega arith; keeper_grows = omega arith; directory_fault = λ e. absurd (cc); state_fault = λ e. absurd (cc) }
both_unread_causes o input InputFault u = record { vault_grows = omega arith; keeper_grows = omega arith; directory_fault = λ e. absurd (cc); state_fault = λ e. absurd (cc) }
both_unread_causes o input Memory u = record { vault_grows = omega arith; keeper_grows = omega arith; directory_fault = λ e. absurd (cc); state_fault = λ e. absurd (cc) }
both_unread_causes o input status u = absurd u
