-- The answer that a text tells.
use Rattle.std.proofs.Common.{◌≡◌, ◌<◌, ℕ, List, Bool, true, false, cond, nat_le, length, inl, inr, refl, sym, subst, arith}
use Rattle.std.proofs.lemmas.Bool.Decides.{nat_tests}
use Rattle.std.specs.declared.option.Option.{Option}
use Rattle.std.specs.declared.option.Option.TheVariants.{None, Some}
use Rattle.std.specs.Prelude.{Err}
use Rattle.fs_model.specs.Instant.{Instant}
use Rattle.fs_model.specs.declared.error.FsError.TheVariants.{BadLine}
use Rattle.line_io.specs.Lines.{kept}
use Rattle.answers.specs.script_text.Grammar.{command_of}
use Rattle.answers.proofs.script_text_lemmas.Lines.{command_of-long}
use Rattle.answers.specs.declared.answer.Answer.{Answer}
use Rattle.answers.specs.declared.answer.Answer.TheVariants.{Reply as Replied, Memory, Spent, FaultDirectory, FaultState, Violation, Refused}
use Rattle.answers.specs.Hosts.{Hosting, LawfulHost}
use Rattle.answers.specs.Sessions.{Asked}
use Rattle.answers.specs.Telling.{MayWant, IsTold}

wanted : {H : Type 0} (M : Hosting H) → LawfulHost M → (h k : H) (now : Instant) (asked : Asked) (answer : Answer) → M.answers h now asked answer k → MayWant answer
    → M.answers h now asked Memory k
wanted M laws h k now asked (Replied reply) went want = laws.unsaid h k now asked reply went want
wanted M laws h k now asked Memory went want = absurd want
wanted M laws h k now asked Spent went want = absurd want
wanted M laws h k now asked FaultDirectory went want = absurd want
wanted M laws h k now asked FaultState went want = absurd want
wanted M laws h k now asked (Violation why) went want = absurd want
wanted M laws h k now asked Refused went want = absurd want

-- what was told may be answered where the answer may
pub told : {H : Type 0} (M : Hosting H) → LawfulHost M → (h k : H) (now : Instant) (asked : Asked) (answer other : Answer) → M.answers h now asked answer k → IsTold answer other
    → M.answers h now asked other k
told M laws h k now asked answer other went (inl same) = subst (λ (a : Answer). M.answers h now asked a k) (sym same) went
told M laws h k now asked answer other went (inr want) = subst (λ (a : Answer). M.answers h now asked a k) (sym want.1) (wanted M laws h k now asked answer went want.0)

kept_none : (line : List ℕ) (b : Bool) → nat_le (length line) 1048576 ≡ b → ◌≡◌ {A = Option (List ℕ)} None (cond b (Some line) None) → 1048576 < length line
kept_none line true e h = absurd (cc)
kept_none line false e h = grind (arith, nat_tests)

-- a line that isn't kept is a bad line
pub long_is_bad : (line : List ℕ) → ◌≡◌ {A = Option (List ℕ)} None (kept line) → command_of line ≡ Err BadLine
long_is_bad line h = command_of-long line (kept_none line _ refl h)
