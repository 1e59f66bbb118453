-- The plain tree answers by the laws.
use Rattle.std.specs.Prelude.{◌≡◌, ◌||◌, Bool, true, false, refl, Ok, Err}
use Rattle.std.proofs.Common.{inl, inr, subst}
use Rattle.fs_model.specs.declared.reply.Reply.{Reply}
use Rattle.fs_model.specs.Instant.{Instant}
use Rattle.fs_model.specs.Tree.{Tree}
use Rattle.answers.specs.declared.answer.Answer.{Answer}
use Rattle.answers.specs.declared.answer.Answer.TheVariants.{Reply as Replied, Memory, Spent, FaultDirectory, FaultState, Violation, Refused}
use Rattle.answers.specs.Hosts.{LawfulHost, IsLongReply}
use Rattle.answers.specs.Sessions.{Asked, FollowsAsked, is_violation, is_refused}
use Rattle.answers.proofs.Looked.{long_stays}
use Rattle.trial_runs.specs.Plain.{IsPlain, plain}

abbrev IsFalse : Bool → Type 0
IsFalse false = Unit {0}
IsFalse true = ⊥

wanting : (now : Instant) (tree : Tree) (asked : Asked) → FollowsAsked now tree asked Memory tree
wanting now tree (Ok command) = refl
wanting now tree (Err error) = (inr refl, refl)

unsaid : (now : Instant) (tree next : Tree) (asked : Asked) (reply : Reply) → FollowsAsked now tree asked (Replied reply) next → IsLongReply reply
    → FollowsAsked now tree asked Memory next
unsaid now tree next (Ok command) reply f long = long_stays tree now command reply next f long
unsaid now tree next (Err error) reply f long = (inr refl, f.1)

-- a plain answer is no violation
pub calm : (answer : Answer) → IsPlain answer → is_violation answer ≡ false
calm (Replied reply) h = refl
calm Memory h = refl
calm Spent h = absurd h
calm FaultDirectory h = absurd h
calm FaultState h = absurd h
calm (Violation why) h = absurd h
calm Refused h = absurd h

flag : (answer : Answer) → IsPlain answer → false ≡ (is_violation answer || false)
flag (Replied reply) h = refl
flag Memory h = refl
flag Spent h = absurd h
flag FaultDirectory h = absurd h
flag FaultState h = absurd h
flag (Violation why) h = absurd h
flag Refused h = absurd h

refusal : (answer : Answer) → IsPlain answer → is_refused answer ≡ false
refusal (Replied reply) h = refl
refusal Memory h = refl
refusal Spent h = absurd h
refusal FaultDirectory h = absurd h
refusal FaultState h = absurd h
refusal (Violation why) h = absurd h
refusal Refused h = absurd h

pub plain_lawful : {H : Type 0} (tree : H → Tree) → LawfulHost (plain tree)
plain_lawful tree = record {
  refused = λ h now asked _ e. absurd (subst IsFalse e tt);
  bad = λ h now error _ _. (tt, (inl refl, refl));
  wanting = λ h now asked _ _. (tt, wanting now (tree h) asked);
  unsaid = λ h k now asked reply w long. (tt, unsaid now (tree h) (tree k) asked reply w.1 long);
  flag = λ h k now asked answer w. flag answer w.0;
  refusal = λ h k now asked answer w. refusal answer w.0;
}
