-- Versions that rise by at most one at each answer, whatever they are versions of.
use Rattle.std.proofs.Common.{◌≡◌, ◌≤◌, ◌+◌, ◌^◌, ℕ, List, [], ◌∷◌, length, sym, subst, inl, inr, arith}
use Rattle.fs_model.specs.declared.error.FsError.{FsError}
use Rattle.run_frame.specs.answers.declared.answer.Answer.{Answer}
use Rattle.run_frame.specs.answers.declared.answer.Answer.TheVariants.{Reply as Replied, Memory, Spent, FaultDirectory, FaultState, Violation, Refused}
use Rattle.run_frame.specs.answers.Sessions.{Exchange}
use Rattle.mount.specs.mount_core.Answers.{OnSpent}
use Rattle.session_laws.specs.Causes.{IsBadLineAnswer, AreSpent}

-- of a weaker cause
pub on_spent : (answer : Answer) (cause weaker : Type 0) → (cause → weaker) → OnSpent answer cause → OnSpent answer weaker
on_spent Spent cause weaker f c = f c
on_spent (Replied reply) cause weaker f c = tt
on_spent Memory cause weaker f c = tt
on_spent FaultDirectory cause weaker f c = tt
on_spent FaultState cause weaker f c = tt
on_spent (Violation why) cause weaker f c = tt
on_spent Refused cause weaker f c = tt

-- a line that is none isn't answered so
pub unread_spent : (error : FsError) (answer : Answer) (cause : Type 0) → IsBadLineAnswer error answer → OnSpent answer cause
unread_spent error answer cause (inl e) = subst (λ x. OnSpent x cause) (sym e) tt
unread_spent error answer cause (inr (inl e)) = subst (λ x. OnSpent x cause) (sym e) tt
unread_spent error answer cause (inr (inr e)) = subst (λ x. OnSpent x cause) (sym e) tt

module _ (first : List ℕ → ℕ) (e : Exchange) (es : List Exchange) (mid : List ℕ → ℕ) (rose : (id : List ℕ) → mid id ≤ first id + length es) where
  pub rose_on : (new : List ℕ → ℕ) → ((id : List ℕ) → new id ≤ mid id + 1) → (id : List ℕ) → new id ≤ first id + length (e ∷ es)
  rose_on new step id = omega (arith, rose id, step id)

  pub spent_on : OnSpent e.answer ((id : List ℕ) × (mid id + 1 ≡ 2 ^ 64)) → AreSpent first es → AreSpent first (e ∷ es)
  spent_on cause before = (on_spent e.answer _ _ (λ c. (c.0, omega (arith, rose c.0, c.1))) cause, before)

-- of the same versions
pub spent_of : (a b : List ℕ → ℕ) → ((id : List ℕ) → a id ≡ b id) → (es : List Exchange) → AreSpent a es → AreSpent b es
spent_of a b same [] s = tt
spent_of a b same (e ∷ es) s = (on_spent e.answer _ _ (λ c. (c.0, omega (arith, same c.0, c.1))) s.0, spent_of a b same es s.1)
