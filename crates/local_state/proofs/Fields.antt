-- Steps of a reader, and flags.
use Rattle.std.proofs.Common.{◌≡◌, ℕ, zero, suc, Bool, true, false, cond, List, [], ◌∷◌, Option, Some, None, refl, ap, subst}
use Rattle.std.specs.Prelude.{unwrap_or}
use Rattle.byte_fields.specs.Fields.{IsBytes}
use Rattle.byte_fields.proofs.Fields.{Takes}
use Rattle.local_state.specs.Record.{flag}
use Rattle.local_state.specs.Reading.{◌>>=◌, flag_at}

pub IsBytes-rest : (b : ℕ) (bytes : List ℕ) → IsBytes (b ∷ bytes) → IsBytes bytes
IsBytes-rest b bytes h i = h (suc i)

-- the value of a step that found one
pub bind_some : {A B : Type 0} (o : Option A) (f : A → Option B) (y : B) → (o >>= f) ≡ Some y → (x : A) × (o ≡ Some x) × (f x ≡ Some y)
bind_some None f y e = absurd cc
bind_some (Some x) f y e = (x, refl, e)

abbrev pub some : {A : Type 0} → A → Option A
some x = Some x

pub some_is : {A : Type 0} (x y : A) → some x ≡ some y → x ≡ y
some_is x y e = ap (λ o. unwrap_or o x) e

-- a test that passed
pub guard_some : {A : Type 0} (b : Bool) (x y : A) → cond b (Some x) None ≡ Some y → (b ≡ true) × (x ≡ y)
guard_some true x y e = (refl, some_is x y e)
guard_some false x y e = absurd cc

-- ---- flags

pub flag_takes : (bytes : List ℕ) (x : Bool × List ℕ) → IsBytes bytes → flag_at bytes ≡ Some x → Takes bytes (flag x.0 ∷ []) x.1
flag_takes [] x fits e = absurd cc
flag_takes (zero ∷ rest) x fits e = subst (λ (p : Bool × List ℕ). Takes (0 ∷ rest) (flag p.0 ∷ []) p.1) (some_is (false, rest) x e) (record { parts = refl; rest_fits = IsBytes-rest 0 rest fits })
flag_takes (suc zero ∷ rest) x fits e = subst (λ (p : Bool × List ℕ). Takes (1 ∷ rest) (flag p.0 ∷ []) p.1) (some_is (true, rest) x e) (record { parts = refl; rest_fits = IsBytes-rest 1 rest fits })
flag_takes (suc (suc b) ∷ rest) x fits e = absurd cc

pub flag_again : (b : Bool) (rest : List ℕ) → flag_at (flag b ∷ rest) ≡ Some (b, rest)
flag_again false rest = refl
flag_again true rest = refl
