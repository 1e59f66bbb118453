-- Ids in a row from a drawn one.
use Rattle.std.specs.Prelude.{◌≡◌, ℕ, zero, suc, ◌<◌, Bool, true, false, List, replicate}
use Rattle.block_id.specs.Name.{next_id}

-- the id that no block has
abbrev pub zero_id : List ℕ
zero_id = replicate 16 0

-- the id so many places after the drawn one
abbrev pub nth_id : List ℕ → ℕ → List ℕ
nth_id drawn zero = drawn
nth_id drawn (suc n) = next_id (nth_id drawn n)

-- the first id that is free among the drawn one, the next one and so on
pub record IsFirstFree (is_free : List ℕ → Bool) (drawn id : List ℕ) : Type 0 where
  pub free : is_free id ≡ true
  pub steps : ℕ
  pub reached : id ≡ nth_id drawn steps
  pub first : (n : ℕ) → n < steps → is_free (nth_id drawn n) ≡ false
