-- Ids that were passed over on the way to a free one.
use Rattle.std.specs.Prelude.{◌≡◌, ℕ, ◌<◌, Bool, false, List}
use Rattle.block_id.specs.Fresh.{nth_id}

-- this id is so many places after the drawn one, and none before it is free
pub record PassedOver (is_free : List ℕ → Bool) (drawn id : List ℕ) : Type 0 where
  pub steps : ℕ
  pub reached : id ≡ nth_id drawn steps
  pub first : (n : ℕ) → n < steps → is_free (nth_id drawn n) ≡ false
