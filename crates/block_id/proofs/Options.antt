-- Whether there is a value.
use Rattle.std.proofs.Common.{◌≡◌, true, refl}
use Rattle.std.specs.Prelude.{Option, Some, None, is_some}

pub none_is : {X : Type 0} (o : Option X) → o ≡ None → is_some o ≡ true → ⊥
none_is None e h = absurd (cc)
none_is (Some x) e h = absurd (cc)

pub some_of : {X : Type 0} (o : Option X) → is_some o ≡ true → (x : X) × (o ≡ Some x)
some_of None h = absurd (cc)
some_of (Some x) h = (x, refl)
