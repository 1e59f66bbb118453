-- What a comparison answered, by the tests on it.
use Rattle.std.proofs.Common.{◌≡◌, true, refl}
use Rattle.std.specs.Prelude.{T}
use Rattle.std.specs.Ordering.{is_eq, is_lt, ordering_reverse}
use Rattle.std.specs.declared.cmp.Ordering.{Ordering}
use Rattle.std.specs.declared.cmp.Ordering.TheVariants.{Less, Equal, Greater}
use Rattle.block_id.proofs.Conditions.{true_of}

pub less_is : (r : Ordering) → is_lt r ≡ true → r ≡ Less
less_is Less e = refl
less_is Equal e = absurd (cc)
less_is Greater e = absurd (cc)

pub less_so : (r : Ordering) → T (is_lt r) → r ≡ Less
less_so r t = less_is r (true_of (is_lt r) t)

-- a tie stays one, the other way round
pub eq_reverse : (r : Ordering) → is_eq (ordering_reverse r) ≡ is_eq r
eq_reverse Less = refl
eq_reverse Equal = refl
eq_reverse Greater = refl
