-- The lengths that a file may get.
use Rattle.std.specs.Prelude.{◌≡◌, ℕ, ◌+◌, ◌≤◌, ◌<◌, ◌||◌, true, false, max, min, nat_lt}
use Rattle.std.proofs.Common.{ap, sym, ◌∙◌, arith, inl, inr}
use Rattle.std.proofs.lemmas.Bool.{cases_lt, lt-ltb, ltb-false, or_parts}
use Rattle.fs_model.specs.declared.limits.TheConstants.{MAX_FILE, MAX_GROWTH}
use Rattle.fs_model.specs.Step.{is_too_long}

pub short_enough : (old new : ℕ) → is_too_long old new ≡ false → new ≤ MAX_FILE
short_enough old new h = ltb-false MAX_FILE new (or_parts (nat_lt MAX_FILE new) (nat_lt (old + MAX_GROWTH) new) h).0

long_is : (old x : ℕ) → MAX_FILE < x → is_too_long old x ≡ true
long_is old x over = ap (λ b. b || nat_lt (old + MAX_GROWTH) x) (lt-ltb MAX_FILE x over)

-- a test on the saturated end tells what one on the end does
pub end_tests : (old from len end whole : ℕ) → end ≡ min (from + len) 18446744073709551615 → whole ≡ max end old → is_too_long old (max old (from + len)) ≡ is_too_long old whole
end_tests old from len end whole e w = elim (cases_lt (from + len) 18446744073709551616) [
  | inl lt ↦ let same : max old (from + len) ≡ whole = omega arith in ap (is_too_long old) same
  | inr over ↦ long_is old (max old (from + len)) (omega arith) ∙ sym (long_is old whole (omega arith))
]

pub end_fits : (old from len end whole : ℕ) → end ≡ min (from + len) 18446744073709551615 → whole ≡ max end old → is_too_long old whole ≡ false → from + len ≤ MAX_FILE
end_fits old from len end whole e w short = let bound = short_enough old whole short in omega arith
