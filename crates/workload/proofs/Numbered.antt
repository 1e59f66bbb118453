-- A letter and a number make a name and a target.
use Rattle.std.proofs.Common.{◌≡◌, ℕ, ◌^◌, ◌<◌, ◌≤◌, true, false, List, [], ◌∷◌, length, Option, Some, None, refl, arith}
use Rattle.std.specs.List.{list_any}
use Rattle.std.specs.Option.{SomeIff, is_some}
use Rattle.std.specs.Fmt.{decimal}
use Rattle.std.specs.Str.Parse.{AllDigits}
use Rattle.std.proofs.lemmas.Bool.{ne_eqb, lt-ltb, le-leb, and_from, and_left, or_from, not_from_false}
use Rattle.std.proofs.lemmas.Fmt.{decimal_is_IsNumeral, length-decimal-le}
use Rattle.std.proofs.lemmas.Str.Parse.{digit_from_value}
use Rattle.fs_model.specs.Names.{is_dots, is_reserved, is_zero, IsName}
use Rattle.fs_model.specs.Fitting.{is_target}
use Rattle.fs_model.specs.declared.limits.TheConstants.{MAX_NAME, MAX_TARGET}
use Rattle.workload.specs.Generated.{numbered}

free_above : (b : ℕ) → 48 ≤ b → is_reserved b ≡ false
free_above b low = or_from _ _ (ne_eqb b 0 (λ e. omega arith)) (ne_eqb b 47 (λ e. omega arith))

free_digits : (ds : List ℕ) → AllDigits 10 ds → list_any is_reserved ds ≡ false
free_digits [] h = refl
free_digits (c ∷ ds) h =
    let range = digit_from_value c h.0 in
    or_from (is_reserved c) (list_any is_reserved ds) (free_above c (omega arith)) (free_digits ds h.1)

zero_above : (b : ℕ) → 48 ≤ b → is_zero b ≡ false
zero_above b low = ne_eqb b 0 (λ e. omega arith)

zero_digits : (ds : List ℕ) → AllDigits 10 ds → list_any is_zero ds ≡ false
zero_digits [] h = refl
zero_digits (c ∷ ds) h =
    let range = digit_from_value c h.0 in
    or_from (is_zero c) (list_any is_zero ds) (zero_above c (omega arith)) (zero_digits ds h.1)

no_dots : (letter : ℕ) (ds : List ℕ) → 97 ≤ letter → is_dots (letter ∷ ds) ≡ false
no_dots letter [] low = ne_eqb letter 46 (λ e. omega arith)
no_dots letter (a ∷ []) low = and_left _ _ (ne_eqb letter 46 (λ e. omega arith))
no_dots letter (a ∷ b ∷ ds) low = refl

pub IsName-numbered : (letter n : ℕ) → 97 ≤ letter → n < 2 ^ 64 → IsName (numbered letter n)
IsName-numbered letter n low fits =
    let digits = (decimal_is_IsNumeral n fits).0.1 in
    let short = length-decimal-le 20 n (omega arith) (omega arith) fits in
    let text = numbered letter n in
    and_from _ _ (lt-ltb 0 (length text) (omega arith)) (and_from _ _ (le-leb (length text) MAX_NAME (omega arith))
    (and_from _ _ (not_from_false _ (or_from (is_reserved letter) (list_any is_reserved (decimal n)) (free_above letter (omega arith)) (free_digits (decimal n) digits)))
    (not_from_false _ (no_dots letter (decimal n) low))))

pub is_target-numbered : (letter n : ℕ) → 97 ≤ letter → n < 2 ^ 64 → is_target (numbered letter n) ≡ true
is_target-numbered letter n low fits =
    let digits = (decimal_is_IsNumeral n fits).0.1 in
    let short = length-decimal-le 20 n (omega arith) (omega arith) fits in
    let text = numbered letter n in
    and_from _ _ (lt-ltb 0 (length text) (omega arith)) (and_from _ _ (le-leb (length text) MAX_TARGET (omega arith))
    (not_from_false _ (or_from (is_zero letter) (list_any is_zero (decimal n)) (zero_above letter (omega arith)) (zero_digits (decimal n) digits))))

pub some_since : {A P : Type 0} (o : Option A) (v : A) → SomeIff o P v → P → is_some o ≡ true
some_since (Some x) v h p = refl
some_since None v h p = absurd (h p)
