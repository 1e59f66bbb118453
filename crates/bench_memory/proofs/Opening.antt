-- What was sealed just now opens to what it was.
use Rattle.std.proofs.Common.{◌≡◌, ℕ, List, [], ◌++◌, length, Option, Some, None, Vec, Global, ap, ◌∙◌}
use Rattle.std.specs.Option.{option_map}
use Rattle.aes_gcm.specs.Gcm.{opened_of, sealed_of}
use Rattle.aes_gcm.specs.Opening.{opened_of-sealed_of}

pub opens_back : (key iv plain cleared out told : List ℕ) (opened : Option (Vec ℕ Global)) → length iv ≡ 16 → cleared ≡ []
    → out ≡ cleared ++ sealed_of key iv [] plain → told ≡ out
    → option_map {T = Vec ℕ Global} {U = List ℕ} (λ plain. plain.items) opened ≡ opened_of key [] told
    → option_map {T = Vec ℕ Global} {U = List ℕ} (λ plain. plain.items) opened ≡ Some plain
opens_back key iv plain cleared out told opened len empty is_out is_told is_opened =
    is_opened ∙ ap (opened_of key []) (is_told ∙ is_out ∙ ap (λ (l : List ℕ). l ++ sealed_of key iv [] plain) empty) ∙ opened_of-sealed_of key iv [] plain len

pub none_some : (plain : List ℕ) → None ≡ Some plain → ⊥
none_some plain same = cc
