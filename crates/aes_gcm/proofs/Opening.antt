-- Tags that are compared, and what opens by them.
use Rattle.std.proofs.Common.{◌≡◌, ℕ, Bool, true, false, not, cond, List, Some, None, refl, sym, ap}
use Rattle.std.proofs.lemmas.Slice.Eq.{bytes_eq-Decides}
use Rattle.std.specs.Str.{bytes_eq}
use Rattle.aes_gcm.specs.Gcm.{crypt, opened, tag_of}
use Rattle.block_id.proofs.Conditions.{not_fails}

pub opened_wrong : (cipher : List ℕ → List ℕ) (iv extra text tag : List ℕ) → bytes_eq (tag_of cipher iv extra text) tag ≡ false
    → opened cipher iv extra text tag ≡ None
opened_wrong cipher iv extra text tag other = ap (λ (b : Bool). cond b (Some (crypt cipher iv text)) None) other

not_holds : (b : Bool) → true ≡ not b → b ≡ false
not_holds true h = cc
not_holds false h = refl

-- tags that were compared
pub tags_differ : (expected tag : List ℕ) → true ≡ not (bytes_eq expected tag) → bytes_eq expected tag ≡ false
tags_differ expected tag = not_holds (bytes_eq expected tag)

pub tags_agree : (expected tag : List ℕ) → false ≡ not (bytes_eq expected tag) → expected ≡ tag
tags_agree expected tag agree = (bytes_eq-Decides expected tag).0 (not_fails (bytes_eq expected tag) agree)

pub differ_not_same : (expected tag : List ℕ) → bytes_eq expected tag ≡ false → tag ≡ expected → ⊥
differ_not_same expected tag differ same = let e = (bytes_eq-Decides expected tag).1 (sym same) in cc
