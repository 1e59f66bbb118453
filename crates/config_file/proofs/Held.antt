-- What a file and its inner part hold, step by step.
use Rattle.std.proofs.Common.{[], ◌≡◌, ◌↔◌, ℕ, ◌-◌, List, length, take, drop, Option, Some, None, option_and_then, sym, ap, ◌∙◌, subst, arith, length-drop}
use Rattle.std.proofs.lemmas.List.{take_all}
use Rattle.aes_gcm.specs.Gcm.{opened_of}
use Rattle.scrypt_kdf.specs.Cost.{Cost}
use Rattle.config_file.specs.ConfigOf.{HoldsSettings, json_in}
use Rattle.config_file.specs.Format.{cost_in, inner_in, outer_key, salt_in, sealed_in, text_in}
use Rattle.config_file.specs.Json.{ReadsAs}
use Rattle.config_file.specs.Settings.{Settings}

pub not_sealed : (key part : List ℕ) → sealed_in part ≡ None → json_in key part ≡ None
unfolding json_in
not_sealed key part is = ap (λ o. option_and_then text_in (option_and_then (opened_of key []) o)) is

pub is_sealed : (key part sealed : List ℕ) → sealed_in part ≡ Some sealed → json_in key part ≡ option_and_then text_in (opened_of key [] sealed)
unfolding json_in
is_sealed key part sealed is = ap (λ o. option_and_then text_in (option_and_then (opened_of key []) o)) is

pub not_opened : (key part sealed : List ℕ) → sealed_in part ≡ Some sealed → opened_of key [] sealed ≡ None → json_in key part ≡ None
not_opened key part sealed is none = is_sealed key part sealed is ∙ ap (option_and_then text_in) none

pub is_opened : (key part sealed innermost : List ℕ) → sealed_in part ≡ Some sealed → opened_of key [] sealed ≡ Some innermost → json_in key part ≡ text_in innermost
is_opened key part sealed innermost is opens = is_sealed key part sealed is ∙ ap (option_and_then text_in) opens

pub not_held : (key part : List ℕ) → json_in key part ≡ None → (s : Settings) → (None ≡ Some s) ↔ HoldsSettings key part s
not_held key part none s = (λ h. absurd (cc h), λ holds. absurd (cc (sym none ∙ holds.1)))

same_text : (x y : List ℕ) → Some x ≡ Some y → x ≡ y
same_text x y e = cc e

pub held : (key part text : List ℕ) (o : Option Settings) → json_in key part ≡ Some text → ((s : Settings) → (o ≡ Some s) ↔ ReadsAs text s)
    → (s : Settings) → (o ≡ Some s) ↔ HoldsSettings key part s
held key part text o is iff s =
    (λ h. (text, is, (iff s).0 h), λ holds. (iff s).1 (subst (λ t. ReadsAs t s) (same_text holds.0 text (sym holds.1 ∙ is)) holds.2))

-- the inner part opens as what is left of the file does
pub opens_part : (password bytes : List ℕ) (cost : Cost) (key : List ℕ) → cost ≡ cost_in bytes → key ≡ outer_key password (salt_in bytes) cost
    → opened_of key [] (take (length bytes - 70) (drop 70 bytes)) ≡ inner_in password bytes
opens_part password bytes cost key is_cost is_key =
    let rest : take (length bytes - 70) (drop 70 bytes) ≡ drop 70 bytes = take_all (length bytes - 70) (drop 70 bytes) (omega (arith, length-drop 70 bytes)) in
    (λ i. opened_of (is_key i) [] (rest i)) ∙ ap (λ (k : Cost). opened_of (outer_key password (salt_in bytes) k) [] (drop 70 bytes)) is_cost
