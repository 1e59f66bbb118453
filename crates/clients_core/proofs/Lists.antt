-- Versions in a list, by the greatest of them.
use Rattle.std.proofs.Common.{◌≡◌, ◌≢◌, ◌⊎◌, ℕ, ◌<◌, ◌≤◌, Bool, true, false, List, [], ◌∷◌, refl, sym, subst, ◌∙◌, inl, inr, arith}
use Rattle.std.specs.Prelude.{not, ◌&&◌, ◌==◌, nat_lt, max, if◌then◌else◌}
use Rattle.std.specs.Str.{bytes_eq}
use Rattle.std.proofs.lemmas.Bool.{and_parts, and_from, and_left, and_right, or_cases, or_right, or_from, ltb-true, eqb-true, eq-eqb, ne_eqb, false_from_ne_true}
use Rattle.std.proofs.lemmas.Slice.Eq.{bytes_eq-Decides}
use Rattle.clients_core.specs.Versions.{Version, is_by, same_version, greatest, is_outdated, has_version, is_replaced, is_superseded}

false_is_true : false ≡ true → ⊥
false_is_true e = cc

-- ---- of which block and client

pub same_ids : (a b : List ℕ) → bytes_eq a b ≡ true → a ≡ b
same_ids a b e = (bytes_eq-Decides a b).0 e

pub apart_ids : (a b : List ℕ) → a ≢ b → bytes_eq a b ≡ false
apart_ids a b ne = false_from_ne_true (bytes_eq a b) (λ e. ne (same_ids a b e))

pub ids_same_or_not : (a b : List ℕ) → (a ≡ b) ⊎ (a ≢ b)
ids_same_or_not a b = elim (bytes_eq a b) as (λ t. bytes_eq a b ≡ t → (a ≡ b) ⊎ (a ≢ b)) [
  | true ↦ λ e. inl (same_ids a b e)
  | false ↦ λ e. inr (λ is. false_is_true (sym e ∙ (bytes_eq-Decides a b).1 is))
] refl

pub by_itself : (v : Version) → is_by v.id v.client v ≡ true
by_itself v = and_from _ _ ((bytes_eq-Decides v.id v.id).1 refl) (eq-eqb v.client v.client refl)

pub by_parts : (id : List ℕ) (client : ℕ) (v : Version) → is_by id client v ≡ true → (id ≡ v.id) × (client ≡ v.client)
by_parts id client v e = let p = and_parts _ _ e in (same_ids id v.id p.0, eqb-true client v.client p.1)

pub by_no_client : (id : List ℕ) (client : ℕ) (v : Version) → client ≢ v.client → is_by id client v ≡ false
by_no_client id client v ne = and_right _ _ (ne_eqb client v.client ne)

pub by_no_id : (id : List ℕ) (client : ℕ) (v : Version) → id ≢ v.id → is_by id client v ≡ false
by_no_id id client v ne = and_left _ _ (apart_ids id v.id ne)

pub same_itself : (v : Version) → same_version v v ≡ true
same_itself v = and_from _ _ (by_itself v) (eq-eqb v.version v.version refl)

-- ---- the greatest

pub has_below : (h : List Version) (t : Version) → has_version h t ≡ true → t.version ≤ greatest h t.id t.client
has_below [] t e = absurd (false_is_true e)
has_below (v ∷ vs) t e = elim (or_cases (same_version t v) (has_version vs t) e) [
  | inl same ↦
      let p = and_parts (is_by t.id t.client v) (t.version == v.version) same in
      let equal : t.version ≡ v.version = eqb-true t.version v.version p.1 in
      subst (λ b. t.version ≤ max (if b then v.version else 0) (greatest vs t.id t.client)) (sym p.0) (omega (arith, equal))
  | inr later ↦ omega (arith, has_below vs t later)
]

pub outdated_below : (h : List Version) (t : Version) → is_outdated h t ≡ true → t.version < greatest h t.id t.client
outdated_below [] t e = absurd (false_is_true e)
outdated_below (v ∷ vs) t e = elim (or_cases (is_by t.id t.client v && nat_lt t.version v.version) (is_outdated vs t) e) [
  | inl above ↦
      let p = and_parts (is_by t.id t.client v) (nat_lt t.version v.version) above in
      let less : t.version < v.version = ltb-true t.version v.version p.1 in
      subst (λ b. t.version < max (if b then v.version else 0) (greatest vs t.id t.client)) (sym p.0) (omega (arith, less))
  | inr later ↦ omega (arith, outdated_below vs t later)
]

pub replaced_has : (h : List Version) (t : Version) → is_replaced h t ≡ true → has_version h t ≡ true
replaced_has [] t e = absurd (false_is_true e)
replaced_has (v ∷ vs) t e = elim (or_cases ((bytes_eq t.id v.id && not (same_version t v)) && has_version vs t) (is_replaced vs t) e) [
  | inl here ↦ or_right (same_version t v) (has_version vs t) (and_parts _ _ here).1
  | inr later ↦ or_right (same_version t v) (has_version vs t) (replaced_has vs t later)
]

pub has_no_above : (h : List Version) (t : Version) → greatest h t.id t.client < t.version → has_version h t ≡ false
has_no_above h t above = false_from_ne_true (has_version h t) (λ e. omega (arith, above, has_below h t e))

pub no_replaced_above : (h : List Version) (t : Version) → greatest h t.id t.client < t.version → is_replaced h t ≡ false
no_replaced_above h t above = false_from_ne_true (is_replaced h t) (λ e. omega (arith, above, has_below h t (replaced_has h t e)))

-- a version above all that the list has of its block and client wasn't overtaken
pub above_all : (h : List Version) (t : Version) → greatest h t.id t.client < t.version → is_superseded h t ≡ false
above_all h t above =
    or_from (is_outdated h t) (is_replaced h t) (false_from_ne_true (is_outdated h t) (λ e. omega (arith, above, outdated_below h t e))) (no_replaced_above h t above)

-- nor the greatest one, where no other version of the block came after it
pub greatest_stands : (h : List Version) (t : Version) → greatest h t.id t.client ≤ t.version → is_replaced h t ≡ false → is_superseded h t ≡ false
greatest_stands h t least newest =
    or_from (is_outdated h t) (is_replaced h t) (false_from_ne_true (is_outdated h t) (λ e. omega (arith, least, outdated_below h t e))) newest

-- ---- one more

pub greatest_on : (h : List Version) (id : List ℕ) (client : ℕ) (t : Version) → (is_by id client t ≡ true → t.version ≤ greatest h id client) → greatest (t ∷ h) id client ≡ greatest h id client
greatest_on h id client t below = elim (is_by id client t) as (λ b. is_by id client t ≡ b → max (if b then t.version else 0) (greatest h id client) ≡ greatest h id client) [
  | true ↦ λ e. let least = below e in omega (arith, least)
  | false ↦ λ e. omega arith
] refl

pub greatest_past : (h : List Version) (id : List ℕ) (client : ℕ) (t : Version) → is_by id client t ≡ false → greatest (t ∷ h) id client ≡ greatest h id client
greatest_past h id client t other = greatest_on h id client t (λ e. absurd (false_is_true (sym other ∙ e)))

pub greatest_new : (h : List Version) (t : Version) → greatest h t.id t.client ≤ t.version → greatest (t ∷ h) t.id t.client ≡ t.version
greatest_new h t above =
    subst (λ b. max (if b then t.version else 0) (greatest h t.id t.client) ≡ t.version) (sym (by_itself t)) (omega (arith, above))

front_false : (a b c : Bool) → (a ≡ true → b ≡ true) → ((a && not b) && c) ≡ false
front_false true true c f = refl
front_false true false c f = absurd (false_is_true (f refl))
front_false false b c f = refl

-- where the newest version is of another block, or the same version
pub replaced_past : (h : List Version) (v t : Version) → (bytes_eq t.id v.id ≡ true → same_version t v ≡ true) → is_replaced h t ≡ false → is_replaced (v ∷ h) t ≡ false
replaced_past h v t same rest = or_from _ _ (front_false (bytes_eq t.id v.id) (same_version t v) (has_version h t) same) rest

pub replaced_apart : (h : List Version) (v t : Version) → t.id ≢ v.id → is_replaced h t ≡ false → is_replaced (v ∷ h) t ≡ false
replaced_apart h v t apart rest = replaced_past h v t (λ e. absurd (apart (same_ids t.id v.id e))) rest

-- where it isn't in the list before
pub replaced_unmet : (h : List Version) (v t : Version) → has_version h t ≡ false → is_replaced h t ≡ false → is_replaced (v ∷ h) t ≡ false
replaced_unmet h v t none rest = or_from _ _ (and_right (bytes_eq t.id v.id && not (same_version t v)) (has_version h t) none) rest
