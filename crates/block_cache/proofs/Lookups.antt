-- What is cached for each id, as payloads are used, put and taken out.
use Rattle.std.proofs.Common.{◌≡◌, ◌⊎◌, ℕ, zero, suc, ◌-◌, Bool, true, false, cond, nat_eq, List, [], ◌∷◌, Vec, Global, take, Option, Some, None, refl, sym, ◌∙◌, ap, inl, inr}
use Rattle.std.specs.Prelude.{is_some}
use Rattle.std.specs.Cmp.{IsEquivalence, on_equiv}
use Rattle.std.specs.Cmp.Lexicographic.{pointwise, nat_list_eq_equiv}
use Rattle.std.proofs.lemmas.Slice.Eq.{bytes_eq-Decides}
use Rattle.std.specs.Option.{option_map, option_map_or}
use Rattle.std.specs.List.{IsDistinct}
use Rattle.std.specs.Map.{lookup, lookup_entry, remove_entry, keys_of, AreApart}
use Rattle.std.proofs.lemmas.Map.{lookup-remove_entry}
use Rattle.std.proofs.lemmas.Option.{none-some}
use Rattle.lru.specs.LruCache.{lru_cache}
use Rattle.lru.proofs.CallerLemmas.{Contains-lookup_entry}
use Rattle.lru.proofs.Pairs.{lookup-lookup_entry}
use Rattle.block_id.specs.declared.id.BlockId.{BlockId}
use Rattle.store_api.specs.Content.{Id}
use Rattle.block_cache.specs.Payloads.{Payloads, cached_for, equal_ids, used_last, with_payload}

abbrev pub Entries : Type 0
Entries = List (BlockId × Vec ℕ Global)

-- whether a key is that of the id
abbrev pub of : Id → BlockId → Bool
of id key = pointwise nat_eq id key.0

abbrev pub items_of : Option (Vec ℕ Global) → Option (List ℕ)
items_of found = option_map (λ bytes. bytes.items) found

ids_equal : (a b : Id) → pointwise nat_eq a b ≡ true → a ≡ b
ids_equal a b e = (bytes_eq-Decides a b).0 e

-- keys that are the id's are no other's
apart : (id other : Id) → pointwise nat_eq other id ≡ false → AreApart (of id) (of other)
apart id other differ key is = ap (pointwise nat_eq other) (sym (ids_equal id key.0 is)) ∙ differ

removed_apart : (test other : BlockId → Bool) → AreApart test other → (es : Entries) → lookup other (remove_entry test es) ≡ lookup other es
removed_apart test other apart [] = refl
removed_apart test other apart (e ∷ es) =
    elim (test e.0) as (λ b. test e.0 ≡ b → lookup other (cond b es (e ∷ remove_entry test es)) ≡ cond (other e.0) (Some e.1) (lookup other es)) [
      | true ↦ λ s. ap (λ b. cond b (Some e.1) (lookup other es)) (sym (apart e.0 s))
      | false ↦ λ s. ap (cond (other e.0) (Some e.1)) (removed_apart test other apart es)
    ] refl

-- an entry of the id was put first, with this value
put_first : (id q : Id) (es : Entries) (e : BlockId × Vec ℕ Global) (bytes : Vec ℕ Global) → lookup_entry (of id) es ≡ Some e
    → lookup (of q) ((e.0, bytes) ∷ remove_entry (of id) es) ≡ cond (pointwise nat_eq q id) (Some bytes) (lookup (of q) es)
put_first id q es e bytes found =
    let key = (Contains-lookup_entry (of id) es e found).1 in
    elim (pointwise nat_eq q id) as (λ b. pointwise nat_eq q id ≡ b → cond (of q e.0) (Some bytes) (lookup (of q) (remove_entry (of id) es)) ≡ cond b (Some bytes) (lookup (of q) es)) [
      | true ↦ λ s. ap (λ b. cond b (Some bytes) (lookup (of q) (remove_entry (of id) es))) (ap (λ x. of x e.0) (ids_equal q id s) ∙ key)
      | false ↦ λ s. ap (λ b. cond b (Some bytes) (lookup (of q) (remove_entry (of id) es))) (apart id q s e.0 key) ∙ removed_apart (of id) (of q) (apart id q s) es
    ] refl

front : (id q : Id) (es : Entries) (o : Option (BlockId × Vec ℕ Global)) → lookup_entry (of id) es ≡ o
    → lookup (of q) (option_map_or (λ e. e ∷ remove_entry (of id) es) o es) ≡ lookup (of q) es
front id q es None found = refl
front id q es (Some e) found = put_first id q es e e.1 found ∙
    elim (pointwise nat_eq q id) as (λ b. pointwise nat_eq q id ≡ b → cond b (Some e.1) (lookup (of q) es) ≡ lookup (of q) es) [
      | true ↦ λ s. ap (option_map (λ (x : BlockId × Vec ℕ Global). x.1)) (sym found) ∙ (lookup-lookup_entry (of id) es ∙ ap (λ x. lookup (of x) es) (sym (ids_equal q id s)))
      | false ↦ λ s. refl
    ] refl

-- use leaves what is cached
pub cached-used : (id : BlockId) (payloads : Payloads) (q : Id) → cached_for (used_last id payloads) q ≡ cached_for payloads q
cached-used id payloads q = ap items_of (front id.0 q payloads.entries (lookup_entry (of id.0) payloads.entries) refl)

some_items : (bytes : Vec ℕ Global) (found : List ℕ) → Some bytes.items ≡ Some found → bytes.items ≡ found
some_items bytes found e = cc

taken : (test : BlockId → Bool) (n : ℕ) (es : Entries) (found : List ℕ) → items_of (lookup test (take n es)) ≡ Some found → items_of (lookup test es) ≡ Some found
taken test zero es found h = absurd (none-some found h)
taken test (suc n) [] found h = absurd (none-some found h)
taken test (suc n) (e ∷ es) found h =
    elim (test e.0) as (λ b. items_of (cond b (Some e.1) (lookup test (take n es))) ≡ Some found → items_of (cond b (Some e.1) (lookup test es)) ≡ Some found) [
      | true ↦ λ h. h
      | false ↦ λ h. taken test n es found h
    ] h

-- by the id
by_id : (id q : Id) (bytes : Vec ℕ Global) (rest : Option (Vec ℕ Global)) (found : List ℕ) → items_of (cond (pointwise nat_eq q id) (Some bytes) rest) ≡ Some found
    → ((q ≡ id) × (bytes.items ≡ found)) ⊎ (items_of rest ≡ Some found)
by_id id q bytes rest found =
    elim (pointwise nat_eq q id) as (λ b. pointwise nat_eq q id ≡ b → items_of (cond b (Some bytes) rest) ≡ Some found → ((q ≡ id) × (bytes.items ≡ found)) ⊎ (items_of rest ≡ Some found)) [
      | true ↦ λ s h. inl (ids_equal q id s, some_items bytes found h)
      | false ↦ λ s h. inr h
    ] refl

put_cases : (id : BlockId) (bytes : Vec ℕ Global) (payloads : Payloads) (q : Id) (found : List ℕ) (o : Option (BlockId × Vec ℕ Global)) → lookup_entry (of id.0) payloads.entries ≡ o
    → items_of (lookup (of q) (option_map_or (λ e. (e.0, bytes) ∷ remove_entry (of id.0) payloads.entries) o ((id, bytes) ∷ take (payloads.cap - 1) payloads.entries))) ≡ Some found
    → ((q ≡ id.0) × (bytes.items ≡ found)) ⊎ (cached_for payloads q ≡ Some found)
put_cases id bytes payloads q found None is h = elim (by_id id.0 q bytes (lookup (of q) (take (payloads.cap - 1) payloads.entries)) found h) [
  | inl new ↦ inl new
  | inr old ↦ inr (taken (of q) (payloads.cap - 1) payloads.entries found old)
]
put_cases id bytes payloads q found (Some e) is h = by_id id.0 q bytes (lookup (of q) payloads.entries) found (sym (ap items_of (put_first id.0 q payloads.entries e bytes is)) ∙ h)

-- what is cached once a payload was put is that payload, or was cached before
pub cached-with : (id : BlockId) (bytes : Vec ℕ Global) (payloads : Payloads) (q : Id) (found : List ℕ) → cached_for (with_payload id bytes payloads) q ≡ Some found
    → ((q ≡ id.0) × (bytes.items ≡ found)) ⊎ (cached_for payloads q ≡ Some found)
cached-with id bytes payloads q found h = put_cases id bytes payloads q found (lookup_entry (of id.0) payloads.entries) refl h

replaced_by : (id q : Id) (bytes : Vec ℕ Global) (es new : Entries) (o : Option (BlockId × Vec ℕ Global)) → lookup_entry (of id) es ≡ o → is_some (lookup (of id) es) ≡ true
    → lookup (of q) (option_map_or (λ e. (e.0, bytes) ∷ remove_entry (of id) es) o new) ≡ cond (pointwise nat_eq q id) (Some bytes) (lookup (of q) es)
replaced_by id q bytes es new None is there =
    let none : None ≡ lookup (of id) es = ap (option_map (λ (x : BlockId × Vec ℕ Global). x.1)) (sym is) ∙ lookup-lookup_entry (of id) es in
    let bad : false ≡ true = ap is_some none ∙ there in absurd (cc)
replaced_by id q bytes es new (Some e) is there = put_first id q es e bytes is

items_cond : (b : Bool) (x y : Option (Vec ℕ Global)) → items_of (cond b x y) ≡ cond b (items_of x) (items_of y)
items_cond true x y = refl
items_cond false x y = refl

-- a payload was put in the place of another
pub cached-replaced : (id : BlockId) (bytes : Vec ℕ Global) (payloads : Payloads) (q : Id) → is_some (lookup (equal_ids id) payloads.entries) ≡ true
    → cached_for (with_payload id bytes payloads) q ≡ cond (pointwise nat_eq q id.0) (Some bytes.items) (cached_for payloads q)
cached-replaced id bytes payloads q there =
    ap items_of (replaced_by id.0 q bytes payloads.entries ((id, bytes) ∷ take (payloads.cap - 1) payloads.entries) (lookup_entry (of id.0) payloads.entries) refl there)
    ∙ items_cond (pointwise nat_eq q id.0) (Some bytes) (lookup (of q) payloads.entries)

laws : IsEquivalence equal_ids
laws = on_equiv (λ (id : BlockId). id.0) nat_list_eq_equiv

removed_same : (id : BlockId) (es : Entries) → IsDistinct equal_ids (keys_of es) → lookup (of id.0) (remove_entry (of id.0) es) ≡ None
removed_same id es distinct =
    lookup-remove_entry laws (equal_ids id) (λ x y is. laws.congr id x y is) id es distinct ∙ ap (λ b. cond b None (lookup (of id.0) es)) (laws.refl id)

-- a payload was taken out
pub cached-removed : (id : BlockId) (payloads : Payloads) (q : Id) → IsDistinct equal_ids (keys_of payloads.entries)
    → cached_for (lru_cache (remove_entry (equal_ids id) payloads.entries) payloads.cap) q ≡ cond (pointwise nat_eq q id.0) None (cached_for payloads q)
cached-removed id payloads q distinct =
    elim (pointwise nat_eq q id.0) as (λ b. pointwise nat_eq q id.0 ≡ b → items_of (lookup (of q) (remove_entry (of id.0) payloads.entries)) ≡ cond b None (cached_for payloads q)) [
      | true ↦ λ s. ap items_of (ap (λ x. lookup (of x) (remove_entry (of id.0) payloads.entries)) (ids_equal q id.0 s) ∙ removed_same id payloads.entries distinct)
      | false ↦ λ s. ap items_of (removed_apart (of id.0) (of q) (apart id.0 q s) payloads.entries)
    ] refl

some_cached : (found : Option (Vec ℕ Global)) → is_some found ≡ false → items_of found ≡ None
some_cached None h = refl
some_cached (Some bytes) h = absurd (cc)

-- nothing was cached
pub cached-absent : (id : BlockId) (payloads : Payloads) (q : Id) → is_some (lookup (equal_ids id) payloads.entries) ≡ false → cached_for payloads q ≡ cond (pointwise nat_eq q id.0) None (cached_for payloads q)
cached-absent id payloads q absent =
    elim (pointwise nat_eq q id.0) as (λ b. pointwise nat_eq q id.0 ≡ b → cached_for payloads q ≡ cond b None (cached_for payloads q)) [
      | true ↦ λ s. ap (cached_for payloads) (ids_equal q id.0 s) ∙ some_cached (lookup (of id.0) payloads.entries) absent
      | false ↦ λ s. refl
    ] refl
