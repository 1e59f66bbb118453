-- The lives after the entries of a batch, by the ids of the batch.
use Rattle.std.proofs.Common.{◌≡◌, ℕ, List, [], ◌∷◌, true, false, cond, refl, sym, ◌∙◌, ap, subst, inl, inr}
use Rattle.std.specs.Prelude.{T, Option, Some, None, ◌||◌}
use Rattle.std.specs.FinMap as fin
use Rattle.std.specs.FinMap.{is_sorted, get-insert}
use Rattle.std.specs.FinMap.Entries.{find}
use Rattle.std.specs.Cmp.{Equal-is}
use Rattle.std.proofs.lemmas.Bool.{or_cases, or_right}
use Rattle.block_versions.specs.local_state.declared.life.Life.{Life}
use Rattle.block_versions.specs.local_state.Known.{Lives, is_last}
use Rattle.store_api.specs.Content.{Id, id_cmp, same_id}
use Rattle.store_api.proofs.Rising.{ids_total, same_id_is, not_below}
use Rattle.integrity_store.specs.Applied.{life_after}
use Rattle.integrity_store.specs.Raising.{BatchEntry, is_spent_at, some_spent_in, one_if_new, count_new_in, MayCome, with_life_at, lives_after_one, lives_after_each, MayComeEach, count_new_each}
use Rattle.integrity_store.proofs.Sorted.{found_first, later_differs, found_later, rest_rises, first_below}

-- ---- one entry

-- only an id that isn't known has no life afterwards
unmarked : (change : Option (List ℕ)) (life : Option Life) → life_after (Some change) life ≡ None → life ≡ None
unmarked (Some payload) life e = absurd (cc)
unmarked None None e = refl
unmarked None (Some life) e = absurd (cc)

get-with_life_at : (lives : Lives) (id q : Id) (o : Option Life) → (o ≡ None → fin.get lives id ≡ None) → fin.get (with_life_at lives id o) q ≡ cond (same_id q id) o (fin.get lives q)
get-with_life_at lives id q None h =
    elim (same_id q id) as (λ b. same_id q id ≡ b → fin.get lives q ≡ cond b None (fin.get lives q)) [
      | true ↦ λ s. ap (λ x. fin.get lives x) (same_id_is q id s) ∙ h refl
      | false ↦ λ s. refl
    ] refl
get-with_life_at lives id q (Some life) h = get-insert ids_total lives id life q

get-lives_after_one : (lives : Lives) (e : BatchEntry) (q : Id) → fin.get (lives_after_one lives e) q ≡ cond (same_id q e.0) (life_after (Some e.1) (fin.get lives e.0)) (fin.get lives q)
get-lives_after_one lives e q = get-with_life_at lives e.0 q (life_after (Some e.1) (fin.get lives e.0)) (unmarked e.1 (fin.get lives e.0))

-- what comes later in a batch keeps its life
kept : (lives : Lives) (e : BatchEntry) (es : List BatchEntry) (q : Id) (change : Option (List ℕ)) → T (is_sorted id_cmp (e ∷ es)) → find id_cmp q es ≡ Some change → fin.get (lives_after_one lives e) q ≡ fin.get lives q
kept lives e es q change rises found =
    get-lives_after_one lives e q ∙ ap (λ b. cond b (life_after (Some e.1) (fin.get lives e.0)) (fin.get lives q)) (later_differs ids_total q e es change rises found)

-- ---- all entries

pub get-lives_after_each : (es : List BatchEntry) (lives : Lives) (q : Id) → T (is_sorted id_cmp es) → fin.get (lives_after_each lives es) q ≡ life_after (find id_cmp q es) (fin.get lives q)
get-lives_after_each [] lives q rises = refl
get-lives_after_each (e ∷ es) lives q rises =
    get-lives_after_each es (lives_after_one lives e) q (rest_rises ids_total e es rises) ∙ ap (life_after (find id_cmp q es)) (get-lives_after_one lives e q)
    ∙ elim (same_id q e.0) as (λ b. same_id q e.0 ≡ b
    → life_after (find id_cmp q es) (cond b (life_after (Some e.1) (fin.get lives e.0)) (fin.get lives q)) ≡ life_after (cond b (Some e.1) (find id_cmp q es)) (fin.get lives q)) [
      | true ↦ λ s.
          ap (λ o. life_after o (life_after (Some e.1) (fin.get lives e.0))) (not_below ids_total q e.0 es ((Equal-is (id_cmp q e.0)).0 s) (first_below ids_total e es rises))
          ∙ ap (λ x. life_after (Some e.1) (fin.get lives x)) (sym (same_id_is q e.0 s))
      | false ↦ λ s. refl
    ] refl

pub may_come_each : (es : List BatchEntry) (lives : Lives) → T (is_sorted id_cmp es) → ((id : Id) (change : Option (List ℕ)) → find id_cmp id es ≡ Some change → MayCome id change (fin.get lives id))
    → MayComeEach lives es
may_come_each [] lives rises may = tt
may_come_each (e ∷ es) lives rises may = (
  may e.0 e.1 (found_first ids_total e es),
  may_come_each es (lives_after_one lives e) (rest_rises ids_total e es rises)
      (λ id change found. subst (MayCome id change) (sym (kept lives e es id change rises found)) (may id change (found_later ids_total id e es change rises found))),
)

count_same : (es : List BatchEntry) (now lives : Lives) → T (is_sorted id_cmp es) → ((id : Id) (change : Option (List ℕ)) → find id_cmp id es ≡ Some change → fin.get now id ≡ fin.get lives id)
    → count_new_each now es ≡ count_new_in lives es
count_same [] now lives rises same = refl
count_same (e ∷ es) now lives rises same =
    let first : one_if_new (fin.get now e.0) ≡ one_if_new (fin.get lives e.0) = ap one_if_new (same e.0 e.1 (found_first ids_total e es)) in
    let rest : count_new_each (lives_after_one now e) es ≡ count_new_in lives es = count_same es (lives_after_one now e) lives (rest_rises ids_total e es rises)
    (λ id change found. kept now e es id change rises found ∙ same id change (found_later ids_total id e es change rises found)) in
    cc

-- the new ids are counted before the first is marked
pub count_before : (es : List BatchEntry) (lives : Lives) → T (is_sorted id_cmp es) → count_new_each lives es ≡ count_new_in lives es
count_before es lives rises = count_same es lives lives rises (λ id change found. refl)

-- ---- spent ids

pub record SpentIn (lives : Lives) (es : List BatchEntry) : Type 0 where
  pub id : Id
  pub payload : List ℕ
  pub gets : find id_cmp id es ≡ Some (Some payload)
  pub last : is_last (fin.get lives id) ≡ true

spent_first : (change : Option (List ℕ)) (life : Option Life) → is_spent_at change life ≡ true → (payload : List ℕ) × (change ≡ Some payload) × (is_last life ≡ true)
spent_first (Some payload) life e = (payload, refl, e)
spent_first None life e = absurd (cc)

pub spent_found : (es : List BatchEntry) (lives : Lives) → T (is_sorted id_cmp es) → some_spent_in lives es ≡ true → SpentIn lives es
spent_found [] lives rises e = absurd (cc)
spent_found (e ∷ es) lives rises is = elim (or_cases (is_spent_at e.1 (fin.get lives e.0)) (some_spent_in lives es) is) [
  | inl here ↦
      let s = spent_first e.1 (fin.get lives e.0) here in
      record { id = e.0; payload = s.0; gets = found_first ids_total e es ∙ ap Some s.1; last = s.2 }
  | inr there ↦
      let s = spent_found es lives (rest_rises ids_total e es rises) there in
      record { id = s.id; payload = s.payload; gets = found_later ids_total s.id e es (Some s.payload) rises s.gets; last = s.last }
]

pub found_spent : (es : List BatchEntry) (lives : Lives) (id : Id) (payload : List ℕ) → find id_cmp id es ≡ Some (Some payload) → is_last (fin.get lives id) ≡ true → some_spent_in lives es ≡ true
found_spent [] lives id payload gets last = absurd (cc)
found_spent (e ∷ es) lives id payload gets last =
    elim (same_id id e.0) as (λ b. same_id id e.0 ≡ b → cond b (Some e.1) (find id_cmp id es) ≡ Some (Some payload) → (is_spent_at e.1 (fin.get lives e.0) || some_spent_in lives es) ≡ true) [
      | true ↦ λ s here.
          let given : e.1 ≡ Some payload = cc in
          let spent : is_spent_at e.1 (fin.get lives e.0) ≡ true = ap (λ c. is_spent_at c (fin.get lives e.0)) given ∙ (ap (λ x. is_last (fin.get lives x)) (sym (same_id_is id e.0 s)) ∙ last) in
          ap (λ b. b || some_spent_in lives es) spent
      | false ↦ λ s there. or_right (is_spent_at e.1 (fin.get lives e.0)) (some_spent_in lives es) (found_spent es lives id payload there last)
    ] refl gets

pub not_spent : (es : List BatchEntry) (lives : Lives) (id : Id) (payload : List ℕ) → some_spent_in lives es ≡ false → find id_cmp id es ≡ Some (Some payload) → is_last (fin.get lives id) ≡ false
not_spent es lives id payload none gets =
    elim (is_last (fin.get lives id)) as (λ b. is_last (fin.get lives id) ≡ b → b ≡ false) [
      | true ↦ λ last. let some : some_spent_in lives es ≡ true = found_spent es lives id payload gets last in absurd (cc)
      | false ↦ λ last. refl
    ] refl
