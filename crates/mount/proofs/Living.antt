-- The live ids of a table of known versions increase, and are those of the content.
use Rattle.std.proofs.Common.{◌≡◌, ◌∙◌, ℕ, Bool, true, false, cond, List, [], ◌∷◌, map, refl, sym, ap, subst, Result, Ok, Err}
use Rattle.std.specs.Prelude.{IfOk, T, filter, is_some, ◌&&◌, ◌||◌}
use Rattle.std.specs.declared.option.Option.{Option}
use Rattle.std.specs.declared.option.Option.TheVariants.{None, Some}
use Rattle.std.specs.FinMap as fin
use Rattle.std.specs.FinMap.{entries_sorted, get-entries, is_sorted}
use Rattle.std.specs.FinMap.Entries.{below_all, find}
use Rattle.std.specs.Ordering.{is_lt}
use Rattle.std.specs.Cmp.{Equal-is}
use Rattle.block_id.proofs.Conditions.{left, right}
use Rattle.block_id.specs.declared.id.BlockId.{BlockId}
use Rattle.mount_core.specs.data_nodes.Layout.{ids_of}
use Rattle.mount_stores.specs.block_versions.Held.{where_live}
use Rattle.local_state.specs.Known.{Lives, live_ids, version_if_live}
use Rattle.local_state.specs.declared.life.Life.{Life}
use Rattle.store_api.specs.Content.{Id, id_cmp, same_id}
use Rattle.store_api.specs.Holdings.{has_id}
use Rattle.store_api.proofs.Rising.{ids_total, not_below}

abbrev live_of : List (Id × Life) → List (Id × Life)
live_of es = filter (λ e. e.1.live) es

abbrev unmarked : BlockId → Id × ℕ
unmarked id = (id.0, 0)

abbrev zeros : List Id → List (Id × ℕ)
zeros ids = map (λ id. (id, 0)) ids

both : (a b : Bool) → T a → T b → T (a && b)
both true b p q = q
both false b p q = p

-- ---- what lives increases

below_live : (x : Id) (es : List (Id × Life)) → T (below_all id_cmp x es) → T (below_all id_cmp x (zeros (map (λ e. e.0) (live_of es))))
below_live x [] h = tt
below_live x (e ∷ es) h =
    let here = left (is_lt (id_cmp x e.0)) (below_all id_cmp x es) h in
    let rest = below_live x es (right (is_lt (id_cmp x e.0)) (below_all id_cmp x es) h) in
    elim e.1.live as (λ b. T (below_all id_cmp x (zeros (map (λ e. e.0) (cond b (e ∷ live_of es) (live_of es)))))) [
      | true ↦ both (is_lt (id_cmp x e.0)) (below_all id_cmp x (zeros (map (λ e. e.0) (live_of es)))) here rest
      | false ↦ rest
    ]

sorted_live : (es : List (Id × Life)) → T (is_sorted id_cmp es) → T (is_sorted id_cmp (zeros (map (λ e. e.0) (live_of es))))
sorted_live [] h = tt
sorted_live (e ∷ es) h =
    let here = left (below_all id_cmp e.0 es) (is_sorted id_cmp es) h in
    let rest = sorted_live es (right (below_all id_cmp e.0 es) (is_sorted id_cmp es) h) in
    elim e.1.live as (λ b. T (is_sorted id_cmp (zeros (map (λ e. e.0) (cond b (e ∷ live_of es) (live_of es)))))) [
      | true ↦ both (below_all id_cmp e.0 (zeros (map (λ e. e.0) (live_of es)))) (is_sorted id_cmp (zeros (map (λ e. e.0) (live_of es)))) (below_live e.0 es here) rest
      | false ↦ rest
    ]

unmarked_zeros : (ids : List BlockId) → map unmarked ids ≡ zeros (ids_of ids)
unmarked_zeros [] = refl
unmarked_zeros (id ∷ ids) = ap (λ xs. unmarked id ∷ xs) (unmarked_zeros ids)

-- ---- and is the content's

lives_here : (live : Bool) (version : ℕ) (rest : Bool) → rest ≡ false → cond live true rest ≡ is_some (cond live (Some version) None)
lives_here true version rest e = refl
lives_here false version rest e = e

has_live : (b live : Bool) (id : Id) (e : Id × Life) (es : List (Id × Life)) → same_id id e.0 ≡ b → has_id (map (λ x. x.0) (cond live (e ∷ live_of es) (live_of es))) id ≡ cond live (b || has_id (map (λ x. x.0) (live_of es)) id) (has_id (map (λ x. x.0) (live_of es)) id)
has_live b true id e es is = ap (λ x. x || has_id (map (λ x. x.0) (live_of es)) id) is
has_live b false id e es is = refl

same_both : (live x : Bool) → cond live x x ≡ x
same_both true x = refl
same_both false x = refl

living : (es : List (Id × Life)) (id : Id) → T (is_sorted id_cmp es) → has_id (map (λ e. e.0) (live_of es)) id ≡ is_some (version_if_live (find id_cmp id es))
living [] id h = refl
living (e ∷ es) id h =
    let rest = living es id (right (below_all id_cmp e.0 es) (is_sorted id_cmp es) h) in
    let at : (b : Bool) → same_id id e.0 ≡ b → has_id (map (λ x. x.0) (live_of (e ∷ es))) id ≡ is_some (version_if_live (cond b (Some e.1) (find id_cmp id es))) = λ b. elim b as (λ b. same_id id e.0 ≡ b → has_id (map (λ x. x.0) (live_of (e ∷ es))) id ≡ is_some (version_if_live (cond b (Some e.1) (find id_cmp id es)))) [
      | true ↦ λ is.
          let none = not_below ids_total id e.0 es ((Equal-is (id_cmp id e.0)).0 is) (left (below_all id_cmp e.0 es) (is_sorted id_cmp es) h) in
          has_live true e.1.live id e es is ∙ lives_here e.1.live e.1.version (has_id (map (λ x. x.0) (live_of es)) id) (rest ∙ ap (λ o. is_some (version_if_live o)) none)
      | false ↦ λ is. has_live false e.1.live id e es is ∙ (same_both e.1.live (has_id (map (λ x. x.0) (live_of es)) id) ∙ rest)
    ] in
    at (same_id id e.0) refl

-- what lives has a payload, whatever that is
pub has_payload : (version : Option ℕ) (payload : List ℕ) → is_some (where_live version payload) ≡ is_some version
has_payload None payload = refl
has_payload (Some version) payload = refl

-- ---- of what was listed

pub listed : {T E : Type 0} (r : Result T E) (P Q : T → Type 0) → ((x : T) → P x → Q x) → IfOk r P → IfOk r Q
listed (Ok x) P Q f h = f x h
listed (Err e) P Q f h = tt

module _ (lives : Lives) (ids : List BlockId) (all : ids_of ids ≡ live_ids lives) where
  pub ids_rise : T (is_sorted id_cmp (map unmarked ids))
  ids_rise = subst (λ xs. T (is_sorted id_cmp xs)) (sym (unmarked_zeros ids ∙ ap zeros all)) (sorted_live (fin.entries lives) (entries_sorted lives))

  pub ids_live : (id : Id) → has_id (ids_of ids) id ≡ is_some (version_if_live (fin.get lives id))
  ids_live id = ap (λ xs. has_id xs id) all ∙ (living (fin.entries lives) id (entries_sorted lives) ∙ ap (λ o. is_some (version_if_live o)) (sym (get-entries lives id)))
