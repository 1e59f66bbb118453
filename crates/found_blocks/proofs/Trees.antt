-- Trees of ids: what they have, and one entry more.
use Rattle.std.proofs.Common.{◌≡◌, List, [], ◌∷◌, Bool, true, false, cond, map, refl, ◌∙◌, ap}
use Rattle.std.specs.Prelude.{◌||◌, Some, is_some}
use Rattle.std.specs.Ordering.{is_eq, match_ordering}
use Rattle.std.specs.Map.{lookup}
use Rattle.std.specs.BTreeMap.{insert_entry}
use Rattle.std.specs.FinMap.Entries.{put, by_order}
use Rattle.std.specs.FinMap.{slice_cmp-IsAntisymmetric, nat_cmp-IsAntisymmetric}
use Rattle.std.specs.declared.cmp.Ordering.TheVariants.{Less, Equal, Greater}
use Rattle.block_id.specs.declared.id.BlockId.{BlockId}
use Rattle.store_api.specs.Content.{Id, id_cmp, same_id}
use Rattle.store_api.specs.Holdings.{has_id}

abbrev pub is_of : Id → BlockId → Bool
is_of id other = is_eq (id_cmp id other.0)

module _ {V X : Type 0} (view : V → X) where
  abbrev pub entries_by : List (BlockId × V) → List (Id × X)
  entries_by es = map (λ e. (e.0.0, view e.1)) es

  -- one more entry
  pub tree_put : (es : List (BlockId × V)) (id : BlockId) (v : V) → entries_by (insert_entry (λ a b. id_cmp a.0 b.0) es id v) ≡ put id_cmp id.0 (view v) (entries_by es)
  tree_put [] id v = refl
  tree_put (e ∷ es) id v =
      elim (id_cmp id.0 e.0.0) as (λ r. entries_by (match_ordering r ((id, v) ∷ e ∷ es) ((e.0, v) ∷ es) (e ∷ insert_entry (λ a b. id_cmp a.0 b.0) es id v))
      ≡ by_order r ((id.0, view v) ∷ entries_by (e ∷ es)) ((e.0.0, view v) ∷ entries_by es) ((e.0.0, view e.1) ∷ put id_cmp id.0 (view v) (entries_by es))) [
        | Less ↦ refl
        | Equal ↦ refl
        | Greater ↦ ap (λ ys. (e.0.0, view e.1) ∷ ys) (tree_put es id v)
      ]

or_twice : (a b c : Bool) → b ≡ a → (a || c) ≡ (b || (a || c))
or_twice true b c e = rw e refl
or_twice false b c e = rw e refl

or_swap : (a b c : Bool) → (a || (b || c)) ≡ (b || (a || c))
or_swap true true c = refl
or_swap true false c = refl
or_swap false true c = refl
or_swap false false c = refl

module _ {V : Type 0} where
  abbrev pub keys_by : List (BlockId × V) → List Id
  keys_by es = map (λ e. e.0.0) es

  -- a key is there where the tree has something
  pub keys_has : (id : Id) (es : List (BlockId × V)) → has_id (keys_by es) id ≡ is_some (lookup (is_of id) es)
  keys_has id [] = refl
  keys_has id (e ∷ es) =
      elim (is_of id e.0) as (λ b. (b || has_id (keys_by es) id) ≡ is_some (cond b (Some e.1) (lookup (is_of id) es))) [
        | true ↦ refl
        | false ↦ keys_has id es
      ]

  -- one more key
  pub keys_put : (es : List (BlockId × V)) (id : BlockId) (v : V) (other : Id) → has_id (keys_by (insert_entry (λ a b. id_cmp a.0 b.0) es id v)) other ≡ has_id (id.0 ∷ keys_by es) other
  keys_put [] id v other = refl
  keys_put (e ∷ es) id v other =
      elim (id_cmp id.0 e.0.0) as (λ r. id_cmp id.0 e.0.0 ≡ r → has_id (keys_by (match_ordering r ((id, v) ∷ e ∷ es) ((e.0, v) ∷ es) (e ∷ insert_entry (λ a b. id_cmp a.0 b.0) es id v))) other
      ≡ (same_id other id.0 || (same_id other e.0.0 || has_id (keys_by es) other))) [
        | Less ↦ λ _. refl
        | Equal ↦ λ tied. or_twice (same_id other e.0.0) (same_id other id.0) (has_id (keys_by es) other) (ap (same_id other) (slice_cmp-IsAntisymmetric nat_cmp-IsAntisymmetric id.0 e.0.0 tied))
        | Greater ↦ λ _. ap (λ b. same_id other e.0.0 || b) (keys_put es id v other) ∙ or_swap (same_id other e.0.0) (same_id other id.0) (has_id (keys_by es) other)
      ] refl
