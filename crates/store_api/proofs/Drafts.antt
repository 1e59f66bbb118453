-- Entries of a tree, as those of a batch.
use Rattle.std.specs.Borrow.{Bor}
use Rattle.std.proofs.Common.{◌≡◌, ℕ, List, [], ◌∷◌, Bool, true, false, cond, refl, sym, ◌∙◌, ap, subst}
use Rattle.std.specs.Prelude.{T, Option, Some, None, IfSome, IfNone, Result, Ok, Err, OnOk, OnErr, not}
use Rattle.std.specs.Option.{option_map, option_copied}
use Rattle.std.specs.Ordering.{is_eq, match_ordering}
use Rattle.std.specs.Map.{lookup, remove_entry}
use Rattle.std.specs.BTreeMap.{insert_entry}
use Rattle.std.specs.FinMap as fin
use Rattle.std.specs.FinMap.{is_sorted, entries-from_sorted}
use Rattle.std.specs.FinMap.Entries.{put, find, by_order, below_all}
use Rattle.std.specs.declared.cmp.Ordering.TheVariants.{Less, Equal, Greater}
use Rattle.block_id.specs.declared.id.BlockId.{BlockId}
use Rattle.block_id.proofs.Conditions.{left, right}
use Rattle.store_api.specs.declared.batch.BatchChange.{BatchChange}
use Rattle.store_api.specs.Changes.{Id, id_cmp, Changes}
use Rattle.store_api.specs.Entries.{entry_view, entries_of, change_view, changes_of, drafted, others}
use Rattle.store_api.proofs.Places.{no_changes, sorted-put, kept-changes, changes-remove, others_above}

abbrev pub Entries : Type 0
Entries = List (BlockId × BatchChange)

abbrev pub is_of : Id → BlockId → Bool
is_of id other = is_eq (id_cmp id other.0)

-- what the tree has at an id
find-lookup : (id : Id) (es : Entries) → find id_cmp id (entries_of es) ≡ option_map change_view (lookup (is_of id) es)
find-lookup id [] = refl
find-lookup id (e ∷ es) =
    elim (is_of id e.0) as (λ b. cond b (Some (change_view e.1)) (find id_cmp id (entries_of es)) ≡ option_map change_view (cond b (Some e.1) (lookup (is_of id) es))) [
      | true ↦ refl
      | false ↦ find-lookup id es
    ]

pub looked_some : (id : Id) (es : Entries) (r : Option (Bor BatchChange)) → option_copied r ≡ lookup (is_of id) es → IfSome r (λ change. find id_cmp id (entries_of es) ≡ Some (change_view change.now))
looked_some id es None copied = tt
looked_some id es (Some change) copied = find-lookup id es ∙ ap (option_map change_view) (sym copied)

pub looked_none : (id : Id) (es : Entries) (r : Option (Bor BatchChange)) → option_copied r ≡ lookup (is_of id) es → IfNone r (find id_cmp id (entries_of es) ≡ None)
looked_none id es None copied = find-lookup id es ∙ ap (option_map change_view) (sym copied)
looked_none id es (Some change) copied = tt

-- one more change of the tree
pub entries-insert_entry : (es : Entries) (id : BlockId) (change : BatchChange) → entries_of (insert_entry (λ a b. id_cmp a.0 b.0) es id change) ≡ put id_cmp id.0 (change_view change) (entries_of es)
entries-insert_entry [] id change = refl
entries-insert_entry (e ∷ es) id change =
    elim (id_cmp id.0 e.0.0) as (λ r. entries_of (match_ordering r ((id, change) ∷ e ∷ es) ((e.0, change) ∷ es) (e ∷ insert_entry (λ a b. id_cmp a.0 b.0) es id change))
    ≡ by_order r ((id.0, change_view change) ∷ entries_of (e ∷ es)) ((e.0.0, change_view change) ∷ entries_of es) (entry_view e ∷ put id_cmp id.0 (change_view change) (entries_of es))) [
      | Less ↦ refl
      | Equal ↦ refl
      | Greater ↦ ap (λ ys. entry_view e ∷ ys) (entries-insert_entry es id change)
    ]

-- the tree without an id
pub entries-remove_entry : (id : Id) (es : Entries) → T (is_sorted id_cmp (entries_of es)) → entries_of (remove_entry (is_of id) es) ≡ others id (entries_of es)
entries-remove_entry id [] rises = refl
entries-remove_entry id (e ∷ es) rises =
    let later = entries-remove_entry id es (right (below_all id_cmp e.0.0 (entries_of es)) (is_sorted id_cmp (entries_of es)) rises) in
    let above = left (below_all id_cmp e.0.0 (entries_of es)) (is_sorted id_cmp (entries_of es)) rises in
    elim (id_cmp id e.0.0) as (λ r. id_cmp id e.0.0 ≡ r → entries_of (cond (is_eq r) es (e ∷ remove_entry (is_of id) es)) ≡ cond (not (is_eq r)) (entry_view e ∷ others id (entries_of es)) (others id (entries_of es))) [
      | Less ↦ λ p. ap (λ ys. entry_view e ∷ ys) later
      | Equal ↦ λ p. sym (others_above id e.0.0 (entries_of es) p above)
      | Greater ↦ λ p. ap (λ ys. entry_view e ∷ ys) later
    ] refl

-- where no batch was given back, the changes are those of the tree
pub in_tree : (es : Entries) (given : Option Changes) (m : Changes) → given ≡ None → drafted es given ≡ m → changes_of es ≡ m
in_tree es given m none is = sym (ap (drafted es) none) ∙ is

pub tree_entries : (es : Entries) (given : Option Changes) (m : Changes) → given ≡ None → drafted es given ≡ m → T (is_sorted id_cmp (entries_of es)) → entries_of es ≡ fin.entries m
tree_entries es given m none is rises = sym (entries-from_sorted id_cmp (entries_of es) rises) ∙ ap fin.entries (in_tree es given m none is)

-- the entries rise after one change was set, or was not
pub set-sorted : {E : Type 0} (r : Result Unit E) (old new : Entries) (id : Id) (change : Option (List ℕ)) → T (is_sorted id_cmp (entries_of old))
    → OnOk r (entries_of new ≡ put id_cmp id change (entries_of old)) → OnErr r (new ≡ old) → T (is_sorted id_cmp (entries_of new))
set-sorted (Ok u) old new id change rises ok err = sorted-put old new id change rises ok
set-sorted (Err e) old new id change rises ok err = subst (λ es. T (is_sorted id_cmp (entries_of es))) (sym err) rises

pub set-drafted : {E : Type 0} (r : Result Unit E) (given : Option Changes) (m : Changes) (old new : Entries) (id : Id) (change : Option (List ℕ)) → given ≡ None → drafted old given ≡ m
    → T (is_sorted id_cmp (entries_of old)) → OnOk r (entries_of new ≡ put id_cmp id change (entries_of old)) → OnOk r (drafted new given ≡ fin.insert m id change)
set-drafted r given m old new id change none is rises ok =
    subst (λ g. OnOk r (drafted new g ≡ fin.insert m id change)) (sym none) (kept-changes r m old new id change (in_tree old given m none is) rises ok)

pub forgotten : (given : Option Changes) (m : Changes) (old new : Entries) (id : Id) → given ≡ None → drafted old given ≡ m → T (is_sorted id_cmp (entries_of old))
    → entries_of new ≡ others id (entries_of old) → drafted new given ≡ fin.remove m id
forgotten given m old new id none is rises e =
    ap (drafted new) none ∙ (changes-remove old new id rises e ∙ ap (λ n. fin.remove n id) (in_tree old given m none is))

pub drafted-nothing : (es : Entries) (given : Option Changes) → given ≡ None → es ≡ [] → drafted es given ≡ fin.empty
drafted-nothing es given none left = ap (drafted es) none ∙ (ap changes_of left ∙ no_changes)
