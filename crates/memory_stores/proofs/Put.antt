-- Rows that are set one after another.
use Rattle.std.proofs.Common.{◌≡◌, ℕ, ◌+◌, ◌<◌, List, [], ◌∷◌, Bool, true, false, cond, length, drop, get_or, refl, sym, ◌∙◌, ap, subst}
use Rattle.std.specs.Prelude.{T, Option, Some, None, Result, Ok, Err, OnOk, ◌&&◌, not}
use Rattle.std.proofs.lemmas.List.{length-map}
use Rattle.std.specs.FinMap as fin
use Rattle.std.specs.FinMap.{contains_key-keys, is_sorted, entries_sorted, get-entries, get-empty, get-insert, len-entries}
use Rattle.std.specs.FinMap.Entries.{find, below_all}
use Rattle.std.specs.Cmp.{Equal-is}
use Rattle.block_id.specs.Fresh.{zero_id}
use Rattle.block_id.specs.declared.id.BlockId.{BlockId}
use Rattle.block_id.proofs.Conditions.{left, right}
use Rattle.store_api.specs.declared.batch.BatchChange.{BatchChange}
use Rattle.store_api.specs.Content.{Id, id_cmp, same_id, Changes}
use Rattle.store_api.specs.Entries.{entries_of, change_view}
use Rattle.store_api.specs.Holdings.{is_free}
use Rattle.store_api.proofs.Rising.{ids_total, not_below, turn}
use Rattle.memory_stores.specs.Rows.{AreWith, newer}
use Rattle.memory_stores.specs.Setting.{put_all}

abbrev pub Plain : Type 0
Plain = List (Id × Option (List ℕ))

-- one more entry was set
pub put_more : (es : List (BlockId × BatchChange)) (i : ℕ) (e : BlockId × BatchChange) (old new final : Changes) → i < length es → e ≡ get_or es i e
    → put_all (drop i (entries_of es)) old ≡ final → new ≡ fin.insert old e.0.0 (change_view e.1) → put_all (drop (i + 1) (entries_of es)) new ≡ final
put_more es i e old new final h is so set =
    ap (put_all (drop (i + 1) (entries_of es))) set ∙ (sym (ap (λ xs. put_all xs old) (turn es i e h is)) ∙ so)

-- what the rows have at an id once all entries were set
get-put_all : (es : Plain) (rows : Changes) (q : Id) → T (is_sorted id_cmp es) → fin.get (put_all es rows) q ≡ newer (find id_cmp q es) (fin.get rows q)
get-put_all [] rows q rises = refl
get-put_all (e ∷ es) rows q rises =
    let above : T (below_all id_cmp e.0 es) = left (below_all id_cmp e.0 es) (is_sorted id_cmp es) rises in
    let rest : T (is_sorted id_cmp es) = right (below_all id_cmp e.0 es) (is_sorted id_cmp es) rises in
    get-put_all es (fin.insert rows e.0 e.1) q rest ∙ (ap (newer (find id_cmp q es)) (get-insert ids_total rows e.0 e.1 q)
    ∙ elim (same_id q e.0) as (λ b. same_id q e.0 ≡ b → newer (find id_cmp q es) (cond b (Some e.1) (fin.get rows q)) ≡ newer (cond b (Some e.1) (find id_cmp q es)) (fin.get rows q)) [
      | true ↦ λ s. ap (λ o. newer o (Some e.1)) (not_below ids_total q e.0 es ((Equal-is (id_cmp q e.0)).0 s) above)
      | false ↦ λ s. refl
    ] refl)

all_set : (changes old new : Changes) (es : Plain) → es ≡ fin.entries changes → new ≡ put_all es old → AreWith changes old new
all_set changes old new es are set id =
    ap (λ rows. fin.get rows id) set ∙ (get-put_all es old id (subst (λ xs. T (is_sorted id_cmp xs)) (sym are) (entries_sorted changes))
    ∙ ap (λ o. newer o (fin.get old id)) (ap (find id_cmp id) are ∙ sym (get-entries changes id)))

pub all_set_or_not : {E : Type 0} (r : Result Unit E) (changes old new : Changes) (es : Plain) → es ≡ fin.entries changes → OnOk r (new ≡ put_all es old) → OnOk r (AreWith changes old new)
all_set_or_not (Ok u) changes old new es are set = all_set changes old new es are set
all_set_or_not (Err e) changes old new es are set = tt

newer-none : (o : Option (Option (List ℕ))) → newer o None ≡ o
newer-none None = refl
newer-none (Some change) = refl

-- a copy with the changes
pub copied : (rows changes none copy new : Changes) → none ≡ fin.empty → AreWith rows none copy → AreWith changes copy new → AreWith changes rows new
copied rows changes none copy new is first second id =
    second id ∙ ap (newer (fin.get changes id)) (first id ∙ (ap (newer (fin.get rows id)) (ap (λ m. fin.get m id) is ∙ get-empty id_cmp id) ∙ newer-none (fin.get rows id)))

pub length-keys : (rows : Changes) → length (fin.keys rows) ≡ fin.len rows
length-keys rows = length-map (fin.entries rows) (λ e. e.0) ∙ sym (len-entries rows)

-- what tells whether an id is free
pub free_where_no_row : (rows : Changes) (id : Id) (has zero : Bool) → has ≡ fin.contains_key rows id → zero ≡ same_id id zero_id → has ≡ false → not zero ≡ is_free (fin.keys rows) id
free_where_no_row rows id has zero row is none =
    ap not is ∙ ap (λ used. not used && not (same_id id zero_id)) (sym none ∙ (row ∙ contains_key-keys rows id))

pub not_free_where_row : (rows : Changes) (id : Id) (has : Bool) → has ≡ fin.contains_key rows id → has ≡ true → not has ≡ is_free (fin.keys rows) id
not_free_where_row rows id has row some =
    ap not some ∙ ap (λ used. not used && not (same_id id zero_id)) (sym some ∙ (row ∙ contains_key-keys rows id))
