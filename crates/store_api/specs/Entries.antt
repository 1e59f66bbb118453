-- A batch as plain data.
use Rattle.std.specs.Prelude.{ℕ, ◌+◌, Bool, false, not, List, [], ◌∷◌, map}
use Rattle.std.specs.FinMap.{from_sorted}
use Rattle.std.specs.FinMap.Entries.{by_order, where_key}
use Rattle.std.specs.Coded.{Coded, coded_ℕ, coded_list, coded_option}
use Rattle.std.specs.FinMap as fin
use Rattle.std.specs.declared.option.Option.{Option}
use Rattle.std.specs.declared.option.Option.TheVariants.{None, Some}
use Rattle.block_id.specs.declared.id.BlockId.{BlockId}
use Rattle.store_api.specs.declared.batch.BatchChange.{BatchChange}
use Rattle.store_api.specs.declared.batch.BatchChange.TheVariants.{Payload, Removal}
use Rattle.store_api.specs.Changes.{Id, id_cmp, same_id, Changes}

abbrev pub change_view : BatchChange → Option (List ℕ)
change_view (Payload bytes) = Some bytes.items
change_view Removal = None

abbrev pub entry_view : BlockId × BatchChange → Id × Option (List ℕ)
entry_view entry = (entry.0.0, change_view entry.1)

abbrev pub entries_of : List (BlockId × BatchChange) → List (Id × Option (List ℕ))
entries_of entries = map entry_view entries

abbrev pub changes_of : List (BlockId × BatchChange) → Changes
changes_of entries = from_sorted (entries_of entries)

-- the changes of a draft: those of the batch that was given back, or else these entries
abbrev pub drafted : List (BlockId × BatchChange) → Option Changes → Changes
drafted entries None = changes_of entries
drafted entries (Some changes) = changes

abbrev pub changes_code : Coded Changes
changes_code = fin.code (coded_list coded_ℕ) (coded_option (coded_list coded_ℕ))

-- where an id stands, or would stand
abbrev pub place : Id → List (Id × Option (List ℕ)) → ℕ
place id [] = 0
place id (entry ∷ entries) = by_order (id_cmp id entry.0) 0 0 (place id entries + 1)

-- an entry of this id
abbrev pub is_entry_of : Id → Option (Id × Option (List ℕ)) → Bool
is_entry_of id None = false
is_entry_of id (Some entry) = same_id id entry.0

-- the entries of other ids
abbrev pub others : Id → List (Id × Option (List ℕ)) → List (Id × Option (List ℕ))
others id = where_key id_cmp (λ x. not (same_id id x))
