-- Ids in their order, and changes of payloads by their ids. An id is a list of 16 bytes.
use Rattle.std.specs.Prelude.{ℕ, Bool, List}
use Rattle.std.specs.Cmp.Lexicographic.{slice_cmp}
use Rattle.std.specs.Ordering.{nat_cmp, eq_by_cmp}
use Rattle.std.specs.declared.cmp.Ordering.{Ordering}
use Rattle.std.specs.FinMap.{FinMap}
use Rattle.std.specs.declared.option.Option.{Option}

abbrev pub Id : Type 0
Id = List ℕ

abbrev pub id_cmp : Id → Id → Ordering
id_cmp = slice_cmp nat_cmp

abbrev pub same_id : Id → Id → Bool
same_id = eq_by_cmp id_cmp

-- changes by their ids: Some for a new payload, None for a removal
abbrev pub Changes : Type 0
Changes = FinMap id_cmp (Option (List ℕ))
