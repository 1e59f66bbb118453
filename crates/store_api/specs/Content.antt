-- What a store holds: a payload for some of the ids.
use Rattle.std.specs.Prelude.{◌≡◌, ℕ, List, is_some}
use Rattle.std.specs.FinMap.{get}
use Rattle.std.specs.declared.option.Option.{Option}
use Rattle.std.specs.declared.option.Option.TheVariants.{None, Some}
pub use Rattle.store_api.specs.Changes.{Id, id_cmp, same_id, Changes}

abbrev pub Content : Type 0
Content = Id → Option (List ℕ)

-- both have the same ids
abbrev pub SameIds : Content → Content → Type 0
SameIds old new = (id : Id) → is_some (new id) ≡ is_some (old id)

abbrev pub SameContent : Content → Content → Type 0
SameContent old new = (id : Id) → new id ≡ old id

abbrev pub or_else : Option (Option (List ℕ)) → Option (List ℕ) → Option (List ℕ)
or_else None old = old
or_else (Some new) old = new

-- the content after these changes
abbrev pub over : Changes → Content → Content
over changes content id = or_else (get changes id) (content id)
