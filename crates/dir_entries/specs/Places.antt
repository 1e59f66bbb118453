-- Where a name stands among the entries of a directory.
use Rattle.std.specs.Prelude.{◌≡◌, ℕ, ◌-◌, not, List, [], ◌∷◌, ◌++◌, length}
use Rattle.std.specs.Ordering.{eq_by_cmp}
use Rattle.std.specs.FinMap.{find, put}
use Rattle.std.specs.FinMap.Entries.{where_key}
use Rattle.std.specs.declared.option.Option.{Option}
use Rattle.std.specs.declared.option.Option.TheVariants.{None, Some}
use Rattle.block_id.specs.declared.id.BlockId.{BlockId}
use Rattle.fs_model.specs.declared.attr.Attr.{Attr}
use Rattle.fs_model.specs.Tree.{name_cmp}
use Rattle.dir_entries.specs.Layout.{EntryTarget, Listing, body_of}
use Rattle.dir_entries.specs.Reading.{entry_at}

abbrev pub target_of : Option (Attr × BlockId) → Option EntryTarget
target_of None = None
target_of (Some x) = Some (record { attr = x.0; blob = x.1.0 })

-- the entries without a name
abbrev pub without : List ℕ → Listing → Listing
without name listing = where_key name_cmp (λ n. not (eq_by_cmp name_cmp name n)) listing

-- the entry of a name, where it has one
abbrev pub held : List ℕ → Option EntryTarget → Listing
held name None = []
held name (Some target) = (name, target) ∷ []

-- the entries are those before the name, its own, and those after it
pub record IsPlace (name : List ℕ) (listing : Listing) (front : ℕ) (found : Option EntryTarget) (back : List ℕ) : Type 0 where
  pub before : Listing
  pub after : Listing
  pub starts : front ≡ length (body_of before)
  pub rest : back ≡ body_of after
  pub finds : find name_cmp name listing ≡ found
  pub split : listing ≡ before ++ (held name found ++ after)
  pub puts : (target : EntryTarget) → put name_cmp name target listing ≡ before ++ ((name, target) ∷ after)
  pub drops : without name listing ≡ before ++ after

-- an entry stands in front of the rest of a body
pub record IsHeld (body rest : List ℕ) (front : ℕ) (found : Option EntryTarget) (back : ℕ) : Type 0 where
  pub entry : List ℕ × EntryTarget
  pub after : List ℕ
  pub reads : entry_at rest ≡ Some (entry, after)
  pub starts : front ≡ length body - length rest
  pub target : found ≡ Some entry.1
  pub ends : back ≡ length body - length after
