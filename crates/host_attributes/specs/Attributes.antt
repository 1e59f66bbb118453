-- The attributes of a folder's rows, as a tree of the language has them.
use Rattle.std.specs.Prelude.{◌≡◌, ◌≤◌, ℕ, List, [], ◌∷◌, ◌++◌, map}
use Rattle.std.specs.List.{All}
use Rattle.std.specs.FinMap.{get, insert, entries}
use Rattle.std.specs.declared.option.Option.{Option}
use Rattle.std.specs.declared.option.Option.TheVariants.{None, Some}
use Rattle.fs_model.specs.declared.attr.Attr.{Attr}
use Rattle.fs_model.specs.declared.limits.TheConstants.{MAX_MODE}
use Rattle.fs_model.specs.declared.reply.ListRow.{ListRow}
use Rattle.fs_model.specs.Tree.{Row, Tree, children, upward}
use Rattle.host_folder.specs.Folders.{HostPath}
use Rattle.host_attributes.specs.declared.row.AttributedRow.{AttributedRow}

-- a child's name and attributes
abbrev pub attributed : List ℕ × Row → AttributedRow
attributed e = record { name = e.0; attr = e.1.attr }

-- the rows of a directory, by increasing names
abbrev pub rows_in : Tree → HostPath → List AttributedRow
rows_in t p = map attributed (entries (children t (upward p)))

-- each mode is within its limit
abbrev pub AreWithin : List AttributedRow → Type 0
AreWithin rows = All (λ row. row.attr.mode ≤ MAX_MODE) rows

-- the attributes of a row that was looked up
abbrev pub attr_in : Option Row → Option Attr
attr_in None = None
attr_in (Some row) = Some row.attr

-- the rows of a listing, each with the attributes that stand at its path
abbrev pub AreLookedUp : Tree → HostPath → List ListRow → List AttributedRow → Type 0
AreLookedUp t p [] rows = rows ≡ []
AreLookedUp t p (l ∷ ls) rows =
    (row : AttributedRow) × ((rest : List AttributedRow) × ((rows ≡ row ∷ rest) × ((row.name ≡ l.name) × ((attr_in (get t (upward (p ++ l.name ∷ []))) ≡ Some row.attr) × AreLookedUp t p ls rest))))

-- the mode, the owner and the two moments of the second; kind and ctime stay
abbrev pub set_onto : Attr → Attr → Attr
set_onto old new = record old { mode = new.mode; uid = new.uid; gid = new.gid; atime = new.atime; mtime = new.mtime }

-- where the attributes are told, they are told afterwards as well, with those of this row set
abbrev pub IsSet : Option Tree → Option Tree → HostPath → Attr → Type 0
IsSet None after p attr = after ≡ None
IsSet (Some t) after p attr =
    (row : Row) × ((get t (upward p) ≡ Some row) × (after ≡ Some (insert t (upward p) (record row { attr = set_onto row.attr attr }))))
