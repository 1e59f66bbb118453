-- A folder's tree of kinds and bytes.
use Rattle.std.specs.Prelude.{◌≡◌, ℕ, ◌-◌, ◌<◌, ◌≤◌, true, List, [], ◌∷◌, ◌++◌, length, take, drop, map, T, IsTrue, is_some}
use Rattle.std.specs.FinMap.{FinMap, get, insert, find, is_sorted}
use Rattle.std.specs.declared.option.Option.{Option}
use Rattle.std.specs.declared.option.Option.TheVariants.{None, Some}
use Rattle.fs_model.specs.declared.attr.Kind.{Kind}
use Rattle.fs_model.specs.declared.attr.Kind.TheVariants.{Directory, File, Link}
use Rattle.fs_model.specs.declared.reply.ListRow.{ListRow}
use Rattle.fs_model.specs.Fitting.{is_target}
use Rattle.fs_model.specs.Names.{IsName}
use Rattle.fs_model.specs.Tree.{path_cmp, name_cmp}

-- a kind, and a file's content or a link's target
pub record HostRow : Type 0 where
  pub kind : Kind
  pub bytes : List ℕ

-- names from the root of the folder on
abbrev pub HostPath : Type 0
HostPath = List (List ℕ)

-- a folder's tree by paths whose names stand from its root on: so its entries stand as they are walked, a directory before what is in it, by increasing names
abbrev pub HostTree : Type 0
HostTree = FinMap path_cmp HostRow

abbrev pub directory_row : HostRow
directory_row = record { kind = Directory; bytes = [] }

-- a tree by its paths, its root among them
pub record IsHostTree (t : HostTree) : Type 0 where
  pub root : get t [] ≡ Some directory_row
  pub parents : (p : HostPath) (n : List ℕ) → is_some (get t (p ++ n ∷ [])) ≡ true → get t p ≡ Some directory_row
  pub names : (p : HostPath) (n : List ℕ) → is_some (get t (p ++ n ∷ [])) ≡ true → IsName n
  pub plain : (p : HostPath) (row : HostRow) → get t p ≡ Some row → row.kind ≡ Directory → row.bytes ≡ []
  pub targets : (p : HostPath) (row : HostRow) → get t p ≡ Some row → row.kind ≡ Link → IsTrue (is_target row.bytes)

abbrev pub row_pair : ListRow → List ℕ × Kind
row_pair r = (r.name, r.kind)

-- by increasing names
abbrev pub RowsRise : List ListRow → Type 0
RowsRise rows = T (is_sorted name_cmp (map row_pair rows))

abbrev pub kind_in : Option HostRow → Option Kind
kind_in None = None
kind_in (Some row) = Some row.kind

-- the kinds of a directory's children by their names
pub record AreRowsOf (t : HostTree) (p : HostPath) (rows : List ListRow) : Type 0 where
  pub there : kind_in (get t p) ≡ Some Directory
  pub each : (n : List ℕ) → find name_cmp n (map row_pair rows) ≡ kind_in (get t (p ++ n ∷ []))

-- n bytes of the file from this place on stand first in the piece
pub record IsFileAt (t : HostTree) (p : HostPath) (from n : ℕ) (old new : List ℕ) : Type 0 where
  pub bytes : List ℕ
  pub there : get t p ≡ Some (record { kind = File; bytes = bytes })
  pub few : n ≤ length bytes - from
  pub read : take n new ≡ take n (drop from bytes)
  pub end : n ≡ 0 → 0 < length old → length bytes ≤ from

abbrev pub IsLinkAt : HostTree → HostPath → List ℕ → Type 0
IsLinkAt t p text = get t p ≡ Some (record { kind = Link; bytes = text })

-- no target but a link's
abbrev pub HasTarget : Kind → List ℕ → Type 0
HasTarget Directory target = target ≡ []
HasTarget File target = target ≡ []
HasTarget Link target = IsTrue (is_target target)

-- where the tree is told, it is told afterwards as well, with the new row
abbrev pub IsMade : Option HostTree → Option HostTree → HostPath → Kind → List ℕ → Type 0
IsMade None after p kind target = after ≡ None
IsMade (Some t) after p kind target = (get t p ≡ None) × (after ≡ Some (insert t p (record { kind = kind; bytes = target })))

abbrev pub IsAppended : Option HostTree → Option HostTree → HostPath → List ℕ → Type 0
IsAppended None after p bytes = after ≡ None
IsAppended (Some t) after p bytes = (w : List ℕ) × ((get t p ≡ Some (record { kind = File; bytes = w })) × (after ≡ Some (insert t p (record { kind = File; bytes = w ++ bytes }))))
