-- Blobs as nodes of a tree: a kind, a parent, and bytes or entries.
use Rattle.std.specs.Prelude.{◌≡◌, ℕ, true, List, is_some}
use Rattle.std.specs.FinMap.{get, find}
use Rattle.std.specs.declared.option.Option.{Option}
use Rattle.std.specs.declared.option.Option.TheVariants.{Some}
use Rattle.fs_blobs.specs.blob_api.BlobMap.{Id, BlobMap}
use Rattle.fs_model.specs.declared.attr.Kind.{Kind}
use Rattle.fs_model.specs.declared.attr.Kind.TheVariants.{Directory, File, Link}
use Rattle.fs_model.specs.Tree.{Path, Row, Tree, name_cmp}
use Rattle.fs_blobs.specs.Headers.{blob}
use Rattle.dir_entries.specs.Layout.{EntryTarget, Listing, IsBody}

-- what the entries of a directory have under a name
abbrev pub Look : Type 0
Look = List ℕ → Option EntryTarget

-- the body of a directory whose entries answer so
pub record Lists (look : Look) (body : List ℕ) : Type 0 where
  pub listing : Listing
  pub is : IsBody body listing
  pub entries : (n : List ℕ) → find name_cmp n listing ≡ look n

-- a body by its kind: entries, or bytes
abbrev pub IsBodyOf : Kind → List ℕ → Look → List ℕ → Type 0
IsBodyOf Directory bytes look body = Lists look body
IsBodyOf File bytes look body = body ≡ bytes
IsBodyOf Link bytes look body = body ≡ bytes

-- the blob of this id has this kind, parent and content
pub record IsBlobOf (m : BlobMap) (id : Id) (kind : Kind) (parent : Id) (bytes : List ℕ) (look : Look) : Type 0 where
  pub body : List ℕ
  pub there : get m id ≡ Some (blob kind parent body)
  pub content : IsBodyOf kind bytes look body

-- the blobs are the nodes of the paths of a tree, each with its kind and bytes, and with this parent and these entries
pub record IsForest (m : BlobMap) (t : Tree) (ids : Path → Id) (parents : Path → Id) (looks : Path → Look) : Type 0 where
  pub nodes : (p : Path) (row : Row) → get t p ≡ Some row → IsBlobOf m (ids p) row.attr.kind (parents p) row.bytes (looks p)
  pub distinct : (p q : Path) → is_some (get t p) ≡ true → is_some (get t q) ≡ true → ids p ≡ ids q → p ≡ q
  pub all : (id : Id) → is_some (get m id) ≡ true → (p : Path) × (is_some (get t p) ≡ true) × (ids p ≡ id)
