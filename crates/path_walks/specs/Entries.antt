-- What setting an entry needs.
use Rattle.std.specs.Prelude.{◌≡◌, ℕ, List, ◌∷◌}
use Rattle.std.specs.FinMap.{get, insert}
use Rattle.std.specs.declared.option.Option.TheVariants.{Some}
use Rattle.dir_blob.specs.blob_api.BlobMap.{Id, BlobMap, BlobHoldings}
use Rattle.fs_model.specs.Tree.{Path, Row, Tree, IsWellFormed, FitsKind}
use Rattle.dir_blob.specs.dir_entries.Layout.{EntryTarget}
use Rattle.path_walks.specs.Nodes.{Lists}
use Rattle.path_walks.specs.Shows.{ShowsBy, entries_at}

-- a row that gets other attributes of its kind: the entry e says them
pub record Setting {S : Type 0} (H : BlobHoldings S) (a : S) (dir : Id) (e : List ℕ × EntryTarget) : Type 0 where
  pub map : BlobMap
  pub stands : H.stands_for a map
  pub root : Id
  pub tree : Tree
  pub ids : Path → Id
  pub shows : ShowsBy map root tree ids
  pub path : Path
  pub row : Row
  pub there : get tree (e.0 ∷ path) ≡ Some row
  pub dir_id : ids path ≡ dir
  pub blob : ids (e.0 ∷ path) ≡ e.1.blob
  pub kind : row.attr.kind ≡ e.1.attr.kind
  pub well_formed : (bytes : List ℕ) → FitsKind e.1.attr.kind bytes → IsWellFormed (insert tree (e.0 ∷ path) (record { attr = e.1.attr; bytes = bytes }))

-- the same, and these bytes list what stands in the directory
pub record SettingIn {S : Type 0} (H : BlobHoldings S) (a : S) (dir : Id) (body : List ℕ) (e : List ℕ × EntryTarget) : Type 0 where
  pub setting : Setting H a dir e
  pub lists : Lists (entries_at setting.tree setting.ids setting.path) body
