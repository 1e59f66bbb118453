-- What a move needs.
use Rattle.std.specs.Prelude.{◌≡◌, ℕ, List, ◌∷◌}
use Rattle.std.specs.FinMap.{get}
use Rattle.std.specs.declared.option.Option.TheVariants.{None}
use Rattle.path_walks.specs.blob_api.BlobMap.{Id, BlobMap, BlobHoldings}
use Rattle.fs_model.specs.declared.attr.Kind.TheVariants.{Directory}
use Rattle.fs_model.specs.declared.reply.Reply.{Reply}
use Rattle.fs_model.specs.declared.reply.Reply.TheVariants.{Done, Rows, Info, Target as LinkTarget, Content, Error}
use Rattle.fs_model.specs.Instant.{Instant}
use Rattle.fs_model.specs.Tree.{Path, Row, Tree, upward, IsWellFormed}
use Rattle.fs_model.specs.Move.{CanMove}
use Rattle.fs_model.specs.Step.{with_ctime, moved_tree}
use Rattle.path_walks.specs.dir_entries.Layout.{EntryTarget}
use Rattle.path_walks.specs.Nodes.{Lists}
use Rattle.path_walks.specs.Shows.{ShowsBy, entries_at}
use Rattle.path_walks.specs.declared.spots.Folder.{Folder}
use Rattle.path_walks.specs.declared.spots.Occupancy.{Occupancy}
use Rattle.path_walks.specs.Sights.{IsAt}

-- a row that may move to a free path: from the directory `above`, whose body was read if it is another one, to the
-- directory `below`, which has this body, under the entry e
pub record Moving {S : Type 0} (H : BlobHoldings S) (a : S) (from : Occupancy) (to : Id) (body : List ℕ) (e : List ℕ × EntryTarget) : Type 0 where
  pub map : BlobMap
  pub stands : H.stands_for a map
  pub root : Id
  pub tree : Tree
  pub ids : Path → Id
  pub shows : ShowsBy map root tree ids
  pub now : Instant
  pub above : Path
  pub below : Path
  pub row : Row
  pub can : CanMove tree from.name.now above e.0 below row
  pub free : get tree (e.0 ∷ below) ≡ None
  pub from_id : ids above ≡ from.dir.place.blob.0
  pub to_id : ids below ≡ to
  pub left : (from.dir.place.blob.0 ≡ to → ⊥) → Lists (entries_at tree ids above) from.body.items
  pub lists : Lists (entries_at tree ids below) body
  pub attr : (with_ctime row now).attr ≡ e.1.attr
  pub blob : ids (from.name.now ∷ above) ≡ e.1.blob
  pub well_formed : IsWellFormed (moved_tree tree now (from.name.now ∷ above) (e.0 ∷ below) row)

-- a row is to move to the free name k of the directory `to`, which has this body; that of its own directory was read if it
-- is another one
pub record Heading {S : Type 0} (H : BlobHoldings S) (a : S) (now : Instant) (from : Occupancy) (to : Folder) (k body : List ℕ) : Type 0 where
  pub map : BlobMap
  pub stands : H.stands_for a map
  pub root : Id
  pub tree : Tree
  pub ids : Path → Id
  pub shows : ShowsBy map root tree ids
  pub above : Path
  pub below : Path
  pub row : Row
  pub can : CanMove tree from.name.now above k below row
  pub free : get tree (k ∷ below) ≡ None
  pub from_names : above ≡ upward from.dir.names.now
  pub to_names : below ≡ upward to.names.now
  pub from_at : IsAt tree ids above from.dir.place
  pub place_at : IsAt tree ids (from.name.now ∷ above) from.place
  pub to_at : IsAt tree ids below to.place
  pub folder : to.place.attr.kind ≡ Directory
  pub left : (from.dir.place.blob.0 ≡ to.place.blob.0 → ⊥) → Lists (entries_at tree ids above) from.body.items
  pub lists : Lists (entries_at tree ids below) body

-- a row is to move onto another one, which has nothing below it; the bodies of their directories were read
pub record Replacing {S : Type 0} (H : BlobHoldings S) (a : S) (now : Instant) (from to : Occupancy) : Type 0 where
  pub map : BlobMap
  pub stands : H.stands_for a map
  pub root : Id
  pub tree : Tree
  pub ids : Path → Id
  pub shows : ShowsBy map root tree ids
  pub above : Path
  pub below : Path
  pub row : Row
  pub can : CanMove tree from.name.now above to.name.now below row
  pub from_names : above ≡ upward from.dir.names.now
  pub to_names : below ≡ upward to.dir.names.now
  pub from_at : IsAt tree ids above from.dir.place
  pub place_at : IsAt tree ids (from.name.now ∷ above) from.place
  pub to_at : IsAt tree ids below to.dir.place
  pub old_at : IsAt tree ids (to.name.now ∷ below) to.place
  pub folder : to.dir.place.attr.kind ≡ Directory
  pub left : Lists (entries_at tree ids above) from.body.items
  pub lists : Lists (entries_at tree ids below) to.body.items

-- the blobs of the paths after this reply: others where it is done
abbrev pub ids_then : Reply → (Path → Id) → (Path → Id) → Path → Id
ids_then (Error e) old new = old
ids_then Done old new = new
ids_then (Rows rows) old new = new
ids_then (Info attr size) old new = new
ids_then (LinkTarget target) old new = new
ids_then (Content bytes) old new = new
