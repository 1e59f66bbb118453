-- What listing needs.
use Rattle.std.specs.Prelude.{◌≡◌, ℕ, List}
use Rattle.path_walks.specs.blob_api.BlobMap.{Id, BlobHoldings}
use Rattle.fs_model.specs.declared.attr.Kind.TheVariants.{Directory}
use Rattle.fs_model.specs.declared.reply.ListRow.{ListRow}
use Rattle.fs_model.specs.declared.reply.Reply.{Reply}
use Rattle.fs_model.specs.declared.reply.Reply.TheVariants.{Done, Rows, Info, Target as LinkTarget, Content, Error}
use Rattle.path_walks.specs.dir_entries.Layout.{EntryTarget}
use Rattle.path_walks.specs.declared.spots.Place.{Place}
use Rattle.path_walks.specs.Sights.{Standing}

-- what a listing shows of an entry
abbrev pub shown_row : List ℕ × EntryTarget → ListRow
shown_row e = record { kind = e.1.attr.kind; name = e.0 }

-- a listing
abbrev pub IsListReply : Reply → Type 0
IsListReply (Rows rows) = Unit {0}
IsListReply Done = ⊥
IsListReply (Info attr size) = ⊥
IsListReply (LinkTarget target) = ⊥
IsListReply (Content bytes) = ⊥
IsListReply (Error e) = ⊥

-- a directory of the shown tree
pub record InFolder {S : Type 0} (H : BlobHoldings S) (a : S) (dir : Id) : Type 0 where
  pub place : Place
  pub standing : Standing H a place
  pub folder : place.attr.kind ≡ Directory
  pub id : place.blob.0 ≡ dir
