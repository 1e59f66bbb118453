-- What a call on a directory needs, and what it leaves.
use Rattle.std.specs.Prelude.{◌≡◌, ◌≤◌, ◌+◌, ℕ, List, ◌++◌, length, take, drop}
use Rattle.std.specs.FinMap.{get, insert, find}
use Rattle.fs_blobs.specs.store_outcome.Meanings.{Meanings}
use Rattle.std.specs.declared.option.Option.TheVariants.{None, Some}
use Rattle.fs_blobs.specs.blob_api.declared.blobs.TheConstants.{MAX_BLOB}
use Rattle.fs_blobs.specs.blob_api.BlobMap.{Id, BlobMap, BlobHoldings}
use Rattle.fs_model.specs.declared.attr.Kind.TheVariants.{Directory}
use Rattle.fs_blobs.specs.declared.header.TheConstants.{HEADER_LEN}
use Rattle.fs_blobs.specs.Headers.{blob}
use Rattle.fs_model.specs.declared.limits.TheConstants.{MAX_ENTRIES}
use Rattle.fs_model.specs.Tree.{name_cmp, entry_size}
use Rattle.dir_entries.specs.Layout.{EntryTarget, Listing, IsListing, body_of}
use Rattle.dir_entries.specs.Renaming.{renamed}
use Rattle.dir_entries.specs.declared.edit.Edit.{Edit}

-- the store stands for a map in which the id is a directory of these entries
pub record IsDirectory {S : Type 0} (H : BlobHoldings S) (a : S) (id : Id) : Type 0 where
  pub map : BlobMap
  pub stands : H.stands_for a map
  pub parent : Id
  pub listing : Listing
  pub there : get map id ≡ Some (blob Directory parent (body_of listing))
  pub entries : IsListing listing
  pub wide : length parent ≡ 16
  pub fits : HEADER_LEN + length (body_of listing) ≤ MAX_BLOB

-- the directory has these entries now, and no other blob changed
pub record HasEntries {S : Type 0} (H : BlobHoldings S) (b : S) (map : BlobMap) (id parent : Id) (listing : Listing) : Type 0 where
  pub stands : H.stands_for b (insert map id (blob Directory parent (body_of listing)))
  pub entries : IsListing listing

-- the name is absent, and its entry is within the limit
pub record HasRoom {S : Type 0} (H : BlobHoldings S) (a : S) (id : Id) (name : List ℕ) : Type 0 where
  pub is : IsDirectory H a id
  pub absent : find name_cmp name is.listing ≡ None
  pub room : length (body_of is.listing) + entry_size name ≤ MAX_ENTRIES

-- the same, and these bytes are the directory's body
pub record HasRoomIn {S : Type 0} (H : BlobHoldings S) (a : S) (id : Id) (body name : List ℕ) : Type 0 where
  pub room : HasRoom H a id name
  pub text : body ≡ body_of room.is.listing

-- the name is there
pub record HasName {S : Type 0} (H : BlobHoldings S) (a : S) (id : Id) (name : List ℕ) : Type 0 where
  pub is : IsDirectory H a id
  pub target : EntryTarget
  pub present : find name_cmp name is.listing ≡ Some target

-- the same, and these bytes are the directory's body
pub record HasNameIn {S : Type 0} (H : BlobHoldings S) (a : S) (id : Id) (body name : List ℕ) : Type 0 where
  pub named : HasName H a id name
  pub text : body ≡ body_of named.is.listing

-- a directory, and these bytes are its body
pub record HasBody {S : Type 0} (H : BlobHoldings S) (a : S) (id : Id) (body : List ℕ) : Type 0 where
  pub is : IsDirectory H a id
  pub text : body ≡ body_of is.listing

-- where the id is a directory and nothing came back that was never put, this holds of its entries
abbrev pub OfEntries : {S : Type 0} → Meanings S → BlobHoldings S → S → S → Id → (Listing → Type 0) → Type 0
OfEntries M H a b id P = (n : IsDirectory H a id) → M.sound a → M.forgeries b ≤ M.forgeries a → P n.listing

-- the name is there, that of the entry e is absent, and the entries with e in its place are within the limit
pub record HasBoth {S : Type 0} (H : BlobHoldings S) (a : S) (id : Id) (name : List ℕ) (e : List ℕ × EntryTarget) : Type 0 where
  pub is : IsDirectory H a id
  pub target : EntryTarget
  pub present : find name_cmp name is.listing ≡ Some target
  pub absent : find name_cmp e.0 is.listing ≡ None
  pub room : IsListing (renamed name e is.listing) → length (body_of (renamed name e is.listing)) ≤ MAX_ENTRIES

-- the same, and these bytes are the directory's body
pub record HasBothIn {S : Type 0} (H : BlobHoldings S) (a : S) (id : Id) (body name : List ℕ) (e : List ℕ × EntryTarget) : Type 0 where
  pub both : HasBoth H a id name e
  pub text : body ≡ body_of both.is.listing

-- the body was read from the directory, and has room for the edit
pub record Reading {S : Type 0} (H : BlobHoldings S) (a : S) (id : Id) (body : List ℕ) (edit : Edit) : Type 0 where
  pub is : IsDirectory H a id
  pub text : body ≡ body_of is.listing
  pub room : length (take edit.front body ++ (edit.bytes.items ++ drop edit.back body)) ≤ MAX_ENTRIES
