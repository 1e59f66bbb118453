-- What is wrong with blocks, in what was given of them.
use Rattle.std.specs.Prelude.{◌≡◌, ◌≤◌, ℕ, true, false, List, length, IsTrue, Some, is_some}
use Rattle.std.specs.FinMap.{get}
use Rattle.path_walks.specs.blob_api.BlobMap.{BlobMap}
use Rattle.check_walk.specs.declared.flaw.Flaw.{Flaw}
use Rattle.check_walk.specs.declared.flaw.Flaw.TheVariants.{BadNode, BadBlob, Parent, Twice, NotLive, Unowned}
use Rattle.check_walk.specs.Given.{Given, AgreesWith}
use Rattle.check_walk.specs.Needs.{NodeNeed, Serves}
use Rattle.check_walk.specs.data_tree.Stored.{BlobTree, StoresBlobs}
use Rattle.path_walks.specs.dir_entries.Layout.{Listing, IsBody}
use Rattle.path_walks.specs.Shows.{ShowsTree}
use Rattle.path_walks.specs.fs_blobs.Headers.{blob}
use Rattle.fs_model.specs.declared.attr.Kind.{Kind}
use Rattle.fs_model.specs.declared.attr.Kind.TheVariants.{Directory, File, Link}
use Rattle.fs_model.specs.declared.limits.TheConstants.{MAX_ENTRIES, MAX_FILE}
use Rattle.fs_model.specs.Fitting.{is_target}
use Rattle.fs_model.specs.Tree.{Path, Tree}
use Rattle.check_walk.specs.store_api.Content.{Id, Content}
use Rattle.check_walk.specs.store_api.Holdings.{has_id}
use Rattle.check_rules.specs.Reached.{IsReached, Place, NeedsNode}

-- entries, a file's bytes or a link's target, within their limits
abbrev pub FitsBody : Kind → List ℕ → Type 0
FitsBody Directory body = ((listing : Listing) × IsBody body listing) × (length body ≤ MAX_ENTRIES)
FitsBody File body = length body ≤ MAX_FILE
FitsBody Link body = IsTrue (is_target body)

-- ---- one record for each kind of flaw

-- a node is needed, and its block holds something else
pub record HasBadNode (payload : ℕ) (root : Id) (G : Content) (id : Id) : Type 0 where
  pub place : Place
  pub need : NodeNeed
  pub needs : NeedsNode payload G root place id need
  pub text : List ℕ
  pub there : G id ≡ Some text
  pub unfit : Serves payload need text → ⊥

-- an entry's blob isn't of its kind, or has no fitting body
pub record HasBadBlob (payload : ℕ) (root : Id) (G : Content) (id : Id) : Type 0 where
  pub path : Path
  pub kind : Kind
  pub parent : Id
  pub reached : IsReached payload G root path kind id parent
  pub bytes : List ℕ
  pub ids : List Id
  pub tree : BlobTree payload G id bytes ids
  pub unfit : (other : Id) (body : List ℕ) → length other ≡ 16 → bytes ≡ blob kind other body → FitsBody kind body → ⊥

-- an entry's blob, of its kind, names another directory than the one that the entry is in, whatever its body holds
pub record HasParent (payload : ℕ) (root : Id) (G : Content) (id : Id) : Type 0 where
  pub path : Path
  pub kind : Kind
  pub parent : Id
  pub reached : IsReached payload G root path kind id parent
  pub other : Id
  pub wide : length other ≡ 16
  pub body : List ℕ
  pub ids : List Id
  pub tree : BlobTree payload G id (blob kind other body) ids
  pub differs : other ≡ parent → ⊥

-- two places need one block
pub record HasTwice (payload : ℕ) (root : Id) (G : Content) (id : Id) : Type 0 where
  pub one : Place
  pub other : Place
  pub apart : one ≡ other → ⊥
  pub need : NodeNeed
  pub wanted : NodeNeed
  pub needs : NeedsNode payload G root one id need
  pub wants : NeedsNode payload G root other id wanted

-- a place needs a block that doesn't live
pub record HasNotLive (payload : ℕ) (root : Id) (live : List Id) (G : Content) (id : Id) : Type 0 where
  pub place : Place
  pub need : NodeNeed
  pub needs : NeedsNode payload G root place id need
  pub dead : has_id live id ≡ false

-- a block lives that no place needs, and all that are needed were given
pub record HasUnowned (payload : ℕ) (root : Id) (live : List Id) (G : Content) (id : Id) : Type 0 where
  pub lives : has_id live id ≡ true
  pub unneeded : (place : Place) (need : NodeNeed) → NeedsNode payload G root place id need → ⊥
  pub whole : (place : Place) (x : Id) (need : NodeNeed) → NeedsNode payload G root place x need → is_some (G x) ≡ true

-- what was given has this flaw, from this root on and with these live blocks
abbrev pub HasFlaw : ℕ → Id → List Id → Content → Flaw → Type 0
HasFlaw payload root live G (BadNode id) = HasBadNode payload root G id.0
HasFlaw payload root live G (BadBlob id) = HasBadBlob payload root G id.0
HasFlaw payload root live G (Parent id) = HasParent payload root G id.0
HasFlaw payload root live G (Twice id) = HasTwice payload root G id.0
HasFlaw payload root live G (NotLive id) = HasNotLive payload root live G id.0
HasFlaw payload root live G (Unowned id) = HasUnowned payload root live G id.0

-- ---- what every flaw says

-- no content that has what was given, and has exactly the live ids, stores blobs that show a tree from this root on
abbrev pub Refutes : ℕ → Id → List Id → Given → Type 0
Refutes payload root live given =
    (B : Content) → AgreesWith B given → ((id : Id) → is_some (B id) ≡ has_id live id) → (blobs : BlobMap) → StoresBlobs payload B (get blobs) → (tree : Tree) → ShowsTree blobs root tree → ⊥
