-- What stands under a name, to be taken away or changed.
use Rattle.std.proofs.Common.{◌≡◌, ℕ, false, List, ◌∷◌, length, refl, sym, ap, subst, arith}
use Rattle.std.specs.FinMap.{get, remove, len}
use Rattle.std.specs.declared.option.Option.TheVariants.{None}
use Rattle.std.proofs.lemmas.Bool.{ltb-false}
use Rattle.path_walks.specs.blob_api.BlobMap.{BlobHoldings}
use Rattle.fs_model.specs.declared.attr.Kind.TheVariants.{Directory}
use Rattle.fs_model.specs.declared.reply.Reply.TheVariants.{Done}
use Rattle.fs_model.specs.Instant.{Instant}
use Rattle.fs_model.specs.Tree.{Path, Tree, upward, is_directory, children, IsWellFormed}
use Rattle.fs_model.specs.Step.{done, touched, has_child}
use Rattle.fs_model.proofs.TreeLemmas.{remove_apart}
use Rattle.fs_model.proofs.SizeLemmas.{no_children}
use Rattle.fs_model.proofs.PutRows.{remove_bare, below_file}
use Rattle.path_walks.specs.declared.spots.Occupancy.{Occupancy}
use Rattle.path_walks.specs.Showing.{IsShownBy, Performed}
use Rattle.path_walks.specs.Sights.{Finding, IsAt}
use Rattle.path_walks.proofs.Told.{shown_done}
use Rattle.path_walks.specs.Touching.{Touching}
use Rattle.path_walks.proofs.Places.{still_at}
use Rattle.path_rows.specs.Changes.{Dropping, DirectoryAt}
use Rattle.path_walks.proofs.Found.{q, is_folder_by}

-- without children nothing stands below
pub childless : (t : Tree) (p : Path) → has_child t p ≡ false → (m : List ℕ) → get t (m ∷ p) ≡ None
childless t p none m = no_children t p (let zero = ltb-false 0 (len (children t p)) none in omega arith) m

module _ {S : Type 0} {H : BlobHoldings S} {a : S} {at : Occupancy} (w : Finding H a at) where
  abbrev pub folder : at.place.attr.kind ≡ Directory → DirectoryAt H a at.place
  folder kind = record { standing = record { map = w.map; stands = w.stands; root = w.root; tree = w.tree; ids = w.ids; shows = w.shows; path = q w; at = w.is.here }; folder = kind }

  pub without : ((m : List ℕ) → get w.tree (m ∷ q w) ≡ None) → IsWellFormed (remove w.tree (q w))
  without bare = remove_bare w.tree at.name.now w.path w.shows.well_formed bare

  -- it may go where nothing stands below it
  abbrev pub dropping : (b : S) → H.stands_for b w.map → ((m : List ℕ) → get w.tree (m ∷ q w) ≡ None) → Dropping H b at.dir.place.blob.0 at.body.items at.name.now at.place.blob.0
  dropping b stands bare = record {
    map = w.map;
    stands = stands;
    root = w.root;
    tree = w.tree;
    ids = w.ids;
    shows = w.shows;
    path = w.path;
    row = w.is.here.row;
    there = w.is.here.there;
    dir_id = w.is.above.blob;
    blob_id = w.is.here.blob;
    lists = w.lists;
    well_formed = without bare;
  }

  pub bare_file : is_directory at.place.attr.kind ≡ false → (m : List ℕ) → get w.tree (m ∷ q w) ≡ None
  bare_file plain = below_file w.tree (q w) w.is.here.row w.shows.well_formed.rooted w.is.here.there (is_folder_by w false plain)

  -- ---- and its directory is touched

  abbrev pub rest : Tree
  rest = remove w.tree (q w)

  dir_stays : (b : S) → IsShownBy H b w.root rest w.ids → IsAt rest w.ids w.path at.dir.place
  dir_stays b h = still_at w.tree rest w.ids w.ids w.path at.dir.place h.shows.well_formed.rooted
      (remove_apart w.tree (q w) w.path (λ e. omega (arith, ap length e))) refl (λ k d is. refl) w.is.above

  pub dir_at : (b : S) → IsShownBy H b w.root rest w.ids → IsAt rest w.ids (upward at.dir.names.now) at.dir.place
  dir_at b h = subst (λ z. IsAt rest w.ids z at.dir.place) w.names (dir_stays b h)

  abbrev pub touching : (b : S) → IsShownBy H b w.root rest w.ids → Touching H b at.dir
  touching b h = record {
    map = h.map;
    stands = h.stands;
    root = w.root;
    tree = rest;
    ids = w.ids;
    shows = h.shows;
    at = dir_at b h;
  }

  pub removed : (now : Instant) (b : S) → IsShownBy H b w.root (touched rest now (upward at.dir.names.now)) w.ids → Performed H b w.root (done (touched rest now w.path)) Done
  removed now b h = shown_done (touched rest now w.path) w.ids (subst (λ z. IsShownBy H b w.root (touched rest now z) w.ids) (sym w.names) h)
