-- A row that moves to a free path, over blobs.
use Rattle.std.proofs.Common.{◌≡◌, ℕ, ◌≤◌, ◌+◌, List, [], ◌∷◌, length, sym, ◌∙◌, ap, subst, arith}
use Rattle.std.specs.Prelude.{is_some, cond}
use Rattle.std.specs.FinMap.{get, find, insert, put}
use Rattle.std.specs.declared.option.Option.TheVariants.{None, Some}
use Rattle.path_walks.specs.blob_api.declared.blobs.TheConstants.{MAX_BLOB}
use Rattle.path_walks.specs.blob_api.BlobMap.{Id, BlobMap, BlobHoldings}
use Rattle.fs_model.specs.declared.limits.TheConstants.{MAX_ENTRIES}
use Rattle.fs_model.specs.declared.attr.Kind.TheVariants.{Directory}
use Rattle.fs_model.specs.Tree.{Path, Tree, name_cmp, entry_size}
use Rattle.fs_model.specs.Step.{with_ctime, moved_tree}
use Rattle.fs_model.proofs.TreeLemmas.{same_name}
use Rattle.fs_model.proofs.MovedTree.{parent_off_p}
use Rattle.fs_model.proofs.SizeLemmas.{inserted_again}
use Rattle.path_walks.specs.fs_blobs.declared.header.TheConstants.{HEADER_LEN}
use Rattle.path_walks.specs.fs_blobs.Headers.{blob}
use Rattle.path_walks.specs.fs_blobs.Blobs.{IsBlob}
use Rattle.path_walks.specs.dir_entries.Layout.{EntryTarget, body_of}
use Rattle.path_walks.specs.dir_entries.Places.{without}
use Rattle.path_walks.specs.dir_blob.Directories.{HasName, HasNameIn, HasRoom, HasRoomIn, HasEntries}
use Rattle.path_walks.specs.Nodes.{Look, Lists, IsBlobOf, IsForest}
use Rattle.path_walks.specs.Shows.{above, target_for, entries_at}
use Rattle.path_walks.proofs.Shown.{IsFolderRow, folder_row, entry_apart, same_last}
use Rattle.path_walks.proofs.Moved.{looks_without, looks_with, from_without, onto_with, ids_moved, moved_shows, look_off, qd_off_q, below_p, below_q}
use Rattle.path_walks.specs.Showing.{IsShownBy}
use Rattle.path_walks.specs.Midst.{moved_ids}
use Rattle.path_walks.specs.declared.spots.Occupancy.{Occupancy}
use Rattle.path_rows.specs.Moves.{Moving}
use Rattle.path_walks.proofs.Nodes.{lists_at, lists_of, same_lists, directory_at, above_wide, lists_with, entries_with, content_fits, read_is}
use Rattle.path_walks.proofs.Sizes.{sizes_shown, body_size}
use Rattle.path_rows.proofs.Edits.{lists_without, sorted_put, size_put, tails}

-- the blobs are those of the tree, but for entries
pub record IsOnTheWay {S : Type 0} (H : BlobHoldings S) (b : S) (t : Tree) (ids : Path → Id) (looks : Path → Look) : Type 0 where
  pub map : BlobMap
  pub stands : H.stands_for b map
  pub forest : IsForest map t ids (above ids) looks

module _ {S : Type 0} {H : BlobHoldings S} {a : S} {from : Occupancy} {to : Id} {body : List ℕ} {e : List ℕ × EntryTarget} (w : Moving H a from to body e) where
  abbrev n : List ℕ
  n = from.name.now

  abbrev pub home : Id
  home = from.dir.place.blob.0

  abbrev pub p : Path
  p = n ∷ w.above

  abbrev pub next : Tree
  next = moved_tree w.tree w.now p (e.0 ∷ w.below) w.row

  abbrev pub target : EntryTarget
  target = record { attr = (with_ctime w.row w.now).attr; blob = w.ids p }

  pub target_is : target ≡ e.1
  target_is = λ i. record { attr = w.attr i; blob = w.blob i }

  abbrev pub looks1 : Path → Look
  looks1 = looks_without w.map w.root w.tree w.ids w.shows w.now n w.above e.0 w.below w.row w.can w.free

  abbrev pub looks2 : Path → Look
  looks2 = looks_with w.map w.root w.tree w.ids w.shows w.now n w.above e.0 w.below w.row w.can w.free

  pub row_from : IsFolderRow w.tree w.above
  row_from = folder_row w.tree w.above (w.shows.well_formed.rooted.parents n w.above (ap is_some w.can.here))

  pub row_to : IsFolderRow w.tree w.below
  row_to = folder_row w.tree w.below w.can.folder

  -- ---- the entry goes

  abbrev pub has_name : HasName H a home n
  has_name = record {
    is = directory_at w.shows w.stands w.above row_from.row row_from.there row_from.kind home w.from_id;
    target = record { attr = w.row.attr; blob = w.ids p };
    present = (lists_at w.shows w.above row_from.row row_from.there row_from.kind).entries n ∙ ap (target_for (w.ids p)) w.can.here;
  }

  abbrev pub has_name_in : (home ≡ to → ⊥) → (read : List ℕ) → read ≡ from.body.items → HasNameIn H a home read n
  has_name_in apart read same = record { named = has_name; text = same ∙ read_is w.shows w.above row_from.row row_from.there row_from.kind from.body.items (w.left apart) }

  pub gone : (b : S) → HasEntries H b w.map home (above w.ids w.above) (without n has_name.is.listing) → IsOnTheWay H b w.tree w.ids looks1
  gone b h = record {
    map = insert w.map (w.ids w.above) (blob Directory (above w.ids w.above) (body_of (without n has_name.is.listing)));
    stands = subst (λ z. H.stands_for b (insert w.map z (blob Directory (above w.ids w.above) (body_of (without n has_name.is.listing))))) (sym w.from_id) h.stands;
    forest = from_without w.map w.root w.tree w.ids w.shows w.now n w.above e.0 w.below w.row w.can w.free (body_of (without n has_name.is.listing))
        (lists_without (entries_at w.tree w.ids w.above) has_name.is.listing n (lists_at w.shows w.above row_from.row row_from.there row_from.kind).entries h.entries);
  }

  -- ---- the entry comes

  module _ {b : S} (way : IsOnTheWay H b w.tree w.ids looks1) where
    pub node_to : IsBlobOf way.map (w.ids w.below) row_to.row.attr.kind (above w.ids w.below) row_to.row.bytes (looks1 w.below)
    node_to = way.forest.nodes w.below row_to.row row_to.there

    pub lists_to : Lists (looks1 w.below) node_to.body
    lists_to = lists_of row_to.row.attr.kind row_to.row.bytes (looks1 w.below) node_to.body row_to.kind node_to.content

    pub none_to : find name_cmp e.0 lists_to.listing ≡ None
    none_to = lists_to.entries e.0 ∙ (entry_apart (entries_at w.tree w.ids) p None w.below e.0 (λ z. w.can.differ (sym z)) ∙ ap (target_for (w.ids (e.0 ∷ w.below))) w.free)

    pub size_to : length (body_of lists_to.listing) + entry_size e.0 ≤ MAX_ENTRIES
    size_to =
        let found = λ (k : List ℕ). entries_with lists_to.listing e.0 target k
        ∙ (ap (cond (same_name k e.0) (Some target)) (lists_to.entries k)
        ∙ (ap (λ z. cond z (Some target) (looks1 w.below k)) (sym (same_last k e.0 w.below))
        ∙ look_off w.map w.root w.tree w.ids w.shows w.now n w.above e.0 w.below w.row w.can w.free w.below
        (qd_off_q w.map w.root w.tree w.ids w.shows w.now n w.above e.0 w.below w.row w.can w.free)
        (parent_off_p w.tree w.now n w.above e.0 w.below w.row w.can) k)) in
        let size = sizes_shown next (ids_moved w.map w.root w.tree w.ids w.shows w.now n w.above e.0 w.below w.row w.can w.free) w.below (put name_cmp e.0 target lists_to.listing) (sorted_put e.0 target lists_to.listing lists_to.is.entries.order) found in
        omega (arith, body_size lists_to.listing lists_to.is.entries.entries, size_put e.0 target lists_to.listing none_to, size, w.well_formed.directories w.below)

    pub there_to : get way.map to ≡ Some (blob Directory (above w.ids w.below) (body_of lists_to.listing))
    there_to = ap (get way.map) (sym w.to_id) ∙ (node_to.there ∙ (ap (λ k. Some (blob k (above w.ids w.below) node_to.body)) row_to.kind ∙ ap (λ z. Some (blob Directory (above w.ids w.below) z)) lists_to.is.text))

    pub fits_to : HEADER_LEN + length (body_of lists_to.listing) ≤ MAX_BLOB
    fits_to = omega (arith, size_to)

    -- the directory has room for the entry
    abbrev pub has_room : HasRoom H b to e.0
    has_room = record {
      is = record {
        map = way.map;
        stands = way.stands;
        parent = above w.ids w.below;
        listing = lists_to.listing;
        there = there_to;
        entries = lists_to.is.entries;
        wide = above_wide w.shows w.below row_to.row row_to.there;
        fits = fits_to;
      };
      absent = none_to;
      room = size_to;
    }

    -- the body that was read is still that of the directory, which isn't the one that the entry left
    pub body_to : (home ≡ to → ⊥) → body ≡ body_of lists_to.listing
    body_to apart =
        let read : Lists (looks1 w.below) body =
        record { listing = w.lists.listing; is = w.lists.is; entries = λ k. w.lists.entries k ∙ sym (entry_apart (entries_at w.tree w.ids) p None w.below k (λ z. apart (sym w.from_id ∙ (ap w.ids (sym (tails k n w.below w.above z)) ∙ w.to_id)))) } in
        w.lists.is.text ∙ ap body_of (same_lists (looks1 w.below) body node_to.body read lists_to)

    abbrev pub has_room_in : (home ≡ to → ⊥) → (read : List ℕ) → read ≡ body → HasRoomIn H b to read e.0
    has_room_in apart read same = record { room = has_room; text = same ∙ body_to apart }

    pub came : (c : S) → HasEntries H c way.map to (above w.ids w.below) (put name_cmp e.0 e.1 lists_to.listing) → IsOnTheWay H c w.tree w.ids looks2
    came c h =
        let after = subst (λ z. HasEntries H c way.map to (above w.ids w.below) (put name_cmp e.0 z lists_to.listing)) (sym target_is) h in
        record {
          map = insert way.map (w.ids w.below) (blob Directory (above w.ids w.below) (body_of (put name_cmp e.0 target lists_to.listing)));
          stands = subst (λ z. H.stands_for c (insert way.map z (blob Directory (above w.ids w.below) (body_of (put name_cmp e.0 target lists_to.listing))))) (sym w.to_id) after.stands;
          forest = onto_with w.map w.root w.tree w.ids w.shows w.now n w.above e.0 w.below w.row w.can w.free way.map way.forest (body_of (put name_cmp e.0 target lists_to.listing))
              (lists_with (looks1 w.below) lists_to.listing e.0 target lists_to.entries after.entries);
        }

  -- ---- the blob gets its new parent

  module _ {c : S} (way : IsOnTheWay H c w.tree w.ids looks2) where
    pub node_moved : IsBlobOf way.map (w.ids p) w.row.attr.kind (above w.ids p) w.row.bytes (looks2 p)
    node_moved = way.forest.nodes p w.row w.can.here

    look_moved : (k : List ℕ) → looks2 p k ≡ entries_at w.tree w.ids p k
    look_moved k =
        entry_apart looks1 (e.0 ∷ w.below) (Some target) p k (below_q w.map w.root w.tree w.ids w.shows w.now n w.above e.0 w.below w.row w.can w.free k [])
        ∙ entry_apart (entries_at w.tree w.ids) p None p k (below_p w.map w.root w.tree w.ids w.shows w.now n w.above e.0 w.below w.row w.can w.free k [])

    pub fits_moved : HEADER_LEN + length node_moved.body ≤ MAX_BLOB
    fits_moved = content_fits w.tree w.ids p w.row.attr.kind w.row.bytes (looks2 p) node_moved.body (w.shows.well_formed.directories p) (w.shows.well_formed.rows p w.row w.can.here).content look_moved node_moved.content

    pub there_moved : get way.map e.1.blob ≡ Some (blob w.row.attr.kind (above w.ids p) node_moved.body)
    there_moved = ap (get way.map) (sym w.blob) ∙ node_moved.there

    abbrev pub blob_moved : IsBlob H c e.1.blob
    blob_moved = record {
      map = way.map;
      stands = way.stands;
      kind = w.row.attr.kind;
      parent = above w.ids p;
      body = node_moved.body;
      there = there_moved;
      wide = above_wide w.shows p w.row w.can.here;
      fits = fits_moved;
    }

    pub relocated : (d : S) → H.stands_for d (insert way.map e.1.blob (blob w.row.attr.kind to node_moved.body)) → IsShownBy H d w.root next (moved_ids w.ids p (e.0 ∷ w.below))
    relocated d stands = record {
      map = insert way.map (w.ids p) (blob w.row.attr.kind (w.ids w.below) node_moved.body);
      stands = subst (λ z. H.stands_for d (insert way.map z (blob w.row.attr.kind (w.ids w.below) node_moved.body))) (sym w.blob)
          (subst (λ z. H.stands_for d (insert way.map e.1.blob (blob w.row.attr.kind z node_moved.body))) (sym w.to_id) stands);
      shows = moved_shows w.map w.root w.tree w.ids w.shows w.now n w.above e.0 w.below w.row w.can w.free way.map way.forest node_moved.body node_moved.content w.well_formed;
    }

    -- in the directory where it was, the blob has its parent already
    pub rested : home ≡ to → IsShownBy H c w.root next (moved_ids w.ids p (e.0 ∷ w.below))
    rested same =
        let there : get way.map e.1.blob ≡ Some (blob w.row.attr.kind to node_moved.body) = there_moved ∙ ap (λ z. Some (blob w.row.attr.kind z node_moved.body)) (w.from_id ∙ same) in
        relocated c (subst (H.stands_for c) (sym (inserted_again way.map e.1.blob (blob w.row.attr.kind to node_moved.body) there)) way.stands)
