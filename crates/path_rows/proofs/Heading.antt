-- A move to a free path: too large, or done.
use Rattle.std.proofs.Common.{◌≡◌, ℕ, ◌≤◌, ◌<◌, ◌+◌, Bool, true, false, List, [], ◌∷◌, ◌++◌, length, sym, ◌∙◌, ap, subst, arith, inl, inr, cond}
use Rattle.std.specs.Prelude.{is_some, nat_lt}
use Rattle.std.specs.FinMap.{get}
use Rattle.std.specs.declared.option.Option.TheVariants.{None, Some}
use Rattle.std.proofs.lemmas.Bool.{lt-ltb, le-ltb}
use Rattle.std.proofs.lemmas.Option.{same_Some}
use Rattle.path_walks.specs.blob_api.BlobMap.{Id, BlobHoldings}
use Rattle.fs_model.specs.declared.limits.TheConstants.{MAX_ENTRIES}
use Rattle.fs_model.specs.declared.attr.Attr.{Attr}
use Rattle.fs_model.specs.declared.error.FsError.TheVariants.{TooLarge}
use Rattle.fs_model.specs.declared.reply.Reply.TheVariants.{Done, Error}
use Rattle.fs_model.specs.Instant.{Instant}
use Rattle.fs_model.specs.Names.{IsName}
use Rattle.fs_model.specs.Tree.{Path, Row, Tree, upward, entry_size, directory_size, IsWellFormed}
use Rattle.fs_model.specs.Step.{Stepped, refused, done, with_ctime, touched, moved_tree, moved_unless_large}
use Rattle.fs_model.proofs.TreeLemmas.{same_name, name_same, name_apart, path_split}
use Rattle.fs_model.proofs.MovedTree.{strip_none, moved_well_formed}
use Rattle.fs_model.proofs.MovedRows.{IsCarried, moved_rows}
use Rattle.fs_model.proofs.MovedSize.{size_within_free, size_across_free}
use Rattle.path_walks.specs.Shows.{ShowsBy}
use Rattle.path_walks.specs.declared.spots.Folder.{Folder}
use Rattle.path_walks.specs.declared.spots.Occupancy.{Occupancy}
use Rattle.path_walks.specs.declared.spots.Place.{Place}
use Rattle.path_walks.specs.Sights.{IsAt}
use Rattle.path_walks.specs.Touching.{TouchingBoth}
use Rattle.path_walks.proofs.Places.{still_at}
use Rattle.path_walks.proofs.Shown.{folder_row}
use Rattle.path_walks.specs.Showing.{IsShownBy, PerformedBy}
use Rattle.path_walks.specs.Midst.{moved_ids}
use Rattle.fs_model.specs.Move.{CanMove, strip, moved_by}
use Rattle.path_rows.specs.Moves.{Moving, Heading}
use Rattle.path_walks.proofs.Steps.{directory_seen, folder_is}
use Rattle.path_walks.proofs.Nodes.{size_at, read_is}
use Rattle.path_walks.specs.dir_blob.Directories.{IsDirectory}
use Rattle.path_walks.specs.dir_entries.Layout.{EntryTarget, body_of}

module _ {S : Type 0} {H : BlobHoldings S} {a : S} {now : Instant} {from : Occupancy} {to : Folder} {k body : List ℕ} (w : Heading H a now from to k body) where
  abbrev n : List ℕ
  n = from.name.now

  abbrev pub next : Tree
  next = moved_tree w.tree now (n ∷ w.above) (k ∷ w.below) w.row

  abbrev pub stepped : Stepped
  stepped = moved_unless_large w.tree now (n ∷ w.above) (k ∷ w.below) next

  -- the next tree with both directories touched
  abbrev pub last : Tree
  last = touched (touched next now w.above) now w.below

  abbrev pub directory : IsDirectory H a to.place.blob.0
  directory = directory_seen w.shows w.stands w.below to.place w.to_at w.folder

  pub size_is : length (body_of directory.listing) ≡ directory_size w.tree w.below
  size_is = size_at w.shows w.below w.to_at.row w.to_at.there (folder_is w.tree w.ids w.below to.place w.to_at w.folder)

  pub body_size : length body ≡ directory_size w.tree w.below
  body_size =
      ap length (read_is w.shows w.below w.to_at.row w.to_at.there (folder_is w.tree w.ids w.below to.place w.to_at w.folder) body w.lists) ∙ size_is

  -- what the entry leaves behind in the same directory
  pub size_next : directory_size next w.below + cond (same_name from.dir.place.blob.0 to.place.blob.0) (entry_size n) 0 ≡ directory_size w.tree w.below + entry_size k
  size_next = elim (path_split w.above w.below) [
    | inl e ↦
        ap (λ b. directory_size next w.below + cond b (entry_size n) 0) (ap (same_name from.dir.place.blob.0) (sym w.to_at.blob ∙ (ap w.ids (sym e) ∙ w.from_at.blob)) ∙ name_same from.dir.place.blob.0)
        ∙ size_within_free w.tree now n w.above k w.below w.row w.can e w.free
    | inr d ↦
        ap (λ b. directory_size next w.below + cond b (entry_size n) 0)
        (name_apart from.dir.place.blob.0 to.place.blob.0 (λ e. d (w.shows.forest.distinct w.above w.below (ap is_some w.from_at.there) (ap is_some w.to_at.there) (w.from_at.blob ∙ (e ∙ sym w.to_at.blob)))))
        ∙ nothing (directory_size next w.below) ∙ size_across_free w.tree now n w.above k w.below w.row w.can d w.free
  ]
    where
      nothing : (x : ℕ) → x + 0 ≡ x
      nothing x = omega arith

  stepped_by : (b : Bool) → nat_lt MAX_ENTRIES (directory_size next w.below) ≡ b → stepped ≡ cond b (refused w.tree TooLarge) (done last)
  stepped_by b e = ap (λ z. cond z (refused w.tree TooLarge) (done last)) e

  pub too_large : (b : S) → H.stands_for b w.map → MAX_ENTRIES < directory_size next w.below → PerformedBy H b w.root stepped (Error TooLarge) w.ids
  too_large b stands over =
      let is = stepped_by true (lt-ltb _ _ over) in
      record { told = sym (ap (λ (s : Stepped). s.reply) is); shown = record { map = w.map; stands = stands; shows = subst (λ (s : Stepped). ShowsBy w.map w.root s.tree w.ids) (sym is) w.shows } }

  pub attr_is : (t : EntryTarget) → t.attr ≡ record from.place.attr { ctime = now } → (with_ctime w.row now).attr ≡ t.attr
  attr_is t attr = ap (λ (x : Attr). record x { ctime = now }) (same_row ∙ w.place_at.attr) ∙ sym attr
    where
      same_row : w.row.attr ≡ w.place_at.row.attr
      same_row = let both : Some w.row ≡ Some w.place_at.row = sym w.can.here ∙ w.place_at.there in ap (λ (r : Row). r.attr) (same_Some _ _ both)

  pub well_formed_next : IsName k → directory_size next w.below ≤ MAX_ENTRIES → IsWellFormed next
  well_formed_next named small = moved_well_formed w.tree now n w.above k w.below w.row w.can w.shows.well_formed named small

  pub can_as : (z : List ℕ) → k ≡ z → CanMove w.tree n w.above z w.below w.row
  can_as z e = subst (λ x. CanMove w.tree n w.above x w.below w.row) e w.can

  pub free_as : (z : List ℕ) → k ≡ z → get w.tree (z ∷ w.below) ≡ None
  free_as z e = subst (λ x. get w.tree (x ∷ w.below) ≡ None) e w.free

  pub formed_as : (z : List ℕ) → k ≡ z → IsName k → directory_size next w.below ≤ MAX_ENTRIES → IsWellFormed (moved_tree w.tree now (n ∷ w.above) (z ∷ w.below) w.row)
  formed_as z e named small = subst (λ x. IsWellFormed (moved_tree w.tree now (n ∷ w.above) (x ∷ w.below) w.row)) e (well_formed_next named small)

  -- the move can be made, under an equal name
  abbrev pub moving : (b : S) → H.stands_for b w.map → IsName k → directory_size next w.below ≤ MAX_ENTRIES → (z : List ℕ) → k ≡ z → (t : EntryTarget) → t.attr ≡ record from.place.attr { ctime = now } → t.blob ≡ from.place.blob.0 → Moving H b from to.place.blob.0 body (z, t)
  moving b stands named small z zk t attr blob = record {
    map = w.map;
    stands = stands;
    root = w.root;
    tree = w.tree;
    ids = w.ids;
    shows = w.shows;
    now = now;
    above = w.above;
    below = w.below;
    row = w.row;
    can = can_as z zk;
    free = free_as z zk;
    from_id = w.from_at.blob;
    to_id = w.to_at.blob;
    left = w.left;
    lists = w.lists;
    attr = attr_is t attr;
    blob = w.place_at.blob ∙ sym blob;
    well_formed = formed_as z zk named small;
  }

  abbrev pub ids_next : Path → Id
  ids_next = moved_ids w.ids (n ∷ w.above) (k ∷ w.below)

  pub shown_as : (b : S) (z : List ℕ) → k ≡ z → IsShownBy H b w.root (moved_tree w.tree now (n ∷ w.above) (z ∷ w.below) w.row) (moved_ids w.ids (n ∷ w.above) (z ∷ w.below)) → IsShownBy H b w.root next ids_next
  shown_as b z e h = subst (λ x. IsShownBy H b w.root (moved_tree w.tree now (n ∷ w.above) (x ∷ w.below) w.row) (moved_ids w.ids (n ∷ w.above) (x ∷ w.below))) (sym e) h

  -- ---- and then the directories are touched

  module _ (b : S) (h : IsShownBy H b w.root next ids_next) where
    carried : IsCarried w.tree next now (n ∷ w.above) (k ∷ w.below)
    carried = moved_rows w.tree now n w.above k w.below w.row w.can

    -- what stands off the free path has the blob that it had
    ids_still : (r : Path) → strip (k ∷ w.below) r ≡ None → ids_next r ≡ w.ids r
    ids_still r none = ap (λ o. w.ids (moved_by o (n ∷ w.above) r)) none

    -- of two directories neither lies below the free path
    off_free : (r : Path) → is_some (get w.tree r) ≡ true → strip (k ∷ w.below) r ≡ None
    off_free r there = strip_none (k ∷ w.below) r (λ s e. below s (ap (λ z. is_some (get w.tree z)) (sym e) ∙ there))
      where
        below : (s : Path) → is_some (get w.tree (s ++ (k ∷ w.below))) ≡ true → ⊥
        below [] is = let bad : false ≡ true = ap is_some (sym w.free) ∙ is in cc
        below (m ∷ s) is = let bad : false ≡ true = ap is_some (sym (w.can.bare s m)) ∙ is in cc

    above_there : (r : Path) → is_some (get w.tree r) ≡ true → (m : List ℕ) (d : Path) → r ≡ m ∷ d → is_some (get w.tree d) ≡ true
    above_there r there m d e = ap is_some (folder_row w.tree d (w.shows.well_formed.rooted.parents m d (ap (λ z. is_some (get w.tree z)) (sym e) ∙ there))).there

    dir_stays : (r : Path) (x : Place) → get next r ≡ get w.tree r → IsAt w.tree w.ids r x → IsAt next ids_next r x
    dir_stays r x same at =
        let there = ap is_some at.there in
        still_at w.tree next w.ids ids_next r x h.shows.well_formed.rooted same (ids_still r (off_free r there)) (λ m d e. ids_still d (off_free d (above_there r there m d e))) at

    pub from_still : IsAt next ids_next (upward from.dir.names.now) from.dir.place
    from_still = subst (λ z. IsAt next ids_next z from.dir.place) w.from_names (dir_stays w.above from.dir.place carried.from_stays w.from_at)

    pub to_still : IsAt next ids_next (upward to.names.now) to.place
    to_still = subst (λ z. IsAt next ids_next z to.place) w.to_names (dir_stays w.below to.place carried.to_stays w.to_at)

    abbrev pub touching : TouchingBoth H b from.dir to
    touching = record {
      map = h.map;
      stands = h.stands;
      root = w.root;
      tree = next;
      ids = ids_next;
      shows = h.shows;
      from_at = from_still;
      to_at = to_still;
    }

  pub moved_done : (b : S) → directory_size next w.below ≤ MAX_ENTRIES → IsShownBy H b w.root (touched (touched next now (upward from.dir.names.now)) now (upward to.names.now)) ids_next → PerformedBy H b w.root stepped Done ids_next
  moved_done b small h =
      let is = stepped_by false (le-ltb MAX_ENTRIES (directory_size next w.below) small) in
      let shown : IsShownBy H b w.root last ids_next =
      subst (λ z. IsShownBy H b w.root (touched (touched next now z) now w.below) ids_next) (sym w.from_names)
      (subst (λ z. IsShownBy H b w.root (touched (touched next now (upward from.dir.names.now)) now z) ids_next) (sym w.to_names) h) in
      record { told = sym (ap (λ (s : Stepped). s.reply) is); shown = subst (λ (s : Stepped). IsShownBy H b w.root s.tree ids_next) (sym is) shown }
