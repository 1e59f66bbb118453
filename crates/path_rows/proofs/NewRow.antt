-- A row that is made, over blobs.
use Rattle.std.proofs.Common.{◌≡◌, ℕ, ◌≤◌, ◌<◌, ◌+◌, Bool, true, false, List, [], ◌∷◌, length, refl, sym, ◌∙◌, ap, subst, arith}
use Rattle.std.specs.Prelude.{cond, nat_lt}
use Rattle.std.specs.FinMap.{get, find, insert, put}
use Rattle.std.specs.declared.option.Option.TheVariants.{None, Some}
use Rattle.std.proofs.lemmas.Bool.{lt-ltb, le-ltb}
use Rattle.std.proofs.lemmas.List.Elements.{All-nil}
use Rattle.std.proofs.lemmas.Option.{none-some}
use Rattle.path_walks.specs.blob_api.BlobMap.{Id, BlobMap, BlobHoldings, IsNew}
use Rattle.fs_model.specs.declared.limits.TheConstants.{MAX_ENTRIES}
use Rattle.fs_model.specs.declared.attr.Kind.{Kind}
use Rattle.fs_model.specs.declared.attr.Kind.TheVariants.{Directory, File, Link}
use Rattle.fs_model.specs.declared.error.FsError.TheVariants.{TooLarge}
use Rattle.fs_model.specs.declared.reply.Reply.TheVariants.{Done, Error}
use Rattle.fs_model.specs.Instant.{Instant}
use Rattle.fs_model.specs.Tree.{Path, Tree, Row, upward, name_cmp, entry_size, directory_size, is_folder, is_directory, FitsKind, IsWithinLimits}
use Rattle.fs_model.specs.LookUp.{Free, look}
use Rattle.fs_model.specs.Step.{Stepped, refused, done, touched, made}
use Rattle.fs_model.proofs.LookUpLemmas.{look-walk}
use Rattle.fs_model.proofs.PutRows.{insert_free}
use Rattle.path_walks.specs.fs_blobs.Headers.{blob}
use Rattle.path_walks.specs.dir_entries.Layout.{EntryTarget, body_of, IsEntry}
use Rattle.path_walks.specs.dir_blob.Directories.{IsDirectory, HasRoom, HasRoomIn, HasEntries}
use Rattle.path_walks.specs.Nodes.{IsBodyOf}
use Rattle.path_walks.specs.Shows.{above, target_for, entries_at, ShowsBy}
use Rattle.path_walks.proofs.Forests.{map_apart}
use Rattle.path_walks.specs.Midst.{ids_with}
use Rattle.path_walks.proofs.Shown.{made_shows}
use Rattle.path_walks.specs.Showing.{Performed, IsShownBy}
use Rattle.path_walks.specs.Sights.{IsAt, IsOpen}
use Rattle.path_rows.specs.Changes.{Making, Adding}
use Rattle.path_walks.proofs.Nodes.{lists_at, directory_at, size_at, lists_with, read_is}
use Rattle.path_rows.proofs.Edits.{put_named}
use Rattle.path_walks.proofs.Steps.{folder_is, walk_free}
use Rattle.path_walks.specs.declared.spots.Folder.{Folder}
use Rattle.path_walks.proofs.Told.{told_as, shown_done}
use Rattle.path_walks.specs.Touching.{Touching}
use Rattle.path_walks.proofs.Places.{still_at}
use Rattle.fs_model.proofs.TreeLemmas.{apart, insert_apart}

new_content : (kind : Kind) (bytes : List ℕ) → FitsKind kind bytes → IsBodyOf kind bytes (λ k. None) bytes
new_content Directory bytes fits = record { listing = []; is = record { entries = record { entries = All-nil IsEntry; order = refl }; text = fits }; entries = λ k. refl }
new_content File bytes fits = refl
new_content Link bytes fits = refl

module _ {S : Type 0} {H : BlobHoldings S} {a : S} {dir : Folder} {n body : List ℕ} {row : Row} (w : Making H a dir n body row) where
  abbrev pub home : Id
  home = dir.place.blob.0

  abbrev pub at : IsAt w.tree w.ids w.path dir.place
  at = w.is.above

  abbrev pub kind : at.row.attr.kind ≡ Directory
  kind = folder_is w.tree w.ids w.path dir.place at w.is.folder

  abbrev pub directory : IsDirectory H a home
  directory = directory_at w.shows w.stands w.path at.row at.there kind home at.blob

  look_free : look w.tree (n ∷ w.path) ≡ Free
  look_free = look-walk w.tree w.shows.well_formed.rooted (n ∷ w.path) ∙ walk_free w.shows w.path dir.place at w.is.folder n w.is.none

  pub size_is : length (body_of directory.listing) ≡ directory_size w.tree w.path
  size_is = size_at w.shows w.path at.row at.there kind

  -- the body that was read is the directory's
  pub body_is : body ≡ body_of directory.listing
  body_is = read_is w.shows w.path at.row at.there kind body w.lists

  pub body_size : length body ≡ directory_size w.tree w.path
  body_size = ap length body_is ∙ size_is

  -- the tree with the row, and with its directory touched
  abbrev pub more : Tree
  more = insert w.tree (n ∷ w.path) row

  abbrev pub stepped : Instant → Stepped
  stepped now = made w.tree now (n ∷ w.path) row (look w.tree (n ∷ w.path))

  stepped_by : (now : Instant) (b : Bool) → nat_lt MAX_ENTRIES (directory_size w.tree w.path + entry_size n) ≡ b → stepped now ≡ cond b (refused w.tree TooLarge) (done (touched more now w.path))
  stepped_by now b e = ap (made w.tree now (n ∷ w.path) row) look_free ∙ ap (λ z. cond z (refused w.tree TooLarge) (done (touched more now w.path))) e

  -- the directory is full
  pub too_large : (now : Instant) (b : S) → H.stands_for b w.map → MAX_ENTRIES < directory_size w.tree w.path + entry_size n → Performed H b w.root (stepped now) (Error TooLarge)
  too_large now b stands over =
      let is = stepped_by now true (lt-ltb _ _ over) in
      record { told = sym (ap (λ (s : Stepped). s.reply) is); map = w.map; stands = stands; ids = w.ids; shows = subst (λ (s : Stepped). ShowsBy w.map w.root s.tree w.ids) (sym is) w.shows }

  not_new : (id : Id) → get w.map id ≡ None → w.ids w.path ≡ id → ⊥
  not_new id fresh e = none-some _ (sym fresh ∙ (ap (get w.map) (sym e) ∙ (w.shows.forest.nodes w.path at.row at.there).there))

  module _ (small : directory_size w.tree w.path + entry_size n ≤ MAX_ENTRIES) {b : S} {id : Id} (new : IsNew H b w.map id (blob row.attr.kind home row.bytes)) where
    abbrev pub map1 : BlobMap
    map1 = insert w.map id (blob row.attr.kind home row.bytes)

    pub there1 : get map1 home ≡ Some (blob Directory (above w.ids w.path) (body_of directory.listing))
    there1 = map_apart w.map id (blob row.attr.kind home row.bytes) home (λ e. not_new id new.fresh (at.blob ∙ e)) ∙ directory.there

    pub absent : find name_cmp n directory.listing ≡ None
    absent = (lists_at w.shows w.path at.row at.there kind).entries n ∙ ap (target_for (w.ids (n ∷ w.path))) w.is.none

    pub room : length (body_of directory.listing) + entry_size n ≤ MAX_ENTRIES
    room = omega (arith, size_is, small)

    abbrev pub has_room : HasRoom H b home n
    has_room = record {
      is = record { map = map1; stands = new.stands; parent = above w.ids w.path; listing = directory.listing; there = there1; entries = directory.entries; wide = directory.wide; fits = directory.fits };
      absent = absent;
      room = room;
    }

    pub absent_as : (z : List ℕ) → n ≡ z → find name_cmp z directory.listing ≡ None
    absent_as z e = subst (λ x. find name_cmp x directory.listing ≡ None) e absent

    pub room_as : (z : List ℕ) → n ≡ z → length (body_of directory.listing) + entry_size z ≤ MAX_ENTRIES
    room_as z e = subst (λ x. length (body_of directory.listing) + entry_size x ≤ MAX_ENTRIES) e room

    -- the same under an equal name
    abbrev pub has_room_as : (z : List ℕ) → n ≡ z → HasRoom H b home z
    has_room_as z e = record {
      is = record { map = map1; stands = new.stands; parent = above w.ids w.path; listing = directory.listing; there = there1; entries = directory.entries; wide = directory.wide; fits = directory.fits };
      absent = absent_as z e;
      room = room_as z e;
    }

    abbrev pub has_room_in : (read : List ℕ) → read ≡ body → (z : List ℕ) → n ≡ z → HasRoomIn H b home read z
    has_room_in read same z e = record { room = has_room_as z e; text = same ∙ body_is }

    -- and then the blobs show it
    pub added : (c : S) → HasEntries H c map1 home (above w.ids w.path) (put name_cmp n (record { attr = row.attr; blob = id }) directory.listing) → IsShownBy H c w.root (insert w.tree (n ∷ w.path) row) (ids_with w.ids (n ∷ w.path) id)
    added c h =
        let folder : is_folder (get w.tree w.path) ≡ true = ap is_folder at.there ∙ ap is_directory kind in
        let target : EntryTarget = record { attr = row.attr; blob = id } in
        let listed = body_of (put name_cmp n target directory.listing) in
        let here : w.ids w.path ≡ home = at.blob in
        record {
          map = insert (insert w.map id (blob row.attr.kind (w.ids w.path) row.bytes)) (w.ids w.path) (blob Directory (above w.ids w.path) listed);
          stands = subst (λ z. H.stands_for c (insert (insert w.map id (blob row.attr.kind z row.bytes)) z (blob Directory (above w.ids w.path) listed))) (sym here) h.stands;
          shows = made_shows w.map w.root w.tree w.ids w.shows n w.path folder w.is.none row id new.fresh row.bytes (new_content row.attr.kind row.bytes w.limits.content) listed
              (lists_with (entries_at w.tree w.ids w.path) directory.listing n target (lists_at w.shows w.path at.row at.there kind).entries h.entries)
              (insert_free w.tree n w.path row w.shows.well_formed (put_named n target directory.listing h.entries.entries) folder w.is.none w.limits small);
        }

  -- its directory after that
  module _ (id : Id) (c : S) (h : IsShownBy H c w.root more (ids_with w.ids (n ∷ w.path) id)) where
    not_below : w.path ≡ n ∷ w.path → ⊥
    not_below e = omega (arith, ap length e)

    ids_still : (r : Path) → (r ≡ n ∷ w.path → ⊥) → ids_with w.ids (n ∷ w.path) id r ≡ w.ids r
    ids_still r differ = ap (λ b. cond b id (w.ids r)) (apart r (n ∷ w.path) differ)

    dir_stays : IsAt more (ids_with w.ids (n ∷ w.path) id) w.path dir.place
    dir_stays = still_at w.tree more w.ids (ids_with w.ids (n ∷ w.path) id) w.path dir.place h.shows.well_formed.rooted
        (insert_apart w.tree (n ∷ w.path) row w.path not_below) (ids_still w.path not_below) (λ k d is. ids_still d (λ e. omega (arith, ap length is, ap length e))) at

    pub dir_at : IsAt more (ids_with w.ids (n ∷ w.path) id) (upward dir.names.now) dir.place
    dir_at = subst (λ z. IsAt more (ids_with w.ids (n ∷ w.path) id) z dir.place) w.names dir_stays

    abbrev pub touching : Touching H c dir
    touching = record {
      map = h.map;
      stands = h.stands;
      root = w.root;
      tree = more;
      ids = ids_with w.ids (n ∷ w.path) id;
      shows = h.shows;
      at = dir_at;
    }

  -- the row was made
  pub made_done : (now : Instant) → directory_size w.tree w.path + entry_size n ≤ MAX_ENTRIES → (c : S) (ids : Path → Id) → IsShownBy H c w.root (touched more now (upward dir.names.now)) ids → Performed H c w.root (stepped now) Done
  made_done now small c ids h =
      let is = stepped_by now false (le-ltb MAX_ENTRIES (directory_size w.tree w.path + entry_size n) small) in
      told_as (done (touched more now w.path)) (stepped now) Done is (shown_done (touched more now w.path) ids (subst (λ z. IsShownBy H c w.root (touched more now z) ids) (sym w.names) h))

  -- the same over the store as it is after a call that only looked
  abbrev pub adding : (b : S) → H.stands_for b w.map → directory_size w.tree w.path + entry_size n ≤ MAX_ENTRIES → Adding H b dir n body row
  adding b stands small = record {
    making = record { map = w.map; stands = stands; root = w.root; tree = w.tree; ids = w.ids; shows = w.shows; path = w.path; names = w.names; is = w.is; lists = w.lists; limits = w.limits };
    room = small;
  }

abbrev pub making : {S : Type 0} {H : BlobHoldings S} {b : S} {row : Row} (m : BlobMap) → H.stands_for b m → (root : Id) (t : Tree) (ids : Path → Id) → ShowsBy m root t ids → {n body : List ℕ} (dir : Folder) → IsOpen t ids (upward dir.names.now) n dir.place body → IsWithinLimits row
    → Making H b dir n body row
making m stands root t ids shows dir is limits = record { map = m; stands = stands; root = root; tree = t; ids = ids; shows = shows; path = upward dir.names.now; names = refl; is = is.vacant; lists = is.lists; limits = limits }
