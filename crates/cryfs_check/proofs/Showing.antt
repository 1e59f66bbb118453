-- Seats that are a whole file system: their blocks store their blobs, and these show their tree.
use Rattle.std.proofs.Common.{◌≡◌, ℕ, ◌≤◌, true, false, cond, List, [], ◌∷◌, length, refl, sym, ◌∙◌, ap, subst, inl, inr, arith}
use Rattle.std.specs.Prelude.{Option, Some, None, is_some, map}
use Rattle.std.specs.FinMap.{find, get, get-from_entries}
use Rattle.std.specs.Cmp.{IsTotalOrder, tied_itself}
use Rattle.std.specs.Cmp.Lexicographic.{nat_list_cmp_total}
use Rattle.std.specs.FinMap.{slice_cmp-IsAntisymmetric, nat_cmp-IsAntisymmetric}
use Rattle.std.specs.Ordering.{is_eq}
use Rattle.std.specs.declared.cmp.Ordering.{Ordering}
use Rattle.std.specs.declared.cmp.Ordering.TheVariants.{Less, Equal, Greater}
use Rattle.std.proofs.lemmas.Option.{same_Some}
use Rattle.std.proofs.lemmas.Bool.{or_left}
use Rattle.check_rules.specs.blob_api.BlobMap.{id_cmp}
use Rattle.check_rules.specs.data_tree.Stored.{BlobTree, StoresBlobs}
use Rattle.check_rules.proofs.data_tree_lemmas.Ids.{same_self}
use Rattle.check_rules.specs.path_walks.Nodes.{Lists, IsBodyOf, IsBlobOf}
use Rattle.check_rules.specs.path_walks.Shows.{above, target_for, entries_at, ShowsBy}
use Rattle.check_rules.specs.fs_blobs.Headers.{blob}
use Rattle.fs_model.specs.declared.attr.Kind.{Kind}
use Rattle.fs_model.specs.declared.attr.Kind.TheVariants.{Directory, File, Link}
use Rattle.fs_model.specs.declared.limits.TheConstants.{MAX_ENTRIES}
use Rattle.fs_model.specs.Tree.{Path, Row, is_directory, is_folder, children, directory_size, IsRooted, IsWellFormed, IsWithinLimits}
use Rattle.fs_model.proofs.TreeLemmas.{path_total, path_exact, get-children, some_of}
use Rattle.fs_model.proofs.SizeLemmas.{no_names, size-empty, map_size}
use Rattle.fs_model.proofs.PutRows.{below_file, below_none}
use Rattle.check_rules.proofs.path_walks_lemmas.Sizes.{sizes_shown, body_size}
use Rattle.check_rules.specs.store_api.Content.{Id, Content, same_id}
use Rattle.check_rules.specs.store_api.Holdings.{has_id}
use Rattle.cryfs_check.specs.Seats.{Seat, row_of, text_of, Among, seat_at, target_in, look_in, id_in, tree_in, blobs_in, ids_in, IsBelow, AreSeats}

-- ---- seats by a key

module _ {K X : Type 0} {R : K → K → Ordering} (o : IsTotalOrder R) (exact : (a b : K) → R a b ≡ Equal → a ≡ b) (key : Seat → K) (val : Seat → X) where
  record Found (xs : List Seat) (q : K) (y : X) : Type 0 where
    seat : Seat
    among : Among xs seat
    at : key seat ≡ q
    is : val seat ≡ y

  later : (x : Seat) (xs : List Seat) (q : K) (y : X) → Found xs q y → Found (x ∷ xs) q y
  later x xs q y f = record { seat = f.seat; among = inr f.among; at = f.at; is = f.is }

  found : (xs : List Seat) (q : K) (y : X) → find R q (map (λ s. (key s, val s)) xs) ≡ Some y → Found xs q y
  found [] q y e = absurd (cc)
  found (x ∷ xs) q y e =
      elim (R q (key x)) as (λ r. R q (key x) ≡ r → cond (is_eq r) (Some (val x)) (find R q (map (λ s. (key s, val s)) xs)) ≡ Some y → Found (x ∷ xs) q y) [
        | Less ↦ λ c h. later x xs q y (found xs q y h)
        | Equal ↦ λ c h. record { seat = x; among = inl refl; at = sym (exact q (key x) c); is = same_Some _ _ h }
        | Greater ↦ λ c h. later x xs q y (found xs q y h)
      ] refl e

  behind : (x : Seat) (xs : List Seat) (s : Seat) (r : Ordering) → R (key s) (key x) ≡ r → is_eq r ≡ false → Among (x ∷ xs) s → Among xs s
  behind x xs s r c differ (inl same) =
      let tied : R (key s) (key x) ≡ Equal = ap (λ z. R (key s) (key z)) same ∙ tied_itself o (key s) in
      let bad : true ≡ false = sym (ap is_eq tied) ∙ (ap is_eq c ∙ differ) in
      absurd (cc)
  behind x xs s r c differ (inr rest) = rest

  pub finds : (xs : List Seat) → ((s r : Seat) → Among xs s → Among xs r → key s ≡ key r → s ≡ r) → (s : Seat) → Among xs s → find R (key s) (map (λ s. (key s, val s)) xs) ≡ Some (val s)
  finds [] one s h = absurd h
  finds (x ∷ xs) one s h =
      let rest : Among xs s → find R (key s) (map (λ s. (key s, val s)) xs) ≡ Some (val s) = λ k. finds xs (λ a b i j. one a b (inr i) (inr j)) s k in
      elim (R (key s) (key x)) as (λ r. R (key s) (key x) ≡ r → cond (is_eq r) (Some (val x)) (find R (key s) (map (λ s. (key s, val s)) xs)) ≡ Some (val s)) [
        | Less ↦ λ c. rest (behind x xs s Less c refl h)
        | Equal ↦ λ c. ap (λ z. Some (val z)) (sym (one s x h (inl refl) (exact (key s) (key x) c)))
        | Greater ↦ λ c. rest (behind x xs s Greater c refl h)
      ] refl

pub id_exact : (a b : Id) → id_cmp a b ≡ Equal → a ≡ b
id_exact = slice_cmp-IsAntisymmetric nat_cmp-IsAntisymmetric

abbrev ids_listed : Option (List Id) → List Id
ids_listed None = []
ids_listed (Some ids) = ids

module _ (payload : ℕ) (B : Content) (root : Id) (seats : List Seat) (are : AreSeats payload B root seats) where
  root_in : (s : Seat) → Among seats s → has_id s.ids s.id ≡ true
  root_in s h = let t = are.tree s h in subst (λ xs. has_id xs s.id ≡ true) (sym t.tree.all) (or_left (same_id s.id s.id) (has_id t.tree.below s.id) (same_self s.id))

  one_id : (s r : Seat) → Among seats s → Among seats r → s.id ≡ r.id → s ≡ r
  one_id s r h k e = are.apart s r s.id h k (root_in s h) (subst (λ x. has_id r.ids x ≡ true) (sym e) (root_in r k))

  at_seat : (s : Seat) → Among seats s → seat_at seats s.path ≡ Some s
  at_seat s h = finds path_total path_exact (λ s. s.path) (λ s. s) seats are.one_path s h

  row_at : (p : Path) (row : Row) → get (tree_in seats) p ≡ Some row → Found path_total path_exact (λ s. s.path) row_of seats p row
  row_at p row e = found path_total path_exact (λ s. s.path) row_of seats p row (sym (get-from_entries path_total (map (λ s. (s.path, row_of s)) seats) p) ∙ e)

  pub at_row : (s : Seat) → Among seats s → get (tree_in seats) s.path ≡ Some (row_of s)
  at_row s h = get-from_entries path_total (map (λ s. (s.path, row_of s)) seats) s.path ∙ finds path_total path_exact (λ s. s.path) row_of seats are.one_path s h

  blob_at : (id : Id) (w : List ℕ) → get (blobs_in seats) id ≡ Some w → Found nat_list_cmp_total id_exact (λ s. s.id) text_of seats id w
  blob_at id w e = found nat_list_cmp_total id_exact (λ s. s.id) text_of seats id w (sym (get-from_entries nat_list_cmp_total (map (λ s. (s.id, text_of s)) seats) id) ∙ e)

  pub at_blob : (s : Seat) → Among seats s → get (blobs_in seats) s.id ≡ Some (text_of s)
  at_blob s h = get-from_entries nat_list_cmp_total (map (λ s. (s.id, text_of s)) seats) s.id ∙ finds nat_list_cmp_total id_exact (λ s. s.id) text_of seats one_id s h

  pub id_at : (s : Seat) → Among seats s → ids_in seats s.path ≡ s.id
  id_at s h = ap id_in (at_seat s h)

  -- the rows have the seats' targets
  same_look : (p : Path) (n : List ℕ) → look_in seats p n ≡ entries_at (tree_in seats) (ids_in seats) p n
  same_look p n = by (seat_at seats (n ∷ p)) refl
    where
      none_there : seat_at seats (n ∷ p) ≡ None → (r : Option Row) → get (tree_in seats) (n ∷ p) ≡ r → r ≡ None
      none_there e None g = refl
      none_there e (Some row) g =
          let f = row_at (n ∷ p) row g in
          let bad : Some f.seat ≡ None = sym (at_seat f.seat f.among) ∙ (ap (seat_at seats) f.at ∙ e) in
          absurd (cc)

      by : (s : Option Seat) → seat_at seats (n ∷ p) ≡ s → target_in s ≡ target_for (ids_in seats (n ∷ p)) (get (tree_in seats) (n ∷ p))
      by None e = sym (ap (target_for (ids_in seats (n ∷ p))) (none_there e (get (tree_in seats) (n ∷ p)) refl))
      by (Some s) e =
          let f = found path_total path_exact (λ s. s.path) (λ s. s) seats (n ∷ p) s e in
          let among : Among seats s = subst (Among seats) f.is f.among in
          let path : s.path ≡ n ∷ p = sym (ap (λ z. z.path) f.is) ∙ f.at in
          let row : get (tree_in seats) (n ∷ p) ≡ Some (row_of s) = ap (get (tree_in seats)) (sym path) ∙ at_row s among in
          sym (ap (λ i. target_for i (get (tree_in seats) (n ∷ p))) (ap id_in e) ∙ ap (target_for s.id) row)

  content_in : (kind : Kind) (bytes : List ℕ) (p : Path) (body : List ℕ) → IsBodyOf kind bytes (look_in seats p) body → IsBodyOf kind bytes (entries_at (tree_in seats) (ids_in seats) p) body
  content_in Directory bytes p body h = record { listing = h.listing; is = h.is; entries = λ n. h.entries n ∙ same_look p n }
  content_in File bytes p body h = h
  content_in Link bytes p body h = h

  -- ---- a well formed tree

  folder_at : (s : Seat) (p : Path) → Among seats s → s.path ≡ p → s.attr.kind ≡ Directory → is_folder (get (tree_in seats) p) ≡ true
  folder_at s p h path kind = ap is_folder (ap (get (tree_in seats)) (sym path) ∙ at_row s h) ∙ ap is_directory kind

  below_at : (n : List ℕ) (p : Path) → is_some (get (tree_in seats) (n ∷ p)) ≡ true → (s : Seat) × IsBelow seats s n p
  below_at n p some =
      let row = some_of (get (tree_in seats) (n ∷ p)) some in
      let f = row_at (n ∷ p) row.0 row.1 in
      (f.seat, are.below f.seat n p f.among f.at)

  rooted : IsRooted (tree_in seats)
  rooted = record {
    root = ap (get (tree_in seats)) (sym are.is_first.path) ∙ (at_row are.first are.among_first ∙ ap Some are.is_first.row);
    parents = λ n p some. let b = (below_at n p some).1 in folder_at b.above p b.among b.path b.kind;
  }

  no_size : (p : Path) → ((n : List ℕ) → get (tree_in seats) (n ∷ p) ≡ None) → directory_size (tree_in seats) p ≤ MAX_ENTRIES
  no_size p none =
      let nothing : directory_size (tree_in seats) p ≡ 0 = ap map_size (no_names (children (tree_in seats) p) (λ n. get-children (tree_in seats) p n ∙ none n)) ∙ size-empty Row in
      omega arith

  some_size : (s : Seat) (kind : Kind) → Among seats s → s.attr.kind ≡ kind → directory_size (tree_in seats) s.path ≤ MAX_ENTRIES
  some_size s Directory h e =
      let lists : Lists (entries_at (tree_in seats) (ids_in seats) s.path) s.body = content_in Directory s.bytes s.path s.body (subst (λ k. IsBodyOf k s.bytes (look_in seats s.path) s.body) e (are.content s h)) in
      let size = sizes_shown (tree_in seats) (ids_in seats) s.path lists.listing lists.is.entries.order lists.entries in
      let long = ap length lists.is.text ∙ body_size lists.listing lists.is.entries.entries in
      omega (arith, size, long, are.small s h e)
  some_size s File h e = no_size s.path (below_file (tree_in seats) s.path (row_of s) rooted (at_row s h) (ap is_directory e))
  some_size s Link h e = no_size s.path (below_file (tree_in seats) s.path (row_of s) rooted (at_row s h) (ap is_directory e))

  sizes : (p : Path) (r : Option Row) → get (tree_in seats) p ≡ r → directory_size (tree_in seats) p ≤ MAX_ENTRIES
  sizes p None e = no_size p (below_none (tree_in seats) p rooted e)
  sizes p (Some row) e =
      let f = row_at p row e in
      subst (λ q. directory_size (tree_in seats) q ≤ MAX_ENTRIES) f.at (some_size f.seat f.seat.attr.kind f.among refl)

  well_formed : IsWellFormed (tree_in seats)
  well_formed = record {
    rooted = rooted;
    names = λ n p some. (below_at n p some).1.name;
    rows = λ p row e. let f = row_at p row e in subst IsWithinLimits f.is (are.limits f.seat f.among);
    directories = λ p. sizes p (get (tree_in seats) p) refl;
  }

  -- ---- the blobs show it

  parent_at : (s : Seat) (p : Path) → Among seats s → s.path ≡ p → s.parent ≡ above (ids_in seats) p
  parent_at s [] h e = are.at_root s h e
  parent_at s (n ∷ p) h e = let b = are.below s n p h e in b.parent ∙ (sym (id_at b.above b.among) ∙ ap (ids_in seats) b.path)

  node_at : (s : Seat) → Among seats s → IsBlobOf (blobs_in seats) (ids_in seats s.path) s.attr.kind (above (ids_in seats) s.path) s.bytes (entries_at (tree_in seats) (ids_in seats) s.path)
  node_at s h = record {
    body = s.body;
    there = ap (get (blobs_in seats)) (id_at s h) ∙ (at_blob s h ∙ ap (λ i. Some (blob s.attr.kind i s.body)) (parent_at s s.path h refl));
    content = content_in s.attr.kind s.bytes s.path s.body (are.content s h);
  }

  id_of_path : (p : Path) → is_some (get (tree_in seats) p) ≡ true → (s : Seat) × (Among seats s × ((s.path ≡ p) × (ids_in seats p ≡ s.id)))
  id_of_path p some =
      let row = some_of (get (tree_in seats) p) some in
      let f = row_at p row.0 row.1 in
      (f.seat, (f.among, (f.at, ap (ids_in seats) (sym f.at) ∙ id_at f.seat f.among)))

  pub seats_show : ShowsBy (blobs_in seats) root (tree_in seats) (ids_in seats)
  seats_show = record {
    well_formed = well_formed;
    wide = are.wide;
    at_root = ap (ids_in seats) (sym are.is_first.path) ∙ (id_at are.first are.among_first ∙ are.is_first.id);
    forest = record {
      nodes = λ p row e.
          let f = row_at p row e in
          subst (λ (r : Row). IsBlobOf (blobs_in seats) (ids_in seats p) r.attr.kind (above (ids_in seats) p) r.bytes (entries_at (tree_in seats) (ids_in seats) p)) f.is
          (subst (λ q. IsBlobOf (blobs_in seats) (ids_in seats q) f.seat.attr.kind (above (ids_in seats) q) f.seat.bytes (entries_at (tree_in seats) (ids_in seats) q)) f.at (node_at f.seat f.among));
      distinct = λ p q a b e.
          let x = id_of_path p a in
          let y = id_of_path q b in
          let same : x.0 ≡ y.0 = one_id x.0 y.0 x.1.0 y.1.0 (sym x.1.1.1 ∙ (e ∙ y.1.1.1)) in
          sym x.1.1.0 ∙ (ap (λ s. s.path) same ∙ y.1.1.0);
      all = λ id some. let r = all_in id (get (blobs_in seats) id) refl some in (r.0, r.1.0, r.1.1);
    };
  }
    where
      all_in : (id : Id) (r : Option (List ℕ)) → get (blobs_in seats) id ≡ r → is_some r ≡ true → (p : Path) × ((is_some (get (tree_in seats) p) ≡ true) × (ids_in seats p ≡ id))
      all_in id None e some = absurd (cc)
      all_in id (Some w) e some =
          let f = blob_at id w e in
          (f.seat.path, (ap is_some (at_row f.seat f.among), id_at f.seat f.among ∙ f.at))

  -- ---- the blocks store the blobs

  abbrev ids_of : Id → List Id
  ids_of id = ids_listed (find id_cmp id (map (λ s. (s.id, s.ids)) seats))

  ids_at : (s : Seat) → Among seats s → ids_listed (find id_cmp s.id (map (λ s. (s.id, s.ids)) seats)) ≡ s.ids
  ids_at s h = ap ids_listed (finds nat_list_cmp_total id_exact (λ s. s.id) (λ s. s.ids) seats one_id s h)

  seat_of_blob : (id : Id) → is_some (get (blobs_in seats) id) ≡ true → (s : Seat) × (Among seats s × (s.id ≡ id))
  seat_of_blob id some = by (get (blobs_in seats) id) refl some
    where
      by : (r : Option (List ℕ)) → get (blobs_in seats) id ≡ r → is_some r ≡ true → (s : Seat) × (Among seats s × (s.id ≡ id))
      by None e some = absurd (cc)
      by (Some w) e some = let f = blob_at id w e in (f.seat, (f.among, f.at))

  pub seats_store : StoresBlobs payload B (get (blobs_in seats))
  seats_store = record {
    ids = ids_of;
    blob = λ id w e.
        let f = blob_at id w e in
        let one : BlobTree payload B f.seat.id (text_of f.seat) (ids_of f.seat.id) = subst (λ xs. BlobTree payload B f.seat.id (text_of f.seat) xs) (sym (ids_at f.seat f.among)) (are.tree f.seat f.among) in
        let two : BlobTree payload B f.seat.id w (ids_of f.seat.id) = subst (λ v. BlobTree payload B f.seat.id v (ids_of f.seat.id)) f.is one in
        subst (λ i. BlobTree payload B i w (ids_of i)) f.at two;
    apart = λ a b x sa sb ha hb.
        let s = seat_of_blob a sa in
        let r = seat_of_blob b sb in
        let first : has_id s.0.ids x ≡ true = subst (λ xs. has_id xs x ≡ true) (ap ids_of (sym s.1.1) ∙ ids_at s.0 s.1.0) ha in
        let second : has_id r.0.ids x ≡ true = subst (λ xs. has_id xs x ≡ true) (ap ids_of (sym r.1.1) ∙ ids_at r.0 r.1.0) hb in
        sym s.1.1 ∙ (ap (λ z. z.id) (are.apart s.0 r.0 x s.1.0 r.1.0 first second) ∙ r.1.1);
    all = λ x some.
        let s = are.all x some in
        (s.0.id, (ap is_some (at_blob s.0 s.1.0), subst (λ xs. has_id xs x ≡ true) (sym (ids_at s.0 s.1.0)) s.1.1));
  }
