-- A walk that visited all is a whole file system.
use Rattle.std.proofs.Common.{◌≡◌, ℕ, ◌+◌, ◌≤◌, true, List, [], ◌∷◌, length, refl, sym, ◌∙◌, ap, subst, inl, inr, arith, append-nil}
use Rattle.std.specs.Prelude.{Option, Some, None, is_some, map, All}
use Rattle.std.specs.List.{slice_get}
use Rattle.std.specs.FinMap.{find}
use Rattle.std.specs.FinMap.Entries.{is_some-find}
use Rattle.std.proofs.lemmas.List.Elements.{All-head, All-tail}
use Rattle.std.proofs.lemmas.Option.{same_Some}
use Rattle.check_rules.specs.data_tree.Stored.{BlobTree}
use Rattle.check_rules.specs.dir_entries.Layout.{EntryTarget, Listing, IsEntry}
use Rattle.check_rules.specs.path_walks.Nodes.{IsBodyOf}
use Rattle.fs_model.specs.declared.attr.Kind.{Kind}
use Rattle.fs_model.specs.declared.attr.Kind.TheVariants.{Directory, File, Link}
use Rattle.fs_model.specs.declared.attr.TheConstants.{DIRECTORY_MODE}
use Rattle.fs_model.specs.declared.limits.TheConstants.{MAX_ENTRIES, MAX_MODE}
use Rattle.fs_model.specs.Fitting.{is_target}
use Rattle.fs_model.specs.Tree.{Path, name_cmp, root_row, FitsKind, IsWithinLimits}
use Rattle.fs_model.proofs.TreeLemmas.{name_total, name_exact, path_total, path_exact}
use Rattle.check_rules.specs.store_api.Content.{Id, id_cmp}
use Rattle.check_rules.specs.store_api.Holdings.{has_id}
use Rattle.check_rules.specs.check_walk.Given.{Given, content_of}
use Rattle.check_rules.specs.check_walk.Marks.{MarkList}
use Rattle.cryfs_check.specs.Rows.{FitsRow}
use Rattle.cryfs_check.specs.Seats.{Site, Seat, site_of, row_of, root_site, child_of, sites, text_of, bytes_in, Among, seat_at, look_in, target_in, IsEntered, IsBelow, IsRootSeat, HaveOnePath, AreFound, AreSeats}
use Rattle.cryfs_check.specs.Visits.{AreOwned}
use Rattle.cryfs_check.proofs.Finding.{rises}
use Rattle.cryfs_check.proofs.Lists.{among_left, among_map, map_among, at_among, among_at, find_among, among_find}
use Rattle.cryfs_check.proofs.Showing.{finds}

-- ---- entries

each_of : {X : Type 0} (P : X → Type 0) (xs : List X) (x : X) → All P xs → Among xs x → P x
each_of P [] x all m = absurd m
each_of P (y ∷ xs) x all (inl same) = subst P same (All-head P y xs all)
each_of P (y ∷ xs) x all (inr m) = each_of P xs x (All-tail P y xs all) m

-- what has an entry is a directory
pub entry_in : (kind : Kind) (body : List ℕ) (listing : Listing) (e : List ℕ × EntryTarget) → FitsRow kind body listing → Among listing e → (kind ≡ Directory) × IsEntry e
entry_in Directory body listing e fits m = (refl, each_of IsEntry listing e fits.0.entries.entries m)
entry_in File body listing e fits m = absurd (subst (λ l. Among l e) fits.0 m)
entry_in Link body listing e fits m = absurd (subst (λ l. Among l e) fits.0 m)

-- ---- paths

seats_differ : (seats : List Seat) → HaveOnePath (map site_of seats) → (s r : Seat) → Among seats s → Among seats r → s.path ≡ r.path → s ≡ r
seats_differ [] one s r m k e = absurd m
seats_differ (x ∷ seats) one s r (inl a) (inl b) e = sym a ∙ b
seats_differ (x ∷ seats) one s r (inl a) (inr k) e = absurd (one.0 (site_of r) (among_map site_of seats r k) (sym (ap (λ (z : Seat). z.path) a ∙ e)))
seats_differ (x ∷ seats) one s r (inr m) (inl b) e = absurd (one.0 (site_of s) (among_map site_of seats s m) (e ∙ sym (ap (λ (z : Seat). z.path) b)))
seats_differ (x ∷ seats) one s r (inr m) (inr k) e = seats_differ seats one.1 s r m k e

fits_kind : (kind : Kind) (bytes body : List ℕ) (listing : Listing) → FitsRow kind body listing → bytes ≡ bytes_in kind body → FitsKind kind bytes
fits_kind Directory bytes body listing fits is = is
fits_kind File bytes body listing fits is = omega (arith, ap length is, fits.1)
fits_kind Link bytes body listing fits is = subst (λ b. is_target b ≡ true) (sym is) fits.1

module _ (payload : ℕ) (root : Id) (seats : List Seat) (found : AreFound root seats []) where
  abbrev all_sites : List Site
  all_sites = sites seats []

  site_among : (s : Seat) → Among seats s → Among all_sites (site_of s)
  site_among s m = among_left (map site_of seats) [] (site_of s) (among_map site_of seats s m)

  seat_among : (x : Site) → Among all_sites x → (s : Seat) × (Among seats s × (site_of s ≡ x))
  seat_among x m = map_among site_of seats x (subst (λ xs. Among xs x) (append-nil (map site_of seats)) m)

  one_path : (s r : Seat) → Among seats s → Among seats r → s.path ≡ r.path → s ≡ r
  one_path = seats_differ seats (subst HaveOnePath (append-nil (map site_of seats)) found.one_path)

  at_path : (s : Seat) → Among seats s → seat_at seats s.path ≡ Some s
  at_path s m = finds path_total path_exact (λ s. s.path) (λ s. s) seats one_path s m

  first_seat : (xs : List Seat) (more : List Site) → sites xs [] ≡ root_site root ∷ more → (s : Seat) × (Among xs s × (site_of s ≡ root_site root))
  first_seat [] more e = absurd (cc)
  first_seat (x ∷ xs) more e = let same : site_of x ≡ root_site root = cc in (x, (inl refl, same))

  is_root : (s : Seat) → Among seats s → site_of s ≡ root_site root → IsRootSeat root s
  is_root s m e =
      let attr : s.attr ≡ root_row.attr = ap (λ (z : Site). z.attr) e in
      let none : s.bytes ≡ [] = (found.rows s m).bytes ∙ ap (λ a. bytes_in a s.body) (ap (λ a. a.kind) attr) in
      record { path = ap (λ (z : Site). z.path) e; row = λ i. record { attr = attr i; bytes = none i }; id = ap (λ (z : Site). z.id) e; parent = ap (λ (z : Site). z.parent) e }

  entered : (s : Seat) (n : List ℕ) (p : Path) → Among seats s → s.path ≡ n ∷ p → IsEntered seats (site_of s) n p
  entered s n p m e = found.below (site_of s) n p (site_among s m) e

  entry_at : (s : Seat) (n : List ℕ) (p : Path) (e : IsEntered seats (site_of s) n p) → (e.above.attr.kind ≡ Directory) × IsEntry (n, record { attr = s.attr; blob = s.id })
  entry_at s n p e = entry_in e.above.attr.kind e.above.body e.above.listing (n, record { attr = s.attr; blob = s.id }) (found.rows e.above e.among).fits e.listed

  below : (s : Seat) (n : List ℕ) (p : Path) → Among seats s → s.path ≡ n ∷ p → IsBelow seats s n p
  below s n p m e =
      let into = entered s n p m e in
      let entry = entry_at s n p into in
      record { name = entry.1.name; above = into.above; among = into.among; path = into.path; kind = entry.0; parent = into.parent }

  mode_at : (s : Seat) (p : Path) → Among seats s → s.path ≡ p → s.attr.mode ≤ MAX_MODE
  mode_at s [] m e =
      let attr : s.attr ≡ root_row.attr = ap (λ (z : Site). z.attr) (found.at_root (site_of s) (site_among s m) e) in
      let mode : s.attr.mode ≡ DIRECTORY_MODE = ap (λ a. a.mode) attr in
      omega arith
  mode_at s (n ∷ p) m e = (entry_at s n p (entered s n p m e)).1.attr.mode

  limits : (s : Seat) → Among seats s → IsWithinLimits (row_of s)
  limits s m = let row = found.rows s m in record { content = fits_kind s.attr.kind s.bytes s.body s.listing row.fits row.bytes; mode = mode_at s s.path m refl }

  -- ---- the entries of a directory are the seats below its path

  look_some : (s : Seat) → Among seats s → (n : List ℕ) (t : EntryTarget) → find name_cmp n s.listing ≡ Some t → look_in seats s.path n ≡ Some t
  look_some s m n t e =
      let child = child_of (site_of s) (n, t) in
      let r = seat_among child (found.listed s m (n, t) (find_among name_total name_exact s.listing n t e)) in
      let is : site_of r.0 ≡ child = r.1.1 in
      let at : seat_at seats (n ∷ s.path) ≡ Some r.0 = ap (seat_at seats) (sym (ap (λ (z : Site). z.path) is)) ∙ at_path r.0 r.1.0 in
      ap target_in at ∙ ap (λ (z : Site). Some (record { attr = z.attr; blob = z.id })) is

  look_none : (s : Seat) → Among seats s → (n : List ℕ) → find name_cmp n s.listing ≡ None → (r : Option Seat) → seat_at seats (n ∷ s.path) ≡ r → target_in r ≡ None
  look_none s m n e None at = refl
  look_none s m n e (Some r) at =
      let here = find_among path_total path_exact (map (λ s. (s.path, s)) seats) (n ∷ s.path) r at in
      let f = map_among (λ (s : Seat). (s.path, s)) seats (n ∷ s.path, r) here in
      let seat : f.0 ≡ r = ap (λ (z : Path × Seat). z.1) f.1.1 in
      let path : f.0.path ≡ n ∷ s.path = ap (λ (z : Path × Seat). z.0) f.1.1 in
      let into = entered f.0 n s.path f.1.0 path in
      let same : into.above ≡ s = one_path into.above s into.among m into.path in
      let target : EntryTarget = record { attr = f.0.attr; blob = f.0.id } in
      let listed : Among s.listing (n, target) = subst (λ (z : Seat). Among z.listing (n, target)) same into.listed in
      let row = found.rows s m in
      let bad : Some target ≡ None = sym (among_find name_total name_exact s.listing (n, target) (rises s.attr.kind s.body s.listing row.fits) listed) ∙ e in
      absurd (cc)

  looks : (s : Seat) → Among seats s → (n : List ℕ) → find name_cmp n s.listing ≡ look_in seats s.path n
  looks s m n = by (find name_cmp n s.listing) refl
    where
      by : (r : Option EntryTarget) → find name_cmp n s.listing ≡ r → r ≡ look_in seats s.path n
      by None e = sym (look_none s m n e (seat_at seats (n ∷ s.path)) refl)
      by (Some t) e = sym (look_some s m n t e)

  content_at : (s : Seat) → Among seats s → (kind : Kind) → FitsRow kind s.body s.listing → s.bytes ≡ bytes_in kind s.body → IsBodyOf kind s.bytes (look_in seats s.path) s.body
  content_at s m Directory fits is = record { listing = s.listing; is = fits.0; entries = looks s m }
  content_at s m File fits is = sym is
  content_at s m Link fits is = sym is

  small_at : (s : Seat) (kind : Kind) → kind ≡ Directory → FitsRow kind s.body s.listing → length s.body ≤ MAX_ENTRIES
  small_at s Directory e fits = fits.1
  small_at s File e fits = absurd (cc)
  small_at s Link e fits = absurd (cc)

  module _ (old marks : MarkList) (given : Given) (wide : length root ≡ 16) (trees : (s : Seat) → Among seats s → BlobTree payload (content_of given) s.id (text_of s) s.ids) (owned : AreOwned old marks seats given) where
    apart : (s r : Seat) (x : Id) → Among seats s → Among seats r → has_id s.ids x ≡ true → has_id r.ids x ≡ true → s ≡ r
    apart s r x m k a b =
        let i = among_at seats s m in
        let j = among_at seats r k in
        let one = owned.owns x i.0 s i.1 a in
        let two = owned.owns x j.0 r j.1 b in
        let both : i.0 + 1 ≡ j.0 + 1 = same_Some (i.0 + 1) (j.0 + 1) (sym one ∙ two) in
        let number : i.0 ≡ j.0 = omega arith in
        same_Some s r (sym i.1 ∙ (ap (slice_get seats) number ∙ j.1))

    pub given_has : (x : Id) → is_some (content_of given x) ≡ has_id (map (λ (g : Id × List ℕ). g.0) given) x
    given_has x = is_some-find id_cmp x given

    all : (x : Id) → is_some (content_of given x) ≡ true → (s : Seat) × (Among seats s × (has_id s.ids x ≡ true))
    all x some =
        let o = owned.loaded x (sym (given_has x) ∙ some) in
        let s = owned.owned x o.0 o.1 in
        (s.0, (at_among seats o.0 s.0 s.1.0, s.1.1))

    pub are_seats : AreSeats payload (content_of given) root seats
    are_seats =
        let first = first_seat seats found.first.0 found.first.1 in
        record {
          wide = wide;
          first = first.0;
          among_first = first.1.0;
          is_first = is_root first.0 first.1.0 first.1.1;
          below = below;
          at_root = λ s m e. ap (λ (z : Site). z.parent) (found.at_root (site_of s) (site_among s m) e);
          tree = trees;
          limits = limits;
          content = λ s m. let row = found.rows s m in content_at s m s.attr.kind row.fits row.bytes;
          small = λ s m e. small_at s s.attr.kind e (found.rows s m).fits;
          one_path = one_path;
          apart = apart;
          all = all;
        }
