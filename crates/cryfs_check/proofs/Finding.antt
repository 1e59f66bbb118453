-- One more visit: the entries of its directory are paths to visit.
use Rattle.std.proofs.Common.{◌≡◌, ℕ, Bool, true, List, [], ◌∷◌, ◌++◌, refl, sym, ◌∙◌, ap, subst, inl, inr, append_assoc}
use Rattle.std.specs.Prelude.{T, map}
use Rattle.std.specs.FinMap.{is_sorted}
use Rattle.std.specs.FinMap.Entries.{below_all}
use Rattle.std.proofs.lemmas.List.{map-append}
use Rattle.block_id.proofs.Conditions.{left, right}
use Rattle.check_rules.specs.dir_entries.Layout.{EntryTarget, Listing}
use Rattle.fs_model.specs.declared.attr.Kind.{Kind}
use Rattle.fs_model.specs.declared.attr.Kind.TheVariants.{Directory, File, Link}
use Rattle.fs_model.specs.Tree.{Path, name_cmp}
use Rattle.fs_model.proofs.TreeLemmas.{name_total}
use Rattle.check_rules.specs.store_api.Content.{Id}
use Rattle.cryfs_check.specs.Rows.{FitsRow}
use Rattle.cryfs_check.specs.Seats.{Site, Seat, site_of, root_site, child_of, sites, Among, IsRowSeat, IsEntered, HaveOnePath, AreFound}
use Rattle.cryfs_check.proofs.Lists.{among_left, among_right, among_either, among_map, map_among, not_among}

-- ---- paths that differ

one_path_join : (xs ys : List Site) → HaveOnePath xs → HaveOnePath ys → ((a b : Site) → Among xs a → Among ys b → a.path ≡ b.path → ⊥) → HaveOnePath (xs ++ ys)
one_path_join [] ys one two apart = two
one_path_join (x ∷ xs) ys one two apart = (
  λ s m e. elim (among_either xs ys s m) [ inl here ↦ one.0 s here e | inr there ↦ apart x s (inl refl) there (sym e) ],
  one_path_join xs ys one.1 two (λ a b i j. apart a b (inr i) j),
)

-- those before one have other paths
pub before_differs : (xs ys : List Site) (y a : Site) → HaveOnePath (xs ++ y ∷ ys) → Among xs a → a.path ≡ y.path → ⊥
before_differs [] ys y a one m e = absurd m
before_differs (x ∷ xs) ys y a one (inl same) e = one.0 y (among_right xs (y ∷ ys) y (inl refl)) (sym (ap (λ (s : Site). s.path) same ∙ e))
before_differs (x ∷ xs) ys y a one (inr m) e = before_differs xs ys y a one.1 m e

children_differ : (s : Site) (es : Listing) → T (is_sorted name_cmp es) → HaveOnePath (map (child_of s) es)
children_differ s [] h = tt
children_differ s (e ∷ es) h = (
  λ c m same.
      let f = map_among (child_of s) es c m in
      let path : f.0.0 ∷ s.path ≡ e.0 ∷ s.path = ap (λ (z : Site). z.path) f.1.1 ∙ same in
      let name : f.0.0 ≡ e.0 = cc in
      not_among name_total e.0 es f.0 (left (below_all name_cmp e.0 es) (is_sorted name_cmp es) h) f.1.0 name,
  children_differ s es (right (below_all name_cmp e.0 es) (is_sorted name_cmp es) h),
)

t_true : (b : Bool) → b ≡ true → T b
t_true b e = subst T (sym e) tt

pub rises : (kind : Kind) (body : List ℕ) (listing : Listing) → FitsRow kind body listing → T (is_sorted name_cmp listing)
rises Directory body listing fits = t_true (is_sorted name_cmp listing) fits.0.entries.order
rises File body listing fits = subst (λ l. T (is_sorted name_cmp l)) (sym fits.0) tt
rises Link body listing fits = subst (λ l. T (is_sorted name_cmp l)) (sym fits.0) tt

-- ---- the start

pub found_none : (root : Id) → AreFound root [] (root_site root ∷ [])
found_none root = record {
  first = ([], refl);
  at_root = λ s m e. elim m [ inl same ↦ sym same | inr never ↦ absurd never ];
  below = λ s n p m e. elim m [
    | inl same ↦ let bad : n ∷ p ≡ [] = sym e ∙ ap (λ (z : Site). z.path) (sym same) in absurd (cc)
    | inr never ↦ absurd never
  ];
  listed = λ s m. absurd m;
  one_path = (λ s m e. m, tt);
  rows = λ s m. absurd m;
}

-- ---- one more

pub sites_next : (seats : List Seat) (s : Site) (rest children : List Site) (seat : Seat) → site_of seat ≡ s → sites (seats ++ seat ∷ []) (rest ++ children) ≡ sites seats (s ∷ rest) ++ children
sites_next seats s rest children seat is =
    ap (λ xs. xs ++ (rest ++ children)) (map-append site_of seats (seat ∷ []))
    ∙ (append_assoc (map site_of seats) (site_of seat ∷ []) (rest ++ children)
    ∙ (ap (λ z. map site_of seats ++ z ∷ (rest ++ children)) is ∙ sym (append_assoc (map site_of seats) (s ∷ rest) children)))

module _ (root : Id) (seats : List Seat) (s : Site) (rest : List Site) (seat : Seat) (is : site_of seat ≡ s) (row : IsRowSeat seat) (found : AreFound root seats (s ∷ rest)) where
  abbrev children : List Site
  children = map (child_of s) seat.listing

  abbrev old : List Site
  old = sites seats (s ∷ rest)

  entered_more : (r : Site) (n : List ℕ) (p : Path) → IsEntered seats r n p → IsEntered (seats ++ seat ∷ []) r n p
  entered_more r n p e = record { above = e.above; among = among_left seats (seat ∷ []) e.above e.among; path = e.path; parent = e.parent; listed = e.listed }

  -- a child's directory is the one that was visited
  child_entered : (r : Site) (n : List ℕ) (p : Path) → Among children r → r.path ≡ n ∷ p → IsEntered (seats ++ seat ∷ []) r n p
  child_entered r n p m e =
      let c = map_among (child_of s) seat.listing r m in
      let child : child_of s c.0 ≡ r = c.1.1 in
      let path : c.0.0 ∷ s.path ≡ n ∷ p = ap (λ (z : Site). z.path) child ∙ e in
      let name : c.0.0 ≡ n = cc in
      let above : s.path ≡ p = cc in
      let attr : c.0.1.attr ≡ r.attr = ap (λ (z : Site). z.attr) child in
      let blob : c.0.1.blob ≡ r.id = ap (λ (z : Site). z.id) child in
      record {
        above = seat;
        among = among_right seats (seat ∷ []) seat (inl refl);
        path = ap (λ (z : Site). z.path) is ∙ above;
        parent = sym (ap (λ (z : Site). z.parent) child) ∙ ap (λ (z : Site). z.id) (sym is);
        listed = subst (Among seat.listing) (λ i. (name i, record { attr = attr i; blob = blob i })) c.1.0;
      }

  below_next : (r : Site) (n : List ℕ) (p : Path) → Among (old ++ children) r → r.path ≡ n ∷ p → IsEntered (seats ++ seat ∷ []) r n p
  below_next r n p m e = elim (among_either old children r m) [
    | inl here ↦ entered_more r n p (found.below r n p here e)
    | inr child ↦ child_entered r n p child e
  ]

  no_root : (r : Site) → Among children r → r.path ≡ [] → ⊥
  no_root r m e =
      let c = map_among (child_of s) seat.listing r m in
      let path : c.0.0 ∷ s.path ≡ [] = ap (λ (z : Site). z.path) c.1.1 ∙ e in
      absurd (cc)

  at_root_next : (r : Site) → Among (old ++ children) r → r.path ≡ [] → r ≡ root_site root
  at_root_next r m e = elim (among_either old children r m) [
    | inl here ↦ found.at_root r here e
    | inr child ↦ absurd (no_root r child e)
  ]

  -- none of the children has a path that was there
  children_new : (a b : Site) → Among old a → Among children b → a.path ≡ b.path → ⊥
  children_new a b m k e =
      let c = map_among (child_of s) seat.listing b k in
      let path : a.path ≡ c.0.0 ∷ s.path = e ∙ ap (λ (z : Site). z.path) (sym c.1.1) in
      let above = found.below a c.0.0 s.path m path in
      before_differs (map site_of seats) rest s (site_of above.above) found.one_path (among_map site_of seats above.above above.among) above.path

  listed_next : (r : Seat) → Among (seats ++ seat ∷ []) r → (e : List ℕ × EntryTarget) → Among r.listing e → Among (old ++ children) (child_of (site_of r) e)
  listed_next r m e k = elim (among_either seats (seat ∷ []) r m) [
    | inl here ↦ among_left old children (child_of (site_of r) e) (found.listed r here e k)
    | inr last ↦ among_right old children (child_of (site_of r) e) (own r last e k)
  ]
    where
      own : (r : Seat) → Among (seat ∷ []) r → (e : List ℕ × EntryTarget) → Among r.listing e → Among children (child_of (site_of r) e)
      own r (inl same) e k =
          subst (λ (z : Seat). Among children (child_of (site_of z) e)) same
          (subst (λ (z : Site). Among children (child_of z e)) (sym is) (among_map (child_of s) seat.listing e (subst (λ (z : Seat). Among z.listing e) (sym same) k)))
      own r (inr never) e k = absurd never

  rows_next : (r : Seat) → Among (seats ++ seat ∷ []) r → IsRowSeat r
  rows_next r m = elim (among_either seats (seat ∷ []) r m) [
    | inl here ↦ found.rows r here
    | inr last ↦ elim last [ inl same ↦ subst IsRowSeat same row | inr never ↦ absurd never ]
  ]

  pub found_next : AreFound root (seats ++ seat ∷ []) (rest ++ children)
  found_next =
      let all = sym (sites_next seats s rest children seat is) in
      record {
        first = (found.first.0 ++ children, sym all ∙ ap (λ xs. xs ++ children) found.first.1);
        at_root = subst (λ xs. (r : Site) → Among xs r → r.path ≡ [] → r ≡ root_site root) all at_root_next;
        below = subst (λ xs. (r : Site) (n : List ℕ) (p : Path) → Among xs r → r.path ≡ n ∷ p → IsEntered (seats ++ seat ∷ []) r n p) all below_next;
        listed = subst (λ xs. (r : Seat) → Among (seats ++ seat ∷ []) r → (e : List ℕ × EntryTarget) → Among r.listing e → Among xs (child_of (site_of r) e)) all listed_next;
        one_path = subst HaveOnePath all (one_path_join old children found.one_path (children_differ s seat.listing (rises seat.attr.kind seat.body seat.listing row.fits)) children_new);
        rows = rows_next;
      }
