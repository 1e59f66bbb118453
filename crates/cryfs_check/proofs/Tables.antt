-- The sites and the paths of a table of places.
use Rattle.std.proofs.Common.{◌≡◌, ℕ, zero, suc, ◌+◌, ◌<◌, ◌≤◌, List, [], ◌∷◌, ◌++◌, length, get_or, refl, sym, ◌∙◌, ap, inl, inr, arith, append_assoc, append-nil}
use Rattle.std.specs.Prelude.{Some, None, map}
use Rattle.std.specs.List.{slice_get}
use Rattle.std.specs.Option.{option_map}
use Rattle.std.proofs.lemmas.List.{length-append, length-map, map-append, get_or_append_left, get_or_past}
use Rattle.std.proofs.lemmas.Option.{slice_get-map, slice_get_past, get_or_from_slice_get}
use Rattle.check_rules.specs.dir_entries.Layout.{Listing}
use Rattle.check_rules.specs.store_api.Content.{Id}
use Rattle.cryfs_check.specs.Places.{PlaceText, paths_on, paths_of, sites_on, sites_of, AreBehind, placed}
use Rattle.cryfs_check.specs.Seats.{Site, root_site, child_of}
use Rattle.cryfs_check.proofs.Lists.{at_end, at_either, map_among}

get_or-mapped : {A B : Type 0} (f : A → B) (xs : List A) (i : ℕ) (d : A) → get_or (map f xs) i (f d) ≡ f (get_or xs i d)
get_or-mapped f [] i d = refl
get_or-mapped f (x ∷ xs) zero d = refl
get_or-mapped f (x ∷ xs) (suc i) d = get_or-mapped f xs i d

pushed-length : {A : Type 0} (xs : List A) (y : A) → length (xs ++ y ∷ []) ≡ length xs + 1
pushed-length xs y = length-append xs (y ∷ [])

-- places behind places
pub sites-append : (top : Site) (found : List Site) (ps qs : List PlaceText) → sites_on top found (ps ++ qs) ≡ sites_on top (sites_on top found ps) qs
sites-append top found [] qs = refl
sites-append top found (p ∷ ps) qs = sites-append top (found ++ child_of (get_or found p.0 top) p.1 ∷ []) ps qs

pub sites-length : (top : Site) (found : List Site) (ps : List PlaceText) → length (sites_on top found ps) ≡ length found + length ps
sites-length top found [] = omega arith
sites-length top found (p ∷ ps) =
    let c = child_of (get_or found p.0 top) p.1 in
    let rest = sites-length top (found ++ c ∷ []) ps in
    omega (arith, rest, pushed-length found c)

-- the first sites stay
pub sites-grow : (top : Site) (found : List Site) (ps : List PlaceText) → (more : List Site) × (sites_on top found ps ≡ found ++ more)
sites-grow top found [] = ([], sym (append-nil found))
sites-grow top found (p ∷ ps) =
    let c = child_of (get_or found p.0 top) p.1 in
    let rest = sites-grow top (found ++ c ∷ []) ps in
    (c ∷ rest.0, rest.1 ∙ append_assoc found (c ∷ []) rest.0)

sites-first : (top : Site) (found : List Site) (ps : List PlaceText) (i : ℕ) → i < length found → get_or (sites_on top found ps) i top ≡ get_or found i top
sites-first top found ps i lt = let g = sites-grow top found ps in ap (λ xs. get_or xs i top) g.1 ∙ get_or_append_left found g.0 top i lt

-- the entries of one directory
pub sites-placed : (top : Site) (found : List Site) (number : ℕ) (listing : Listing) → number < length found
    → sites_on top found (placed number listing) ≡ found ++ map (child_of (get_or found number top)) listing
sites-placed top found number [] lt = sym (append-nil found)
sites-placed top found number (e ∷ es) lt =
    let c = child_of (get_or found number top) e in
    let more = pushed-length found c in
    let same = get_or_append_left found (c ∷ []) top number lt in
    sites-placed top (found ++ c ∷ []) number es (omega arith)
    ∙ (ap (λ s. (found ++ c ∷ []) ++ map (child_of s) es) same ∙ append_assoc found (c ∷ []) (map (child_of (get_or found number top)) es))

-- each place has its site
pub sites-at : (top : Site) (found : List Site) (ps : List PlaceText) (i : ℕ) (p : PlaceText) → slice_get ps i ≡ Some p → p.0 < length found + i
    → slice_get (sites_on top found ps) (length found + i) ≡ Some (child_of (get_or (sites_on top found ps) p.0 top) p.1)
sites-at top found [] i p e lt = absurd (cc)
sites-at top found (q ∷ ps) zero p e lt =
    let same : q ≡ p = cc in
    let c = child_of (get_or found q.0 top) q.1 in
    let more = pushed-length found c in
    let g = sites-grow top (found ++ c ∷ []) ps in
    let at : length found + 0 ≡ length found = omega arith in
    let low : q.0 < length found = omega (arith, lt, ap (λ (z : PlaceText). z.0) same) in
    let first : get_or (sites_on top (found ++ c ∷ []) ps) q.0 top ≡ get_or found q.0 top =
    sites-first top (found ++ c ∷ []) ps q.0 (omega arith) ∙ get_or_append_left found (c ∷ []) top q.0 low in
    ap (slice_get (sites_on top (found ++ c ∷ []) ps)) at
    ∙ (ap (λ xs. slice_get xs (length found)) (g.1 ∙ append_assoc found (c ∷ []) g.0) ∙ (at_end found g.0 c
    ∙ (ap (λ s. Some (child_of s q.1)) (sym first) ∙ ap (λ (z : PlaceText). Some (child_of (get_or (sites_on top (found ++ c ∷ []) ps) z.0 top) z.1)) same)))
sites-at top found (q ∷ ps) (suc i) p e lt =
    let c = child_of (get_or found q.0 top) q.1 in
    let more = pushed-length found c in
    let at : length (found ++ c ∷ []) + i ≡ length found + suc i = omega arith in
    ap (slice_get (sites_on top (found ++ c ∷ []) ps)) (sym at) ∙ sites-at top (found ++ c ∷ []) ps i p e (omega arith)

-- the blobs of the sites are those of the places
sites-ids : (top : Site) (found : List Site) (ps : List PlaceText) → map (λ (s : Site). s.id) (sites_on top found ps) ≡ map (λ (s : Site). s.id) found ++ map (λ (p : PlaceText). p.1.1.blob) ps
sites-ids top found [] = sym (append-nil (map (λ (s : Site). s.id) found))
sites-ids top found (p ∷ ps) =
    let c = child_of (get_or found p.0 top) p.1 in
    sites-ids top (found ++ c ∷ []) ps
    ∙ (ap (λ xs. xs ++ map (λ (q : PlaceText). q.1.1.blob) ps) (map-append (λ (s : Site). s.id) found (c ∷ [])) ∙ append_assoc (map (λ (s : Site). s.id) found) (p.1.1.blob ∷ []) (map (λ (q : PlaceText). q.1.1.blob) ps))

pub site-id : (root : Id) (places : List PlaceText) (i : ℕ) → (get_or (sites_of root places) i (root_site root)).id ≡ get_or (root ∷ map (λ (p : PlaceText). p.1.1.blob) places) i root
site-id root places i = sym (get_or-mapped (λ (s : Site). s.id) (sites_of root places) i (root_site root)) ∙ ap (λ xs. get_or xs i root) (sites-ids (root_site root) (root_site root ∷ []) places)

-- the paths of the sites
paths-of_sites : (top : Site) (found : List Site) (ps : List PlaceText) → top.path ≡ [] → map (λ (s : Site). s.path) (sites_on top found ps) ≡ paths_on (map (λ (s : Site). s.path) found) ps
paths-of_sites top found [] e = refl
paths-of_sites top found (p ∷ ps) e =
    let c = child_of (get_or found p.0 top) p.1 in
    let above : (get_or found p.0 top).path ≡ get_or (map (λ (s : Site). s.path) found) p.0 [] =
    sym (get_or-mapped (λ (s : Site). s.path) found p.0 top) ∙ ap (get_or (map (λ (s : Site). s.path) found) p.0) e in
    paths-of_sites top (found ++ c ∷ []) ps e
    ∙ (ap (λ xs. paths_on xs ps) (map-append (λ (s : Site). s.path) found (c ∷ [])) ∙ ap (λ q. paths_on (map (λ (s : Site). s.path) found ++ (p.1.0 ∷ q) ∷ []) ps) above)

pub site-path : (root : Id) (places : List PlaceText) (i : ℕ) → get_or (paths_of places) i [] ≡ (get_or (sites_of root places) i (root_site root)).path
site-path root places i =
    ap (λ xs. get_or xs i []) (sym (paths-of_sites (root_site root) (root_site root ∷ []) places refl)) ∙ get_or-mapped (λ (s : Site). s.path) (sites_of root places) i (root_site root)

pub behind-more : (places : List PlaceText) (number : ℕ) (listing : Listing) → AreBehind places → number ≤ length places → AreBehind (places ++ placed number listing)
behind-more places number listing behind le i p e = elim (at_either places (placed number listing) i p e) [
  | inl here ↦ behind i p here
  | inr later ↦
      let low : length places ≤ i = later.0 in
      let from = map_among (λ e. (number, e)) listing p later.1 in
      let is : number ≡ p.0 = ap (λ (z : PlaceText). z.0) from.1.1 in
      omega arith
]

-- ---- by number

pub site_first : (root : Id) (places : List PlaceText) → slice_get (sites_of root places) 0 ≡ Some (root_site root)
site_first root places = ap (λ xs. slice_get xs 0) (sites-grow (root_site root) (root_site root ∷ []) places).1

pub site_at : (root : Id) (places : List PlaceText) (number i : ℕ) (p : PlaceText) → number ≡ i + 1 → AreBehind places → slice_get places i ≡ Some p
    → slice_get (sites_of root places) number ≡ Some (child_of (get_or (sites_of root places) p.0 (root_site root)) p.1)
site_at root places number i p is behind e =
    let top = root_site root in
    let low : p.0 ≤ i = behind i p e in
    let at : number ≡ 1 + i = omega arith in
    ap (slice_get (sites_of root places)) at ∙ sites-at top (top ∷ []) places i p e (omega arith)

pub site_past : (root : Id) (places : List PlaceText) (number i : ℕ) → number ≡ i + 1 → length places ≤ i → slice_get (sites_of root places) number ≡ None
site_past root places number i is past =
    let long : length (sites_of root places) ≡ 1 + length places = sites-length (root_site root) (root_site root ∷ []) places in
    slice_get_past (sites_of root places) number (omega arith)

abbrev blobs : List PlaceText → List Id
blobs places = map (λ (p : PlaceText). p.1.1.blob) places

pub blob_first : (root : Id) (places : List PlaceText) → (get_or (sites_of root places) 0 (root_site root)).id ≡ root
blob_first root places = site-id root places 0

pub blob_place : (root : Id) (places : List PlaceText) (number i : ℕ) (p : PlaceText) → number ≡ i + 1 → slice_get places i ≡ Some p → (get_or (sites_of root places) number (root_site root)).id ≡ p.1.1.blob
blob_place root places number i p is e =
    let at : number ≡ suc i = omega arith in
    site-id root places number ∙ (ap (λ n. get_or (root ∷ blobs places) n root) at
    ∙ get_or_from_slice_get (blobs places) i p.1.1.blob root (slice_get-map (λ (q : PlaceText). q.1.1.blob) places i ∙ ap (option_map (λ (q : PlaceText). q.1.1.blob)) e))

pub blob_past : (root : Id) (places : List PlaceText) (number i : ℕ) → number ≡ i + 1 → length places ≤ i → (get_or (sites_of root places) number (root_site root)).id ≡ root
blob_past root places number i is past =
    let at : number ≡ suc i = omega arith in
    site-id root places number ∙ (ap (λ n. get_or (root ∷ blobs places) n root) at ∙ get_or_past (blobs places) i root (omega (arith, length-map places (λ (q : PlaceText). q.1.1.blob))))

-- ---- paths by number

abbrev nowhere : Site
nowhere = root_site []

pub path_first : (places : List PlaceText) → get_or (paths_of places) 0 [] ≡ []
path_first places = site-path [] places 0 ∙ ap (λ (s : Site). s.path) (get_or_from_slice_get (sites_of [] places) 0 nowhere nowhere (site_first [] places))

pub path_next : (places : List PlaceText) (number i : ℕ) (p : PlaceText) → number ≡ i + 1 → AreBehind places → slice_get places i ≡ Some p → get_or (paths_of places) number [] ≡ p.1.0 ∷ get_or (paths_of places) p.0 []
path_next places number i p is behind e =
    let child = child_of (get_or (sites_of [] places) p.0 nowhere) p.1 in
    site-path [] places number ∙ (ap (λ (s : Site). s.path) (get_or_from_slice_get (sites_of [] places) number child nowhere (site_at [] places number i p is behind e))
    ∙ ap (λ q. p.1.0 ∷ q) (sym (site-path [] places p.0)))

pub path_past : (places : List PlaceText) (number i : ℕ) → number ≡ i + 1 → length places ≤ i → get_or (paths_of places) number [] ≡ []
path_past places number i is past =
    let long : length (sites_of [] places) ≡ 1 + length places = sites-length nowhere (nowhere ∷ []) places in
    site-path [] places number ∙ ap (λ (s : Site). s.path) (get_or_past (sites_of [] places) number nowhere (omega arith))
