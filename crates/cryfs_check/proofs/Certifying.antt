-- A walk that visited all, and left no block without an owner, certifies its owners.
use Rattle.std.proofs.Common.{◌≡◌, ℕ, zero, suc, ◌+◌, ◌-◌, Bool, true, false, cond, List, [], ◌∷◌, length, get_or, refl, sym, ◌∙◌, ap, subst, inl, inr, arith, append-nil}
use Rattle.std.specs.Prelude.{Option, Some, None, is_some, T, map, ◌==◌, ◌&&◌}
use Rattle.std.specs.List.{slice_get}
use Rattle.std.specs.List as lists
use Rattle.std.specs.Option.{option_map}
use Rattle.std.specs.FinMap.{find, get, is_sorted}
use Rattle.std.specs.FinMap.Entries.{below_all, is_some-find}
use Rattle.std.specs.Ordering.{is_lt, eq_by_cmp}
use Rattle.std.proofs.lemmas.Bool.{eqb-true, false_from_ne_true}
use Rattle.std.proofs.lemmas.Option.{same_Some, get_or_from_slice_get, slice_get-map}
use Rattle.block_id.specs.declared.id.BlockId.{BlockId}
use Rattle.check_rules.specs.data_tree.Stored.{BlobTree}
use Rattle.fs_model.specs.Tree.{Path}
use Rattle.check_rules.specs.store_api.Content.{Id, id_cmp}
use Rattle.check_rules.specs.store_api.Holdings.{has_id}
use Rattle.check_rules.specs.store_api.Loads.{LoadAnswer}
use Rattle.check_rules.proofs.store_api_lemmas.Rising.{ids_total}
use Rattle.check_rules.specs.check_walk.Given.{Given, content_of}
use Rattle.check_rules.specs.check_walk.Marks.{MarkList, unmarked, owner_of, first_unowned}
use Rattle.check_rules.specs.Certificates.{IsOwner, AreOwners, Certifies}
use Rattle.cryfs_check.specs.Places.{PlaceText, paths_of, sites_of, owners_of}
use Rattle.cryfs_check.specs.Seats.{Site, Seat, site_of, root_site, sites, Among, tree_in, blobs_in, ids_in, text_of, AreFound, AreSeats}
use Rattle.cryfs_check.specs.Visits.{VisitedAll}
use Rattle.check_rules.proofs.Walking.{agrees_self}
use Rattle.check_rules.specs.Flaws.{HasUnowned}
use Rattle.check_rules.proofs.Refuting.{has_unowned}
use Rattle.cryfs_check.proofs.Lists.{at_among, among_find}
use Rattle.cryfs_check.proofs.Owning.{more_than_none}
use Rattle.cryfs_check.proofs.Settling.{are_seats}
use Rattle.cryfs_check.proofs.Showing.{id_exact, at_row, at_blob, id_at, seats_store, seats_show}
use Rattle.cryfs_check.proofs.Tables.{site-path}
use Rattle.cryfs_check.proofs.Turns.{mapped_some}

-- ---- entries whose values are others

find-valued : {X Y : Type 0} (f : X → Y) (q : Id) (es : List (Id × X)) → find id_cmp q (map (λ e. (e.0, f e.1)) es) ≡ option_map f (find id_cmp q es)
find-valued f q [] = refl
find-valued f q (e ∷ es) = elim (eq_by_cmp id_cmp q e.0) as (λ b. cond b (Some (f e.1)) (find id_cmp q (map (λ e. (e.0, f e.1)) es)) ≡ option_map f (cond b (Some e.1) (find id_cmp q es))) [ true ↦ refl | false ↦ find-valued f q es ]

below-valued : {X Y : Type 0} (f : X → Y) (x : Id) (es : List (Id × X)) → below_all id_cmp x (map (λ e. (e.0, f e.1)) es) ≡ below_all id_cmp x es
below-valued f x [] = refl
below-valued f x (e ∷ es) = ap (λ b. is_lt (id_cmp x e.0) && b) (below-valued f x es)

sorted-valued : {X Y : Type 0} (f : X → Y) (es : List (Id × X)) → is_sorted id_cmp (map (λ e. (e.0, f e.1)) es) ≡ is_sorted id_cmp es
sorted-valued f [] = refl
sorted-valued f (e ∷ es) = ap (λ b. b && is_sorted id_cmp (map (λ e. (e.0, f e.1)) es)) (below-valued f e.0 es) ∙ ap (λ b. below_all id_cmp e.0 es && b) (sorted-valued f es)

is_some-mapped : {X Y : Type 0} (f : X → Y) (o : Option X) → is_some (option_map f o) ≡ is_some o
is_some-mapped f None = refl
is_some-mapped f (Some x) = refl

valued_at : {X Y : Type 0} (f : X → Y) (q : Id) (es : List (Id × X)) (y : Y) → find id_cmp q (map (λ e. (e.0, f e.1)) es) ≡ Some y → (x : X) × ((find id_cmp q es ≡ Some x) × (f x ≡ y))
valued_at f q es y e = mapped_some f (find id_cmp q es) y (sym e ∙ find-valued f q es)

-- ---- marks

-- where no mark is without an owner, each has a number
pub owner_some : (marks : MarkList) (q : Id) (n : ℕ) → first_unowned marks ≡ None → owner_of marks q ≡ Some n → (i : ℕ) × (n ≡ i + 1)
owner_some [] q n none e = absurd (cc)
owner_some (m ∷ ms) q n none e = by (m.1 == 0) refl none (λ rest there. owner_some ms q n rest there)
  where
    above : (k : ℕ) → (k == 0) ≡ false → (i : ℕ) × (k ≡ i + 1)
    above zero h = absurd (cc)
    above (suc i) h = (i, omega arith)

    here : (m.1 == 0) ≡ false → first_unowned ms ≡ None → (first_unowned ms ≡ None → owner_of ms q ≡ Some n → (i : ℕ) × (n ≡ i + 1)) → (b : Bool) → eq_by_cmp id_cmp q m.0 ≡ b → cond b (Some m.1) (owner_of ms q) ≡ Some n → (i : ℕ) × (n ≡ i + 1)
    here owned rest later true s e = let o = above m.1 owned in let same : m.1 ≡ n = same_Some m.1 n e in (o.0, sym same ∙ o.1)
    here owned rest later false s e = later rest e

    by : (b : Bool) → (m.1 == 0) ≡ b → option_map (λ (m : Id × ℕ). m.0) (cond b (Some m) (lists.find (λ m. m.1 == 0) ms)) ≡ None → (first_unowned ms ≡ None → owner_of ms q ≡ Some n → (i : ℕ) × (n ≡ i + 1)) → (i : ℕ) × (n ≡ i + 1)
    by true h none later = absurd (cc)
    by false h none later = here h none later (eq_by_cmp id_cmp q m.0) refl e

test_found : {X : Type 0} (test : X → Bool) (xs : List X) (x : X) → lists.find test xs ≡ Some x → Among xs x × (test x ≡ true)
test_found test [] x e = absurd (cc)
test_found test (y ∷ xs) x e = by (test y) refl e (test_found test xs x)
  where
    by : (b : Bool) → test y ≡ b → cond b (Some y) (lists.find test xs) ≡ Some x → (lists.find test xs ≡ Some x → Among xs x × (test x ≡ true)) → Among (y ∷ xs) x × (test x ≡ true)
    by true h e later = let same : y ≡ x = same_Some y x e in (inl same, ap test (sym same) ∙ h)
    by false h e later = let r = later e in (inr r.0, r.1)

-- the first block without an owner has none
free_mark : (marks : MarkList) (q : Id) → T (is_sorted id_cmp marks) → first_unowned marks ≡ Some q → owner_of marks q ≡ Some 0
free_mark marks q sorted e =
    let m = mapped_some (λ (m : Id × ℕ). m.0) (lists.find (λ m. m.1 == 0) marks) q (sym e) in
    let f = test_found (λ (m : Id × ℕ). m.1 == 0) marks m.0 m.1.0 in
    let zero_ : m.0.1 ≡ 0 = eqb-true m.0.1 0 f.1 in
    ap (owner_of marks) (sym m.1.1) ∙ (among_find ids_total id_exact marks m.0 sorted f.0 ∙ ap Some zero_)

keys-unmarked : (live : List BlockId) → map (λ (m : Id × ℕ). m.0) (map unmarked live) ≡ map (λ (id : BlockId). id.0) live
keys-unmarked [] = refl
keys-unmarked (x ∷ xs) = ap (λ ys. x.0 ∷ ys) (keys-unmarked xs)

pub lives : (live : List BlockId) (q : Id) → is_some (owner_of (map unmarked live) q) ≡ has_id (map (λ (id : BlockId). id.0) live) q
lives live q = is_some-find id_cmp q (map unmarked live) ∙ ap (λ ks. has_id ks q) (keys-unmarked live)

pub none_owned : (live : List BlockId) (q : Id) (n : ℕ) → owner_of (map unmarked live) q ≡ Some n → n ≡ 0
none_owned [] q n e = absurd (cc)
none_owned (x ∷ xs) q n e = by (eq_by_cmp id_cmp q x.0) e (none_owned xs q n)
  where
    by : (b : Bool) → cond b (Some 0) (owner_of (map unmarked xs) q) ≡ Some n → (owner_of (map unmarked xs) q ≡ Some n → n ≡ 0) → n ≡ 0
    by true e later = sym (same_Some 0 n e)
    by false e later = later e

-- ---- what was given

given_in : (given : Given) (x : Id) → is_some (content_of given x) ≡ has_id (map (λ (g : Id × List ℕ). g.0) given) x
given_in given x = is_some-find id_cmp x given

-- ---- the certificate

module _ {S : Type 0} {loads : S → S → Id → LoadAnswer → Type 0} (payload : ℕ) (root : Id) {a b : S} (live : List BlockId) (marks : MarkList) (places : List PlaceText) (v : VisitedAll loads payload root a b (map unmarked live) marks places)
    (wide : length root ≡ 16) (sorted : T (is_sorted id_cmp marks)) where
  abbrev seats : List Seat
  seats = v.visited.seats

  abbrev given : Given
  given = v.visited.given

  found : AreFound root seats []
  found = subst (AreFound root seats) v.none v.visited.found

  are : AreSeats payload (content_of given) root seats
  are = are_seats payload root seats found (map unmarked live) marks given wide (v.visited.trees (content_of given) (agrees_self given v.visited.owned.once)) v.visited.owned

  -- a block without an owner is live and wasn't given
  pub unowned_flaw : (q : Id) → first_unowned marks ≡ Some q → HasUnowned payload root (map (λ (id : BlockId). id.0) live) (content_of given) q
  unowned_flaw q first =
      let own = free_mark marks q sorted first in
      let alive : has_id (map (λ (id : BlockId). id.0) live) q ≡ true = sym (lives live q) ∙ (sym (v.visited.owned.same q) ∙ ap is_some own) in
      let dead = false_from_ne_true (has_id (map (λ (g : Id × List ℕ). g.0) given) q) (λ e. let o = v.visited.owned.loaded q e in more_than_none o.0 (sym o.1 ∙ own)) in
      has_unowned payload root (map (λ (id : BlockId). id.0) live) given (blobs_in seats) (tree_in seats) q (seats_store payload (content_of given) root seats are) (ids_in seats, seats_show payload (content_of given) root seats are) alive dead

  module _ (none : first_unowned marks ≡ None) where
    -- a block has an owner exactly where it was given
    owned_given : (x : Id) (o : Option ℕ) → owner_of marks x ≡ o → (b : Bool) → has_id (map (λ (g : Id × List ℕ). g.0) given) x ≡ b → b ≡ is_some o
    owned_given x None e true h = let o = v.visited.owned.loaded x h in let bad : Some (o.0 + 1) ≡ None = sym o.1 ∙ e in absurd (cc)
    owned_given x None e false h = refl
    owned_given x (Some n) e b h =
        let o = owner_some marks x n none e in
        sym h ∙ v.visited.owned.gave x o.0 (e ∙ ap Some o.1)

    given_owned : (x : Id) → has_id (map (λ (g : Id × List ℕ). g.0) given) x ≡ is_some (owner_of marks x)
    given_owned x = owned_given x (owner_of marks x) refl (has_id (map (λ (g : Id × List ℕ). g.0) given) x) refl

    whole : (x : Id) → has_id (map (λ (g : Id × List ℕ). g.0) given) x ≡ has_id (map (λ (id : BlockId). id.0) live) x
    whole x = given_owned x ∙ (v.visited.owned.same x ∙ lives live x)

    -- the path of a number is its seat's
    path_at : (i : ℕ) (s : Seat) → slice_get seats i ≡ Some s → get_or (paths_of places) i [] ≡ s.path
    path_at i s at =
        let table : sites_of root places ≡ map site_of seats = v.visited.table ∙ (ap (sites seats) v.none ∙ append-nil (map site_of seats)) in
        let site : slice_get (sites_of root places) i ≡ Some (site_of s) = ap (λ xs. slice_get xs i) table ∙ (slice_get-map site_of seats i ∙ ap (option_map site_of) at) in
        site-path root places i ∙ ap (λ (z : Site). z.path) (get_or_from_slice_get (sites_of root places) i (site_of s) (root_site root) site)

    owner_at : (x : Id) (s : Seat) → Among seats s → has_id s.ids x ≡ true → IsOwner payload (content_of given) (blobs_in seats) (tree_in seats) (ids_in seats) x s.path
    owner_at x s m h =
        let same : ids_in seats s.path ≡ s.id = id_at payload (content_of given) root seats are s m in
        record {
          there = ap is_some (at_row payload (content_of given) root seats are s m);
          bytes = text_of s;
          stored = ap (get (blobs_in seats)) same ∙ at_blob payload (content_of given) root seats are s m;
          nodes = s.ids;
          blob = subst (λ i. BlobTree payload (content_of given) i (text_of s) s.ids) (sym same) (are.tree s m);
          among = h;
        }

    owned_by : (x : Id) (p : Path) → find id_cmp x (owners_of marks places) ≡ Some p → IsOwner payload (content_of given) (blobs_in seats) (tree_in seats) (ids_in seats) x p
    owned_by x p e =
        let o = valued_at (λ n. get_or (paths_of places) (n - 1) []) x marks p e in
        let i = owner_some marks x o.0 none o.1.0 in
        let s = v.visited.owned.owned x i.0 (o.1.0 ∙ ap Some i.1) in
        let number : o.0 - 1 ≡ i.0 = let n : o.0 ≡ i.0 + 1 = i.1 in omega arith in
        let path : s.0.path ≡ p = sym (path_at i.0 s.0 s.1.0) ∙ (ap (λ n. get_or (paths_of places) n []) (sym number) ∙ o.1.1) in
        subst (IsOwner payload (content_of given) (blobs_in seats) (tree_in seats) (ids_in seats) x) path (owner_at x s.0 (at_among seats i.0 s.0 s.1.0) s.1.1)

    owners : AreOwners payload (content_of given) (blobs_in seats) (tree_in seats) (ids_in seats) (owners_of marks places)
    owners = record {
      order = subst T (sym (sorted-valued (λ n. get_or (paths_of places) (n - 1) []) marks)) sorted;
      all = λ x. ap is_some (find-valued (λ n. get_or (paths_of places) (n - 1) []) x marks)
          ∙ (is_some-mapped (λ n. get_or (paths_of places) (n - 1) []) (owner_of marks x) ∙ (sym (given_owned x) ∙ sym (given_in given x)));
      owned = owned_by;
    }

    pub certified : Certifies payload root (map (λ (id : BlockId). id.0) live) given (owners_of marks places)
    certified = record {
      once = v.visited.owned.once;
      whole = whole;
      blobs = blobs_in seats;
      tree = tree_in seats;
      ids = ids_in seats;
      stores = seats_store payload (content_of given) root seats are;
      shows = seats_show payload (content_of given) root seats are;
      owners = owners;
    }
