-- One more visit of many.
use Rattle.std.proofs.Common.{◌≡◌, ℕ, ◌+◌, ◌<◌, ◌≤◌, List, [], ◌∷◌, ◌++◌, length, get_or, refl, sym, ◌∙◌, ap, subst, inl, inr, arith, append-nil}
use Rattle.std.specs.Prelude.{Option, Some, None, map}
use Rattle.std.specs.List.{slice_get}
use Rattle.std.specs.Option.{option_map}
use Rattle.std.proofs.lemmas.List.{length-append, length-map}
use Rattle.std.proofs.lemmas.Option.{slice_get_within, get_or_from_slice_get, same_Some}
use Rattle.check_rules.specs.data_tree.Stored.{BlobTree}
use Rattle.check_rules.specs.store_api.Content.{Id}
use Rattle.check_rules.specs.store_api.Loads.{LoadAnswer}
use Rattle.check_rules.specs.check_walk.Marks.{MarkList, MarkedAll, owner_of}
use Rattle.check_rules.proofs.check_walk_lemmas.Chains.{gave-then, agrees-parts}
use Rattle.fs_model.specs.declared.attr.Kind.{Kind}
use Rattle.cryfs_check.specs.declared.place.Visit.{Visit}
use Rattle.cryfs_check.specs.Places.{PlaceText, sites_of, placed, site_needs, visit_needs}
use Rattle.cryfs_check.specs.Seats.{Site, Seat, site_of, root_site, child_of, sites, text_of, bytes_in, AreFound}
use Rattle.cryfs_check.specs.Visits.{IsVisited, Visited, VisitedAll}
use Rattle.cryfs_check.proofs.Finding.{found_none, found_next, sites_next}
use Rattle.cryfs_check.proofs.Lists.{among_either, at_end, at_past}
use Rattle.cryfs_check.proofs.Owning.{owned_more, owned_none}
use Rattle.cryfs_check.proofs.Tables.{sites-append, sites-length, sites-placed, behind-more}

-- the site whose turn it is stands first among those to visit
pub next_site : (seats : List Seat) (pending : List Site) (table : List Site) (number : ℕ) (s : Site) → table ≡ sites seats pending → length seats ≡ number → slice_get table number ≡ Some s
    → (rest : List Site) × (pending ≡ s ∷ rest)
next_site seats [] table number s is count at =
    let none : slice_get (map site_of seats ++ []) (length (map site_of seats)) ≡ None = ap (λ xs. slice_get xs (length (map site_of seats))) (append-nil (map site_of seats)) ∙ at_past (map site_of seats) in
    let bad : Some s ≡ None = sym at ∙ (ap (λ xs. slice_get xs number) is ∙ (ap (slice_get (sites seats [])) (sym count ∙ sym (length-map seats site_of)) ∙ none)) in
    absurd (cc)
next_site seats (x ∷ rest) table number s is count at =
    let here : Some x ≡ Some s =
    sym (at_end (map site_of seats) rest x) ∙ (ap (slice_get (sites seats (x ∷ rest))) (length-map seats site_of ∙ count) ∙ (ap (λ xs. slice_get xs number) (sym is) ∙ at)) in
    (rest, ap (λ z. z ∷ rest) (same_Some x s here))

-- where the table ends no site is left
pub no_site : (seats : List Seat) (pending : List Site) (table : List Site) (number : ℕ) → table ≡ sites seats pending → length seats ≡ number → slice_get table number ≡ None → pending ≡ []
no_site seats [] table number is count at = refl
no_site seats (x ∷ rest) table number is count at =
    let bad : Some x ≡ None =
    sym (at_end (map site_of seats) rest x) ∙ (ap (slice_get (sites seats (x ∷ rest))) (length-map seats site_of ∙ count) ∙ (ap (λ xs. slice_get xs number) (sym is) ∙ at)) in
    absurd (cc)

pub visited_none : {S : Type 0} {loads : S → S → Id → LoadAnswer → Type 0} {payload : ℕ} {root : Id} {a : S} {marks : MarkList} → ((q : Id) (n : ℕ) → owner_of marks q ≡ Some n → n ≡ 0) → Visited loads payload root a a marks marks [] 0
visited_none {root = root} {marks = marks} none = record {
  seats = [];
  pending = root_site root ∷ [];
  count = refl;
  table = refl;
  behind = λ i p e. absurd (cc);
  found = found_none root;
  given = [];
  gave = refl;
  trees = λ B agrees s m. absurd m;
  owned = owned_none marks none;
}

module _ {S : Type 0} {loads : S → S → Id → LoadAnswer → Type 0} {payload : ℕ} {root : Id} {a b c : S} {old marks new : MarkList} {places after : List PlaceText} {number : ℕ} where
  pub visited_next : (v : Visited loads payload root a b old marks places number) (s : Site) → slice_get (sites_of root places) number ≡ Some s
      → IsVisited loads payload number s.id s.attr.kind s.parent b c marks new places after → Visited loads payload root a c old new after (number + 1)
  visited_next v s at one =
      let w = one.walked in
      let first = next_site v.seats v.pending (sites_of root places) number s v.table v.count at in
      let rest = first.0 in
      let seat : Seat = record { path = s.path; attr = s.attr; bytes = bytes_in s.attr.kind w.fact.body; id = s.id; parent = s.parent; body = w.fact.body; listing = one.listing; ids = w.ids } in
      let top = root_site root in
      let table : sites_of root places ≡ sites v.seats (s ∷ rest) = v.table ∙ ap (sites v.seats) first.1 in
      let low : number < length (sites_of root places) = slice_get_within (sites_of root places) number s at in
      let site : get_or (sites_of root places) number top ≡ s = get_or_from_slice_get (sites_of root places) number s top at in
      let long : length (sites_of root places) ≡ 1 + length places = sites-length top (top ∷ []) places in
      record {
        seats = v.seats ++ seat ∷ [];
        pending = rest ++ map (child_of s) one.listing;
        count = length-append v.seats (seat ∷ []) ∙ ap (λ n. n + 1) v.count;
        table = ap (sites_of root) one.places
            ∙ (sites-append top (top ∷ []) places (placed number one.listing)
            ∙ (sites-placed top (sites_of root places) number one.listing low
            ∙ (ap (λ z. sites_of root places ++ map (child_of z) one.listing) site
            ∙ (ap (λ xs. xs ++ map (child_of s) one.listing) table ∙ sym (sites_next v.seats s rest (map (child_of s) one.listing) seat refl)))));
        behind = subst (λ ps. (i : ℕ) (p : PlaceText) → slice_get ps i ≡ Some p → p.0 ≤ i) (sym one.places) (behind-more places number one.listing v.behind (omega arith));
        found = found_next root v.seats s rest seat refl (record { fits = w.fact.fits; bytes = refl }) (subst (AreFound root v.seats) first.1 v.found);
        given = w.given ++ v.given;
        gave = gave-then loads a b c v.given w.given v.gave w.gave;
        trees = λ B agrees r m.
            let parts = agrees-parts B w.given v.given agrees in
            elim (among_either v.seats (seat ∷ []) r m) [
              | inl here ↦ v.trees B parts.1 r here
              | inr last ↦ elim last [
                | inl same ↦ subst (λ (z : Seat). BlobTree payload B z.id (text_of z) z.ids) same (subst (λ x. BlobTree payload B s.id x w.ids) w.fact.is (w.hold B parts.0))
                | inr never ↦ absurd never
              ]
            ];
        owned = owned_more old marks new v.seats seat v.given w.given v.owned (subst (λ n. MarkedAll marks new w.ids (n + 1)) (sym v.count) w.marked) w.alone w.once;
      }

-- ---- by what the code reads

pub mapped_some : {X Y : Type 0} (f : X → Y) (o : Option X) (y : Y) → Some y ≡ option_map f o → (x : X) × ((o ≡ Some x) × (f x ≡ y))
mapped_some f None y e = absurd (cc)
mapped_some f (Some x) y e = (x, (refl, same_Some (f x) y (sym e)))

pub mapped_none : {X Y : Type 0} (f : X → Y) (o : Option X) → None ≡ option_map f o → o ≡ None
mapped_none f None e = refl
mapped_none f (Some x) e = absurd (cc)

module _ {S : Type 0} {loads : S → S → Id → LoadAnswer → Type 0} {payload : ℕ} {root : Id} {a b c : S} {old marks new : MarkList} {places after : List PlaceText} {number : ℕ} where
  -- the visit of what was read from the table
  pub visited_read : (v : Visited loads payload root a b old marks places number) (what : Visit) → Some (visit_needs what) ≡ option_map site_needs (slice_get (sites_of root places) number)
      → IsVisited loads payload number what.id.0 what.kind what.parent.0 b c marks new places after → Visited loads payload root a c old new after (number + 1)
  visited_read v what read one =
      let s = mapped_some site_needs (slice_get (sites_of root places) number) (visit_needs what) read in
      visited_next v s.0 s.1.0 (subst (λ (z : Id × (Kind × Id)). IsVisited loads payload number z.0 z.1.0 z.1.1 b c marks new places after) (sym s.1.1) one)

pub visited_end : {S : Type 0} {loads : S → S → Id → LoadAnswer → Type 0} {payload : ℕ} {root : Id} {a b : S} {old marks : MarkList} {places : List PlaceText} {number : ℕ} → Visited loads payload root a b old marks places number
    → None ≡ option_map site_needs (slice_get (sites_of root places) number) → VisitedAll loads payload root a b old marks places
visited_end {root = root} {places = places} {number = number} v read = record {
  number = number;
  visited = v;
  none = no_site v.seats v.pending (sites_of root places) number v.table v.count (mapped_none site_needs (slice_get (sites_of root places) number) read);
}
