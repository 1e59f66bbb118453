-- Why visits of a whole walk stopped.
use Rattle.std.proofs.Common.{◌≡◌, ℕ, zero, suc, ◌+◌, ◌<◌, Bool, true, false, List, [], ◌∷◌, ◌++◌, refl, sym, ◌∙◌, ap, subst, inl, inr, arith}
use Rattle.std.specs.Prelude.{Some, None, Ok, Err, map, is_some}
use Rattle.std.specs.List.{slice_get}
use Rattle.std.specs.Option.{option_map}
use Rattle.std.proofs.lemmas.Bool.{or_left, or_right, or_cases, false_from_ne_true}
use Rattle.std.proofs.lemmas.List.{map-append}
use Rattle.block_id.specs.declared.fail.Fail.{Fail}
use Rattle.check_rules.specs.data_tree.Stored.{BlobTree}
use Rattle.check_rules.specs.data_tree.Trees.{NoDoubles}
use Rattle.check_rules.proofs.data_tree_lemmas.Ids.{in_one}
use Rattle.check_rules.proofs.data_tree_lemmas.Making.{alone-join}
use Rattle.check_rules.specs.dir_entries.Layout.{EntryTarget}
use Rattle.check_rules.specs.fs_blobs.Headers.{blob}
use Rattle.fs_model.specs.declared.attr.Kind.{Kind}
use Rattle.fs_model.specs.declared.attr.Kind.TheVariants.{Directory}
use Rattle.fs_model.specs.Tree.{Path}
use Rattle.fs_model.proofs.TreeLemmas.{name_total, name_exact}
use Rattle.check_rules.specs.store_api.Content.{Id, Content, same_id}
use Rattle.check_rules.specs.store_api.Holdings.{has_id}
use Rattle.check_rules.specs.store_api.Loads.{LoadAnswer}
use Rattle.check_rules.specs.check_walk.declared.flaw.Flaw.{Flaw}
use Rattle.check_rules.specs.check_walk.declared.flaw.Flaw.TheVariants.{BadNode, BadBlob, Parent, Twice, NotLive, Unowned}
use Rattle.check_rules.specs.check_walk.declared.flaw.Halt.{Halt}
use Rattle.check_rules.specs.check_walk.declared.flaw.Halt.TheVariants.{Found, Failing}
use Rattle.check_rules.specs.check_walk.Given.{Given, Asked, AgreesWith, given_of, content_of}
use Rattle.check_rules.specs.check_walk.Halts.{Halted, OnFound, IsOwned}
use Rattle.check_rules.specs.check_walk.Marks.{MarkList, owner_of}
use Rattle.check_rules.proofs.check_walk_lemmas.Chains.{agrees-parts}
use Rattle.check_rules.proofs.check_walk_lemmas.Halting.{asked_of, gave-asked, asked-then, asked-ids, asked-again, given-then}
use Rattle.check_rules.specs.Flaws.{HasFlaw, HasBadBlob, HasParent}
use Rattle.check_rules.specs.Marked.{IsElsewhere, MarksOthers}
use Rattle.check_rules.specs.Reached.{IsReached}
use Rattle.check_rules.proofs.Walking.{block_place, walk_flaw, agrees_self}
use Rattle.cryfs_check.specs.declared.place.Visit.{Visit}
use Rattle.cryfs_check.specs.Halts.{VisitFlaw, IsStopped}
use Rattle.cryfs_check.specs.Places.{PlaceText, sites_of, site_needs, visit_needs}
use Rattle.cryfs_check.specs.Rows.{FitsRow}
use Rattle.cryfs_check.specs.Seats.{Site, Seat, site_of, root_site, sites, text_of, Among, AreFound}
use Rattle.cryfs_check.specs.Visits.{AreOwned, Visited}
use Rattle.cryfs_check.proofs.Finding.{rises, before_differs}
use Rattle.cryfs_check.proofs.Lists.{among_left, among_right, among_map, at_among, among_find}
use Rattle.cryfs_check.proofs.Owning.{has-reverse, alone-reverse, more_than_none}
use Rattle.cryfs_check.proofs.Settling.{entry_in}
use Rattle.cryfs_check.proofs.Turns.{next_site, mapped_some}

-- ---- what was asked for

-- what was given was asked for
given_asked : (asked : Asked) (q : Id) → has_id (map (λ g. g.0) (given_of asked)) q ≡ true → has_id (map (λ a. a.0) asked) q ≡ true
given_asked [] q h = absurd (cc)
given_asked ((id, Ok (Some payload)) ∷ asked) q h = elim (or_cases (same_id q id) (has_id (map (λ g. g.0) (given_of asked)) q) h) [
  | inl here ↦ or_left (same_id q id) (has_id (map (λ a. a.0) asked) q) here
  | inr later ↦ or_right (same_id q id) (has_id (map (λ a. a.0) asked) q) (given_asked asked q later)
]
given_asked ((id, Ok None) ∷ asked) q h = or_right (same_id q id) (has_id (map (λ a. a.0) asked) q) (given_asked asked q h)
given_asked ((id, Err fail) ∷ asked) q h = or_right (same_id q id) (has_id (map (λ a. a.0) asked) q) (given_asked asked q h)

not_given : (asked : Asked) (q : Id) → has_id (map (λ a. a.0) asked) q ≡ false → has_id (map (λ g. g.0) (given_of asked)) q ≡ false
not_given asked q h = false_from_ne_true (has_id (map (λ g. g.0) (given_of asked)) q) (λ e. let bad : true ≡ false = sym (given_asked asked q e) ∙ h in cc)

given_once : (asked : Asked) → NoDoubles (map (λ a. a.0) asked) → NoDoubles (map (λ g. g.0) (given_of asked))
given_once [] h = tt
given_once ((id, Ok (Some payload)) ∷ asked) h = (not_given asked id h.0, given_once asked h.1)
given_once ((id, Ok None) ∷ asked) h = given_once asked h.1
given_once ((id, Err fail) ∷ asked) h = given_once asked h.1

on_found : (halt : Halt) {P Q : Flaw → Type 0} → ((flaw : Flaw) → P flaw → Q flaw) → OnFound halt P → OnFound halt Q
on_found (Found flaw) f h = f flaw h
on_found (Failing fail) f h = tt

-- ---- what is reached

module _ (payload : ℕ) (root : Id) (G : Content) (seats : List Seat) (pending : List Site) (found : AreFound root seats pending) (trees : (s : Seat) → Among seats s → BlobTree payload G s.id (text_of s) s.ids) where
  pub reached_at : (p : Path) (s : Site) → Among (sites seats pending) s → s.path ≡ p → IsReached payload G root p s.attr.kind s.id s.parent
  reached_at [] s m e =
      let top : s ≡ root_site root = found.at_root s m e in
      (ap (λ (z : Site). z.attr.kind) top, (ap (λ (z : Site). z.id) top, ap (λ (z : Site). z.parent) top))
  reached_at (n ∷ p) s m e =
      let into = found.below s n p m e in
      let above = into.above in
      let target : EntryTarget = record { attr = s.attr; blob = s.id } in
      let row = found.rows above into.among in
      let kind : above.attr.kind ≡ Directory = (entry_in above.attr.kind above.body above.listing (n, target) row.fits into.listed).0 in
      let up = reached_at p (site_of above) (among_left (map site_of seats) pending (site_of above) (among_map site_of seats above into.among)) into.path in
      let fits = subst (λ k. FitsRow k above.body above.listing) kind row.fits in
      let tree = subst (λ k. BlobTree payload G above.id (blob k above.parent above.body) above.ids) kind (trees above into.among) in
      record {
        up = above.parent;
        directory = subst (λ i. IsReached payload G root p Directory i above.parent) (sym into.parent) (subst (λ k. IsReached payload G root p k above.id above.parent) kind up);
        body = above.body;
        ids = above.ids;
        tree = subst (λ i. BlobTree payload G i (blob Directory above.parent above.body) above.ids) (sym into.parent) tree;
        listing = above.listing;
        is = fits.0;
        target = target;
        listed = among_find name_total name_exact above.listing (n, target) (rises above.attr.kind above.body above.listing row.fits) into.listed;
        kind_is = refl;
        id_is = refl;
      }

-- ---- what marks say

one_less : (n : ℕ) → 0 < n → (i : ℕ) × (n ≡ i + 1)
one_less zero h = absurd (omega arith)
one_less (suc i) h = (i, omega arith)

module _ (payload : ℕ) (root : Id) (live : List Id) (G : Content) (seats : List Seat) (s : Site) (rest : List Site) (found : AreFound root seats (s ∷ rest)) (trees : (r : Seat) → Among seats r → BlobTree payload G r.id (text_of r) r.ids)
    (old marks : MarkList) (given : Given) (owned : AreOwned old marks seats given) (held : Content) (lives : (id : Id) → is_some (owner_of old id) ≡ has_id live id) (holds : (id : Id) → is_some (held id) ≡ has_id live id) where
  elsewhere : (id : Id) → IsOwned marks id → IsElsewhere payload root G s.path id
  elsewhere id (n, (above, is)) =
      let i = one_less n above in
      let r = owned.owned id i.0 (is ∙ ap Some i.1) in
      let seat = r.0 in
      let among = at_among seats i.0 seat r.1.0 in
      let there = among_map site_of seats seat among in
      let reached = reached_at payload root G seats (s ∷ rest) found trees seat.path (site_of seat) (among_left (map site_of seats) (s ∷ rest) (site_of seat) there) refl in
      let place = block_place payload root G seat.path seat.attr.kind seat.id seat.parent reached (text_of seat) seat.ids (trees seat among) id r.1.1 in
      record { place = record { path = seat.path; way = place.0 }; need = place.1.0; needs = place.1.1; apart = λ e. before_differs (map site_of seats) rest s (site_of seat) found.one_path there e }

  marks_others : MarksOthers payload root live G s.path marks held
  marks_others = record {
    owned = elsewhere;
    dead = λ id e. let none : is_some (owner_of marks id) ≡ false = ap is_some e in sym (owned.same id ∙ lives id) ∙ none;
    holds = holds;
  }

  pub visit_flaw : (flaw : Flaw) → VisitFlaw payload G marks held s.id s.attr.kind s.parent flaw → HasFlaw payload root live G flaw
  visit_flaw flaw f =
      let here = among_right (map site_of seats) (s ∷ rest) s (inl refl) in
      of_visit flaw (reached_at payload root G seats (s ∷ rest) found trees s.path s here refl) f
    where
      of_visit : (flaw : Flaw) → IsReached payload G root s.path s.attr.kind s.id s.parent → VisitFlaw payload G marks held s.id s.attr.kind s.parent flaw → HasFlaw payload root live G flaw
      of_visit (BadNode bad) reached f = walk_flaw payload root live G s.path s.attr.kind s.id s.parent marks held reached marks_others (BadNode bad) f
      of_visit (Twice bad) reached f = walk_flaw payload root live G s.path s.attr.kind s.id s.parent marks held reached marks_others (Twice bad) f
      of_visit (NotLive bad) reached f = walk_flaw payload root live G s.path s.attr.kind s.id s.parent marks held reached marks_others (NotLive bad) f
      of_visit (Unowned bad) reached f = absurd f
      of_visit (BadBlob bad) reached f =
          subst (HasBadBlob payload root G) (sym f.0) (record { path = s.path; kind = s.attr.kind; parent = s.parent; reached = reached; bytes = f.1.bytes; ids = f.1.ids; tree = f.1.tree; unfit = f.1.unfit })
      of_visit (Parent bad) reached f =
          subst (HasParent payload root G) (sym f.0)
          (record { path = s.path; kind = s.attr.kind; parent = s.parent; reached = reached; other = f.1.other; wide = f.1.wide; body = f.1.body; ids = f.1.ids; tree = f.1.tree; differs = f.1.differs })

-- ---- the whole

pub stopped_next : {S : Type 0} {loads : S → S → Id → LoadAnswer → Type 0} {payload : ℕ} {root : Id} {a b c : S} {old marks new : MarkList} {places : List PlaceText} {number : ℕ} {halt : Halt} (held now : Content)
    → (v : Visited loads payload root a b old marks places number) (s : Site) → slice_get (sites_of root places) number ≡ Some s → ((id : Id) → is_some (now id) ≡ is_some (held id))
    → Halted loads (number + 1) b c marks new halt (λ C flaw. VisitFlaw payload C marks now s.id s.attr.kind s.parent flaw) → IsStopped loads payload root held a c old halt
stopped_next {S = S} {loads = loads} {payload = payload} {root = root} {a = a} {b = b} {c = c} {old = old} {marks = marks} {new = new} {places = places} {number = number} {halt = halt} held now v s at same h = record {
  asked = asked;
  by = asked-then loads a b c (asked_of v.given) h.asked (gave-asked loads a b v.given v.gave) h.by;
  once = once;
  marked = λ q e. elim (in_one (map (λ a. a.0) h.asked) (map (λ a. a.0) (asked_of v.given)) q (sym (ap (λ xs. has_id xs q) ids) ∙ e)) [
    | inl here ↦ sym (v.owned.same q) ∙ ap is_some (was q here)
    | inr later ↦ let o = v.owned.loaded q (sym (ap (λ xs. has_id xs q) (asked-ids v.given)) ∙ later.1) in sym (v.owned.same q) ∙ ap is_some o.1
  ];
  why = λ live lives holds.
      let parts = agrees-parts G (given_of h.asked) v.given (subst (AgreesWith G) given_is (agrees_self (given_of asked) (given_once asked once))) in
      on_found halt (visit_flaw payload root live G v.seats s first.0 (subst (AreFound root v.seats) first.1 v.found) (v.trees G parts.1) old marks v.given v.owned now lives (λ id. same id ∙ holds id)) (h.why G parts.0);
}
  where
    asked : Asked
    asked = h.asked ++ asked_of v.given

    G : Content
    G = content_of (given_of asked)

    first : (rest : List Site) × (v.pending ≡ s ∷ rest)
    first = next_site v.seats v.pending (sites_of root places) number s v.table v.count at

    ids : map (λ (a : Id × LoadAnswer). a.0) asked ≡ map (λ (a : Id × LoadAnswer). a.0) h.asked ++ map (λ (a : Id × LoadAnswer). a.0) (asked_of v.given)
    ids = map-append (λ (a : Id × LoadAnswer). a.0) h.asked (asked_of v.given)

    given_is : given_of asked ≡ given_of h.asked ++ v.given
    given_is = given-then (asked_of v.given) h.asked ∙ ap (λ gs. given_of h.asked ++ gs) (asked-again v.given)

    in_ids : (q : Id) → has_id (map (λ (a : Id × LoadAnswer). a.0) h.asked) q ≡ true → has_id h.ids q ≡ true
    in_ids q e = sym (has-reverse h.ids q) ∙ (sym (ap (λ xs. has_id xs q) h.once) ∙ e)

    was : (q : Id) → has_id (map (λ (a : Id × LoadAnswer). a.0) h.asked) q ≡ true → owner_of marks q ≡ Some 0
    was q e = h.marked.was q (in_ids q e)

    apart : (q : Id) → has_id (map (λ (a : Id × LoadAnswer). a.0) h.asked) q ≡ true → (b : Bool) → has_id (map (λ (a : Id × LoadAnswer). a.0) (asked_of v.given)) q ≡ b → b ≡ false
    apart q e true there = let o = v.owned.loaded q (sym (ap (λ xs. has_id xs q) (asked-ids v.given)) ∙ there) in absurd (more_than_none o.0 (sym o.1 ∙ was q e))
    apart q e false there = refl

    once : NoDoubles (map (λ (a : Id × LoadAnswer). a.0) asked)
    once = subst NoDoubles (sym ids)
        (alone-join (map (λ (a : Id × LoadAnswer). a.0) h.asked) (map (λ (a : Id × LoadAnswer). a.0) (asked_of v.given)) (subst NoDoubles (sym h.once) (alone-reverse h.ids h.alone)) (subst NoDoubles (sym (asked-ids v.given)) v.owned.once)
        (λ q e. apart q e (has_id (map (λ (a : Id × LoadAnswer). a.0) (asked_of v.given)) q) refl))

-- the same by what was read from the table
pub stopped_read : {S : Type 0} {loads : S → S → Id → LoadAnswer → Type 0} {payload size : ℕ} {root : Id} {a b c : S} {old marks new : MarkList} {places : List PlaceText} {number : ℕ} {halt : Halt} (held now : Content)
    → (v : Visited loads payload root a b old marks places number) (what : Visit) → Some (visit_needs what) ≡ option_map site_needs (slice_get (sites_of root places) number) → ((id : Id) → is_some (now id) ≡ is_some (held id)) → size ≡ payload
    → Halted loads (number + 1) b c marks new halt (λ C flaw. VisitFlaw size C marks now what.id.0 what.kind what.parent.0 flaw) → IsStopped loads payload root held a c old halt
stopped_read {loads = loads} {payload = payload} {root = root} {b = b} {c = c} {marks = marks} {new = new} {places = places} {number = number} {halt = halt} held now v what read same sized h =
    let s = mapped_some site_needs (slice_get (sites_of root places) number) (visit_needs what) read in
    let one = subst (λ n. Halted loads (number + 1) b c marks new halt (λ C flaw. VisitFlaw n C marks now what.id.0 what.kind what.parent.0 flaw)) sized h in
    stopped_next held now v s.0 s.1.0 same (subst (λ (z : Id × (Kind × Id)). Halted loads (number + 1) b c marks new halt (λ C flaw. VisitFlaw payload C marks now z.0 z.1.0 z.1.1 flaw)) (sym s.1.1) one)

-- no visit stopped, and no more follow
pub stopped_end : {S : Type 0} {loads : S → S → Id → LoadAnswer → Type 0} {payload : ℕ} {root : Id} {a b : S} {old marks : MarkList} {places : List PlaceText} {number : ℕ} {fail : Fail} (held : Content) → Visited loads payload root a b old marks places number
    → IsStopped loads payload root held a b old (Failing fail)
stopped_end {loads = loads} {a = a} {b = b} {old = old} held v = record {
  asked = asked_of v.given;
  by = gave-asked loads a b v.given v.gave;
  once = subst NoDoubles (sym (asked-ids v.given)) v.owned.once;
  marked = λ q e. let o = v.owned.loaded q (sym (ap (λ xs. has_id xs q) (asked-ids v.given)) ∙ e) in sym (v.owned.same q) ∙ ap is_some o.1;
  why = λ live lives holds. tt;
}
