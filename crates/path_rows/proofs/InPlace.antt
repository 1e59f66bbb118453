-- A row that gets another name in its directory, over blobs.
use Rattle.std.proofs.Common.{◌≡◌, ℕ, ◌≤◌, true, false, List, ◌∷◌, length, refl, sym, ◌∙◌, ap, subst, inl, inr, arith}
use Rattle.std.specs.Prelude.{is_some, cond}
use Rattle.std.specs.FinMap.{get, find, insert, put}
use Rattle.std.specs.declared.option.Option.{Option}
use Rattle.std.specs.declared.option.Option.TheVariants.{None, Some}
use Rattle.path_walks.specs.blob_api.BlobMap.{Id, BlobMap, BlobHoldings}
use Rattle.fs_model.specs.declared.limits.TheConstants.{MAX_ENTRIES}
use Rattle.fs_model.specs.declared.attr.Kind.TheVariants.{Directory}
use Rattle.fs_model.specs.Tree.{name_cmp, same_path}
use Rattle.fs_model.proofs.TreeLemmas.{same_name, name_same, name_split, name_apart}
use Rattle.fs_model.proofs.MovedTree.{parent_off_p}
use Rattle.path_walks.specs.fs_blobs.Headers.{blob}
use Rattle.path_walks.specs.dir_entries.Layout.{EntryTarget, Listing, body_of, IsListing}
use Rattle.path_walks.specs.dir_entries.Places.{without}
use Rattle.path_walks.specs.dir_entries.Renaming.{renamed}
use Rattle.path_walks.specs.dir_blob.Directories.{HasBoth, HasBothIn, HasEntries}
use Rattle.path_walks.proofs.dir_blob_lemmas.Needs.{insert_again}
use Rattle.path_walks.specs.Nodes.{Lists}
use Rattle.path_walks.specs.Shows.{above, target_for, entries_at}
use Rattle.path_walks.proofs.Shown.{same_last}
use Rattle.path_walks.proofs.Moved.{from_without, onto_with, ids_moved, look_off, qd_off_q}
use Rattle.path_walks.specs.declared.spots.Occupancy.{Occupancy}
use Rattle.path_rows.specs.Moves.{Moving}
use Rattle.path_walks.proofs.Nodes.{lists_at, entries_with, read_is}
use Rattle.path_walks.proofs.Sizes.{sizes_shown, body_size}
use Rattle.path_rows.proofs.Edits.{entries_without, lists_without, without_is}
use Rattle.path_rows.proofs.Relocated.{IsOnTheWay, home, looks1, looks2, next, target, target_is, row_from, row_to, has_name}

-- one name goes and another comes, in either order
swapped : (n q k : List ℕ) (x : EntryTarget) (o : Option EntryTarget) → (n ≡ q → ⊥) → cond (same_name k n) None (cond (same_name k q) (Some x) o) ≡ cond (same_name k q) (Some x) (cond (same_name k n) None o)
swapped n q k x o differ = elim (name_split k q) as (λ _. cond (same_name k n) None (cond (same_name k q) (Some x) o) ≡ cond (same_name k q) (Some x) (cond (same_name k n) None o)) [
  | inl is ↦
      let yes : same_name k q ≡ true = ap (λ z. same_name z q) is ∙ name_same q in
      let no : same_name k n ≡ false = name_apart k n (λ z. differ (sym z ∙ is)) in
      ap (λ b. cond b None (cond (same_name k q) (Some x) o)) no
      ∙ (ap (λ b. cond b (Some x) o) yes
      ∙ sym (ap (λ b. cond b (Some x) (cond (same_name k n) None o)) yes))
  | inr apart ↦
      let no : same_name k q ≡ false = name_apart k q apart in
      ap (λ b. cond (same_name k n) None (cond b (Some x) o)) no
      ∙ sym (ap (λ b. cond b (Some x) (cond (same_name k n) None o)) no)
]

module _ {S : Type 0} {H : BlobHoldings S} {a : S} {from : Occupancy} {to : Id} {body : List ℕ} {e : List ℕ × EntryTarget} (w : Moving H a from to body e) (same : from.dir.place.blob.0 ≡ to) where
  abbrev n : List ℕ
  n = from.name.now

  one_path : w.above ≡ w.below
  one_path = w.shows.forest.distinct w.above w.below (ap is_some (row_from w).there) (ap is_some (row_to w).there) (w.from_id ∙ (same ∙ sym w.to_id))

  abbrev pub listing : Listing
  listing = (has_name w).is.listing

  looks_here : (k : List ℕ) → find name_cmp k listing ≡ entries_at w.tree w.ids w.above k
  looks_here k = (lists_at w.shows w.above (row_from w).row (row_from w).there (row_from w).kind).entries k

  pub none_here : find name_cmp e.0 listing ≡ None
  none_here = looks_here e.0 ∙ ap (target_for (w.ids (e.0 ∷ w.above))) (ap (λ d. get w.tree (e.0 ∷ d)) one_path ∙ w.free)

  names_differ : n ≡ e.0 → ⊥
  names_differ is = w.can.differ (ap (λ z. z ∷ w.above) is ∙ ap (λ d. e.0 ∷ d) one_path)

  -- what stands under each name afterwards
  found_renamed : (k : List ℕ) → find name_cmp k (renamed n e listing) ≡ cond (same_name k e.0) (Some (target w)) (looks1 w w.below k)
  found_renamed k =
      entries_without (put name_cmp e.0 e.1 listing) n k
      ∙ (ap (cond (same_name k n) None) (entries_with listing e.0 e.1 k)
      ∙ (swapped n e.0 k e.1 (find name_cmp k listing) names_differ
      ∙ (ap (λ z. cond (same_name k e.0) (Some z) (cond (same_name k n) None (find name_cmp k listing))) (sym (target_is w))
      ∙ ap (cond (same_name k e.0) (Some (target w)))
      (ap (cond (same_name k n) None) (looks_here k)
      ∙ (ap (λ b. cond b None (entries_at w.tree w.ids w.above k)) (sym (same_last k n w.above))
      ∙ ap (λ d. cond (same_path (k ∷ d) (n ∷ w.above)) None (entries_at w.tree w.ids d k)) one_path)))))

  pub room_here : IsListing (renamed n e listing) → length (body_of (renamed n e listing)) ≤ MAX_ENTRIES
  room_here is =
      let found = λ (k : List ℕ). found_renamed k
      ∙ (ap (λ z. cond z (Some (target w)) (looks1 w w.below k)) (sym (same_last k e.0 w.below))
      ∙ look_off w.map w.root w.tree w.ids w.shows w.now n w.above e.0 w.below w.row w.can w.free w.below
      (qd_off_q w.map w.root w.tree w.ids w.shows w.now n w.above e.0 w.below w.row w.can w.free)
      (parent_off_p w.tree w.now n w.above e.0 w.below w.row w.can) k) in
      let size = sizes_shown (next w) (ids_moved w.map w.root w.tree w.ids w.shows w.now n w.above e.0 w.below w.row w.can w.free) w.below (renamed n e listing) is.order found in
      omega (arith, body_size (renamed n e listing) is.entries, size, w.well_formed.directories w.below)

  -- the directory has the name, and room for the other one
  abbrev pub has_both : HasBoth H a (home w) n e
  has_both = record { is = (has_name w).is; target = (has_name w).target; present = (has_name w).present; absent = none_here; room = room_here }

  -- the body that was read is the directory's
  pub body_here : body ≡ body_of listing
  body_here =
      read_is w.shows w.above (row_from w).row (row_from w).there (row_from w).kind body (subst (λ d. Lists (entries_at w.tree w.ids d) body) (sym one_path) w.lists)

  abbrev pub has_both_in : (read : List ℕ) → read ≡ body → HasBothIn H a (home w) read n e
  has_both_in read e2 = record { both = has_both; text = e2 ∙ body_here }

  abbrev pub map1 : BlobMap
  map1 = insert w.map (w.ids w.above) (blob Directory (above w.ids w.above) (body_of (without n listing)))

  pub stays : (c : S) → HasEntries H c w.map (home w) (above w.ids w.above) (renamed n e listing) → IsOnTheWay H c w.tree w.ids (looks2 w)
  stays c h =
      let listed : List ℕ = body_of (renamed n e listing) in
      let first = from_without w.map w.root w.tree w.ids w.shows w.now n w.above e.0 w.below w.row w.can w.free (body_of (without n listing))
      (lists_without (entries_at w.tree w.ids w.above) listing n looks_here (without_is n listing (has_name w).is.entries)) in
      let lists : Lists (λ k. cond (same_name k e.0) (Some (target w)) (looks1 w w.below k)) listed =
      record { listing = renamed n e listing; is = record { entries = h.entries; text = refl }; entries = found_renamed } in
      let here : H.stands_for c (insert w.map (w.ids w.above) (blob Directory (above w.ids w.above) listed)) = subst (λ z. H.stands_for c (insert w.map z (blob Directory (above w.ids w.above) listed))) (sym w.from_id) h.stands in
      let twice : H.stands_for c (insert map1 (w.ids w.above) (blob Directory (above w.ids w.above) listed)) =
      subst (H.stands_for c) (sym (insert_again w.map (w.ids w.above) (blob Directory (above w.ids w.above) (body_of (without n listing))) (blob Directory (above w.ids w.above) listed))) here in
      record {
        map = insert map1 (w.ids w.below) (blob Directory (above w.ids w.below) listed);
        stands = subst (λ d. H.stands_for c (insert map1 (w.ids d) (blob Directory (above w.ids d) listed))) one_path twice;
        forest = onto_with w.map w.root w.tree w.ids w.shows w.now n w.above e.0 w.below w.row w.can w.free map1 first listed lists;
      }
