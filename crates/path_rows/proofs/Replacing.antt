-- A move onto something: it goes, and then its path is free.
use Rattle.std.proofs.Common.{◌≡◌, ℕ, ◌≤◌, List, [], ◌∷◌, length, refl, sym, ◌∙◌, ap, subst, arith, inl, inr, cond}
use Rattle.std.specs.FinMap.{find, get, remove}
use Rattle.std.specs.declared.option.Option.TheVariants.{None, Some}
use Rattle.std.proofs.lemmas.Bool.{le-ltb}
use Rattle.std.proofs.lemmas.Option.{none-some}
use Rattle.path_walks.specs.blob_api.BlobMap.{Id, BlobHoldings}
use Rattle.fs_model.specs.declared.limits.TheConstants.{MAX_ENTRIES}
use Rattle.fs_model.specs.declared.error.FsError.TheVariants.{TooLarge}
use Rattle.fs_model.specs.declared.reply.Reply.{Reply}
use Rattle.fs_model.specs.Instant.{Instant}
use Rattle.fs_model.specs.Tree.{Path, Tree, name_cmp, directory_size, IsWellFormed}
use Rattle.fs_model.specs.Step.{refused, done, touched, moved_tree, moved_unless_large}
use Rattle.fs_model.proofs.TreeLemmas.{same_name, path_split, remove_here, remove_apart}
use Rattle.fs_model.proofs.MovedSize.{size_within_found, size_across_found}
use Rattle.fs_model.proofs.PutRows.{remove_bare}
use Rattle.path_walks.proofs.Moved.{moved_after, can_move_after}
use Rattle.path_walks.specs.declared.spots.Occupancy.{Occupancy}
use Rattle.path_walks.specs.declared.spots.Place.{Place}
use Rattle.path_walks.proofs.Places.{still_at}
use Rattle.path_walks.specs.Showing.{IsShownBy, PerformedBy}
use Rattle.path_walks.specs.Sights.{IsAt}
use Rattle.path_walks.specs.dir_entries.Layout.{EntryTarget, body_of}
use Rattle.path_walks.specs.dir_entries.Places.{without}
use Rattle.path_walks.specs.Nodes.{Lists}
use Rattle.path_walks.specs.Shows.{entries_at, target_for}
use Rattle.path_rows.specs.Changes.{Dropping}
use Rattle.path_rows.specs.Moves.{Heading, Replacing}
use Rattle.path_rows.proofs.Edits.{entries_without, without_is, look_gone, tails}

module _ {S : Type 0} {H : BlobHoldings S} {a : S} {now : Instant} {from to : Occupancy} (w : Replacing H a now from to) where
  abbrev n : List ℕ
  n = from.name.now

  abbrev k : List ℕ
  k = to.name.now

  abbrev pub q : Path
  q = k ∷ w.below

  abbrev pub rest : Tree
  rest = remove w.tree q

  pub formed : IsWellFormed rest
  formed = remove_bare w.tree k w.below w.shows.well_formed (λ m. w.can.bare [] m)

  -- the row that goes
  abbrev pub dropping : Dropping H a to.dir.place.blob.0 to.body.items k to.place.blob.0
  dropping = record {
    map = w.map;
    stands = w.stands;
    root = w.root;
    tree = w.tree;
    ids = w.ids;
    shows = w.shows;
    path = w.below;
    row = w.old_at.row;
    there = w.old_at.there;
    dir_id = w.to_at.blob;
    blob_id = w.old_at.blob;
    lists = w.lists;
    well_formed = formed;
  }

  -- what stands elsewhere stays
  pub stays : (p : Path) (x : Place) → (p ≡ q → ⊥) → IsAt w.tree w.ids p x → IsAt rest w.ids p x
  stays p x differ at =
      still_at w.tree rest w.ids w.ids p x formed.rooted (remove_apart w.tree q p differ) refl (λ m d e. refl) at

  off_above : w.above ≡ q → ⊥
  off_above e = none-some w.row (sym (w.can.bare [] n) ∙ (ap (λ z. get w.tree (n ∷ z)) (sym e) ∙ w.can.here))

  pub from_stays : IsAt rest w.ids w.above from.dir.place
  from_stays = stays w.above from.dir.place off_above w.from_at

  pub place_stays : IsAt rest w.ids (n ∷ w.above) from.place
  place_stays = stays (n ∷ w.above) from.place w.can.differ w.place_at

  pub to_stays : IsAt rest w.ids w.below to.dir.place
  to_stays = stays w.below to.dir.place (λ e. omega (arith, ap length e)) w.to_at

  -- the body of its directory without it
  abbrev pub target : EntryTarget
  target = record { attr = w.old_at.row.attr; blob = w.ids q }

  pub present : find name_cmp k w.lists.listing ≡ Some target
  present = w.lists.entries k ∙ ap (target_for (w.ids q)) w.old_at.there

  pub lists_left : (left : List ℕ) → left ≡ body_of (without k w.lists.listing) → Lists (entries_at rest w.ids w.below) left
  lists_left left text = record {
    listing = without k w.lists.listing;
    is = record { entries = without_is k w.lists.listing w.lists.is.entries; text = text };
    entries = λ m. entries_without w.lists.listing k m ∙ (ap (cond (same_name m k) None) (w.lists.entries m) ∙ look_gone w.tree w.ids k w.below m);
  }

  -- that of another one stays
  pub from_lists : (from.dir.place.blob.0 ≡ to.dir.place.blob.0 → ⊥) → Lists (entries_at rest w.ids w.above) from.body.items
  from_lists apart = record {
    listing = w.left.listing;
    is = w.left.is;
    entries = λ m. w.left.entries m
        ∙ ap (target_for (w.ids (m ∷ w.above))) (sym (remove_apart w.tree q (m ∷ w.above) (λ e. apart (sym w.from_at.blob ∙ (ap w.ids (tails m k w.above w.below e) ∙ w.to_at.blob)))));
  }

  -- and the path is free
  abbrev pub heading : (b : S) → IsShownBy H b w.root rest w.ids → (left : List ℕ) → left ≡ body_of (without k w.lists.listing) → Heading H b now from to.dir k left
  heading b h left text = record {
    map = h.map;
    stands = h.stands;
    root = w.root;
    tree = rest;
    ids = w.ids;
    shows = h.shows;
    above = w.above;
    below = w.below;
    row = w.row;
    can = can_move_after w.tree n w.above k w.below w.row w.can;
    free = remove_here w.tree q;
    from_names = w.from_names;
    to_names = w.to_names;
    from_at = from_stays;
    place_at = place_stays;
    to_at = to_stays;
    folder = w.folder;
    left = from_lists;
    lists = lists_left left text;
  }

  abbrev next : Tree
  next = moved_tree w.tree now (n ∷ w.above) q w.row

  small : directory_size next w.below ≤ MAX_ENTRIES
  small = elim (path_split w.above w.below) [
    | inl e ↦ let size = size_within_found w.tree now n w.above k w.below w.row w.can w.old_at.row e w.old_at.there in omega (arith, size, w.shows.well_formed.directories w.below)
    | inr d ↦ let size = size_across_found w.tree now n w.above k w.below w.row w.can w.old_at.row d w.old_at.there in omega (arith, size, w.shows.well_formed.directories w.below)
  ]

  same_step : moved_unless_large rest now (n ∷ w.above) q (moved_tree rest now (n ∷ w.above) q w.row) ≡ moved_unless_large w.tree now (n ∷ w.above) q next
  same_step =
      ap (moved_unless_large rest now (n ∷ w.above) q) (moved_after w.tree now (n ∷ w.above) q w.row)
      ∙ (ap (λ z. cond z (refused rest TooLarge) (done (touched (touched next now w.above) now w.below))) (le-ltb MAX_ENTRIES (directory_size next w.below) small)
      ∙ sym (ap (λ z. cond z (refused w.tree TooLarge) (done (touched (touched next now w.above) now w.below))) (le-ltb MAX_ENTRIES (directory_size next w.below) small)))

  pub replaced_then : (c : S) (r : Reply) (ids : Path → Id) → PerformedBy H c w.root (moved_unless_large rest now (n ∷ w.above) q (moved_tree rest now (n ∷ w.above) q w.row)) r ids → PerformedBy H c w.root (moved_unless_large w.tree now (n ∷ w.above) q next) r ids
  replaced_then c r ids h = subst (λ s. PerformedBy H c w.root s r ids) same_step h
