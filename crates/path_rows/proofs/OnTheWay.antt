-- A row on its way to another path.
use Rattle.std.proofs.Common.{◌≡◌, ℕ, true, false, List, [], ◌∷◌, length, refl, sym, ◌∙◌, ap, subst, arith}
use Rattle.std.specs.Prelude.{◌==◌}
use Rattle.path_walks.specs.blob_api.BlobMap.{Id, BlobHoldings}
use Rattle.fs_model.specs.declared.attr.Attr.{Attr}
use Rattle.fs_model.specs.Instant.{Instant}
use Rattle.fs_model.specs.Tree.{Path, upward, is_directory, is_root, same_path}
use Rattle.fs_model.specs.Move.{CanMove, is_above}
use Rattle.fs_model.specs.LookUp.{LookedUp, Found, look}
use Rattle.fs_model.specs.Step.{Stepped, moved_to, moved_onto, moved_tree, moved_unless_large}
use Rattle.fs_model.proofs.LookUpLemmas.{look-found}
use Rattle.fs_model.proofs.WellFormedStep.{can_move_free, can_move_found}
use Rattle.path_walks.specs.Shows.{ShowsBy}
use Rattle.path_walks.specs.Showing.{BlobsShow, PerformedBy, Performed}
use Rattle.fs_model.proofs.PathLemmas.{not_root}
use Rattle.path_walks.specs.declared.spots.Folder.{Folder}
use Rattle.path_walks.specs.declared.spots.Occupancy.{Occupancy}
use Rattle.path_walks.specs.declared.spots.Place.{Place}
use Rattle.path_walks.specs.Reaching.{IsRow}
use Rattle.path_walks.specs.Sights.{Finding, IsAt, IsFound, IsFoundIn, IsOpen, Standing}
use Rattle.path_rows.specs.Moves.{Heading, Replacing}
use Rattle.path_rows.specs.Onward.{Leaving, Onward, Lets}
use Rattle.path_walks.proofs.Seeing.{look_found, look_free, on_path, row_finding}
use Rattle.path_rows.proofs.Steps.{onto_by, onto_unless}
use Rattle.fs_model.specs.declared.reply.Reply.{Reply}

pub no_names : (ns : List (List ℕ)) → length ns ≡ 0 → is_root (upward ns) ≡ true
no_names [] e = refl
no_names (n ∷ ns) e = absurd (omega arith)

pub not_empty : (ns : List (List ℕ)) → (length ns == 0) ≡ false → is_root (upward ns) ≡ false
not_empty [] e = let bad : true ≡ false = e in cc
not_empty (n ∷ ns) e = not_root (n ∷ ns) (omega arith)

-- a row that was found sets out
abbrev pub onward : {S : Type 0} {H : BlobHoldings S} {a : S} {root : Id} {at : Occupancy} (n : BlobsShow H a root) (b : S) → H.stands_for b n.map → {p : Path} → IsRow n.tree n.ids p at
    → (q : Path) → is_above p q ≡ false → is_root q ≡ false → same_path p q ≡ false → Onward H b root at q
onward n b stands row q off off_root differ = record {
  leaving = record { finding = row_finding n b stands row; from = refl };
  off = ap (λ z. is_above z q) (sym row.split) ∙ off;
  off_root = off_root;
  differ = ap (λ z. same_path z q) (sym row.split) ∙ differ;
}

-- the tree in which it was found
abbrev pub showing : {S : Type 0} {H : BlobHoldings S} {a : S} {root : Id} {at : Occupancy} → Leaving H a root at → BlobsShow H a root
showing l = record { map = l.finding.map; stands = l.finding.stands; tree = l.finding.tree; ids = l.finding.ids; shows = subst (λ z. ShowsBy l.finding.map z l.finding.tree l.finding.ids) l.from l.finding.shows }

module _ {S : Type 0} {H : BlobHoldings S} {a : S} {root : Id} {at : Occupancy} {q : Path} (w : Onward H a root at q) where
  abbrev pub it : Finding H a at
  it = w.leaving.finding

  abbrev pub p : Path
  p = at.name.now ∷ it.path

  pub look_here : look it.tree p ≡ Found it.is.here.row
  look_here = look-found it.tree p it.is.here.row it.is.here.there

  pub not_to_root : q ≡ [] → ⊥
  not_to_root e = let bad : false ≡ true = sym w.off_root ∙ ap is_root e in cc

  module _ (k : List ℕ) (d : Path) (split : q ≡ k ∷ d) where
    pub off : is_above p (k ∷ d) ≡ false
    off = ap (is_above p) (sym split) ∙ w.off

    pub differs : same_path p (k ∷ d) ≡ false
    differs = ap (same_path p) (sym split) ∙ w.differ

    -- the step, by what stands at the other path
    pub going : (now : Instant) (s : LookedUp) → look it.tree (k ∷ d) ≡ s → moved_to it.tree now p q it.is.here.row (look it.tree q) ≡ moved_to it.tree now p (k ∷ d) it.is.here.row s
    going now s h = on_path it.tree (λ z x. moved_to it.tree now p z it.is.here.row x) q (k ∷ d) s split h

    abbrev pub standing : (b : S) → H.stands_for b it.map → (to old : Place) → IsFound it.tree it.ids d k to old → Standing H b old
    standing b stands to old is = record { map = it.map; stands = stands; root = it.root; tree = it.tree; ids = it.ids; shows = it.shows; path = k ∷ d; at = is.here }

    abbrev pub heading : (now : Instant) (b : S) → H.stands_for b it.map → (to : Folder) → d ≡ upward to.names.now → {body : List ℕ} → IsOpen it.tree it.ids d k to.place body → Heading H b now at to k body
    heading now b stands to names is = record {
      map = it.map;
      stands = stands;
      root = it.root;
      tree = it.tree;
      ids = it.ids;
      shows = it.shows;
      above = it.path;
      below = d;
      row = it.is.here.row;
      can = can_move_free it.tree at.name.now it.path k d it.is.here.row it.shows.well_formed.rooted look_here off (look_free it.shows d k to.place is.vacant);
      free = is.vacant.none;
      from_names = it.names;
      to_names = names;
      from_at = it.is.above;
      place_at = it.is.here;
      to_at = is.vacant.above;
      folder = is.vacant.folder;
      left = λ apart. it.lists;
      lists = is.lists;
    }

    module _ (to old : Place) (is : IsFound it.tree it.ids d k to old) where
      pub look_there : look it.tree (k ∷ d) ≡ Found is.here.row
      look_there = look_found it.shows d k to old is

      pub kinds : (now : Instant) (s : Stepped) → moved_onto it.tree (k ∷ d) (is_directory it.is.here.row.attr.kind) (is_directory is.here.row.attr.kind) s ≡ moved_onto it.tree (k ∷ d) (is_directory at.place.attr.kind) (is_directory old.attr.kind) s
      kinds now s = onto_by it.tree (k ∷ d) (is_directory it.is.here.row.attr.kind) (is_directory is.here.row.attr.kind) s (is_directory at.place.attr.kind) (is_directory old.attr.kind)
          (ap (λ (x : Attr). is_directory x.kind) (sym it.is.here.attr)) (ap (λ (x : Attr). is_directory x.kind) (sym is.here.attr))

      -- onto another row
      pub going_onto : (now : Instant)
          → moved_to it.tree now p q it.is.here.row (look it.tree q) ≡ moved_onto it.tree (k ∷ d) (is_directory at.place.attr.kind) (is_directory old.attr.kind) (moved_unless_large it.tree now p (k ∷ d) (moved_tree it.tree now p (k ∷ d) it.is.here.row))
      going_onto now =
          going now (Found is.here.row) look_there
          ∙ (onto_unless it.tree now p (k ∷ d) it.is.here.row is.here.row false differs
          ∙ kinds now (moved_unless_large it.tree now p (k ∷ d) (moved_tree it.tree now p (k ∷ d) it.is.here.row)))

    abbrev pub replacing : (to : Occupancy) (is : IsFoundIn it.tree it.ids d k to.dir.place to.place to.body.items) (now : Instant) (b : S) → H.stands_for b it.map → k ≡ to.name.now → d ≡ upward to.dir.names.now → Lets it.tree (k ∷ d) (is_directory at.place.attr.kind) (is_directory to.place.attr.kind) → Replacing H b now at to
    replacing to is now b stands name names lets = record {
      map = it.map;
      stands = stands;
      root = it.root;
      tree = it.tree;
      ids = it.ids;
      shows = it.shows;
      above = it.path;
      below = d;
      row = it.is.here.row;
      can = subst (λ z. CanMove it.tree at.name.now it.path z d it.is.here.row) name
          (can_move_found it.tree at.name.now it.path k d it.is.here.row is.found.here.row it.shows.well_formed.rooted look_here off (look_there to.dir.place to.place is.found) differs lets.bare);
      from_names = it.names;
      to_names = names;
      from_at = it.is.above;
      place_at = it.is.here;
      to_at = is.found.above;
      old_at = subst (λ z. IsAt it.tree it.ids (z ∷ d) to.place) name is.found.here;
      folder = is.found.folder;
      left = it.lists;
      lists = is.lists;
    }

-- the blobs that are named may go unnamed
pub unnamed : {S : Type 0} {H : BlobHoldings S} {b : S} {root : Id} (s : Stepped) (r : Reply) (ids : Path → Id) → PerformedBy H b root s r ids → Performed H b root s r
unnamed s r ids p = record { told = p.told; map = p.shown.map; stands = p.shown.stands; ids = ids; shows = p.shown.shows }
