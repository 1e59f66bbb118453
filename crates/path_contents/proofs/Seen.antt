-- What a walk came to, for a command that only looks.
use Rattle.std.proofs.Common.{◌≡◌, false, [], ◌∷◌, refl, sym, ◌∙◌, ap, subst}
use Rattle.std.specs.FinMap.{get}
use Rattle.std.proofs.lemmas.Option.{none-some}
use Rattle.path_walks.specs.blob_api.BlobMap.{Id, BlobHoldings}
use Rattle.fs_model.specs.declared.attr.Kind.TheVariants.{Directory}
use Rattle.fs_model.specs.declared.error.FsError.{FsError}
use Rattle.fs_model.specs.declared.error.FsError.TheVariants.{NoEntry}
use Rattle.fs_model.specs.Tree.{Path, Tree, IsRooted, is_directory}
use Rattle.fs_model.specs.LookUp.{LookedUp, Found, Free, Bad, look, goes_on}
use Rattle.fs_model.specs.Step.{Stepped, refused}
use Rattle.fs_model.proofs.LookUpLemmas.{look-walk, get-found}
use Rattle.path_walks.specs.Shows.{ShowsBy}
use Rattle.path_walks.specs.Showing.{BlobsShow, Performed}
use Rattle.path_walks.specs.declared.spots.Place.{Place}
use Rattle.path_walks.specs.declared.spots.Spot.{Spot}
use Rattle.path_walks.specs.declared.spots.Spot.TheVariants.{Here}
use Rattle.path_walks.specs.Sights.{IsAt, IsWrong, SpotIs, Standing}
use Rattle.path_contents.specs.Listed.{InFolder}
use Rattle.path_contents.specs.Places.{Holding}
use Rattle.fs_model.specs.declared.reply.Reply.{Reply}

bad_same : (x y : FsError) → Bad x ≡ Bad y → x ≡ y
bad_same x y h = cc

-- where nothing stands, each step that refuses what isn't found answers the walk's error
pub wrong_steps : (t : Tree) → IsRooted t → (p : Path) (e : FsError) → IsWrong t p e → (f : LookedUp → Stepped) → f Free ≡ refused t NoEntry → ((x : FsError) → f (Bad x) ≡ refused t x) → f (look t p) ≡ refused t e
wrong_steps t rooted p e wrong f free bad = seen (look t p) refl
  where
    below_is : (s : LookedUp) → look t p ≡ s → goes_on s (get t ([] ∷ p)) ≡ Bad e
    below_is s h = ap (λ z. goes_on z (get t ([] ∷ p))) (sym h ∙ look-walk t rooted p) ∙ wrong.below []

    seen : (s : LookedUp) → look t p ≡ s → f s ≡ refused t e
    seen (Found row) h = absurd (none-some row (sym wrong.none ∙ get-found t p row h))
    seen Free h = free ∙ ap (refused t) (bad_same NoEntry e (below_is Free h))
    seen (Bad x) h = bad x ∙ ap (refused t) (bad_same x e (below_is (Bad x) h))

abbrev pub here : (t : Tree) (ids : Path → Id) (p : Path) (spot : Spot) → SpotIs t ids p spot → (place : Place) → spot ≡ Here place → IsAt t ids p place
here t ids p spot h place is = subst (SpotIs t ids p) is h

module _ {S : Type 0} {H : BlobHoldings S} {a : S} {root : Id} (w : BlobsShow H a root) (b : S) (stands : H.stands_for b w.map) where
  abbrev pub standing : (p : Path) (place : Place) → IsAt w.tree w.ids p place → Standing H b place
  standing p place at = record { map = w.map; stands = stands; root = root; tree = w.tree; ids = w.ids; shows = w.shows; path = p; at = at }

  abbrev pub holding : (p : Path) (place : Place) → IsAt w.tree w.ids p place → is_directory place.attr.kind ≡ false → Holding H b place
  holding p place at plain = record { standing = standing p place at; plain = plain }

  abbrev pub in_folder : (p : Path) (place : Place) → IsAt w.tree w.ids p place → place.attr.kind ≡ Directory → InFolder H b place.blob.0
  in_folder p place at kind = record { place = place; standing = standing p place at; folder = kind; id = refl }

-- the tree stays, which is said of the reply and the tree apart
pub looked : {S : Type 0} {H : BlobHoldings S} {a : S} {root : Id} (w : BlobsShow H a root) (b : S) → H.stands_for b w.map → (s : Stepped) (r : Reply) → r ≡ s.reply → s.tree ≡ w.tree → Performed H b root s r
looked {root = root} w b stands s r told tree = record { told = told; map = w.map; stands = stands; ids = w.ids; shows = subst (λ t. ShowsBy w.map root t w.ids) (sym tree) w.shows }
