-- What a walk and a look came to, as the model's look-up says it.
use Rattle.std.proofs.Common.{◌≡◌, ℕ, List, [], ◌∷◌, refl, ◌∙◌, ap, subst}
use Rattle.std.specs.Prelude.{Vec}
use Rattle.std.specs.declared.alloc.Global.{Global}
use Rattle.std.specs.declared.option.Option.TheVariants.{Some}
use Rattle.std.proofs.lemmas.Option.{same_Some, none-some}
use Rattle.dir_blob.specs.blob_api.BlobMap.{Id, BlobMap, BlobHoldings}
use Rattle.fs_model.specs.declared.error.FsError.{FsError}
use Rattle.fs_model.specs.declared.error.FsError.TheVariants.{NoEntry}
use Rattle.fs_model.specs.Tree.{Path, Tree, upward, IsRooted, root_row}
use Rattle.fs_model.specs.LookUp.{LookedUp, Found, Free, Bad, look, walk}
use Rattle.fs_model.specs.Step.{Stepped, refused}
use Rattle.fs_model.proofs.LookUpLemmas.{look-walk, look-found}
use Rattle.path_walks.specs.Shows.{ShowsBy}
use Rattle.path_walks.specs.Showing.{BlobsShow}
use Rattle.path_walks.specs.declared.spots.Occupancy.{Occupancy}
use Rattle.path_walks.specs.declared.spots.Place.{Place}
use Rattle.path_walks.specs.declared.spots.Sight.{Sight}
use Rattle.path_walks.specs.declared.spots.Sight.TheVariants as sight
use Rattle.path_walks.specs.Sights.{SightIs, IsFound, IsFoundIn, IsOpen, IsVacant, Finding}
use Rattle.path_walks.proofs.Steps.{walk_free}
use Rattle.path_walks.specs.Reaching.{IsRow, refusal}

-- ---- sights

abbrev pub found : (t : Tree) (ids : Path → Id) (p : Path) (n : List ℕ) (seen : Sight) → SightIs t ids p n seen → (dir place : Place) (body : Vec ℕ Global) → seen ≡ sight.Found dir place body → IsFoundIn t ids p n dir place body.items
found t ids p n seen h dir place body is = subst (SightIs t ids p n) is h

abbrev pub vacant : (t : Tree) (ids : Path → Id) (p : Path) (n : List ℕ) (seen : Sight) → SightIs t ids p n seen → (dir : Place) (body : Vec ℕ Global) → seen ≡ sight.Vacant dir body → IsOpen t ids p n dir body.items
vacant t ids p n seen h dir body is = subst (SightIs t ids p n) is h

abbrev pub lost : (t : Tree) (ids : Path → Id) (p : Path) (n : List ℕ) (seen : Sight) → SightIs t ids p n seen → (e : FsError) → seen ≡ sight.Lost e → walk t (n ∷ p) ≡ Bad e
lost t ids p n seen h e is = subst (SightIs t ids p n) is h

module _ {m : BlobMap} {root : Id} {t : Tree} {ids : Path → Id} (shows : ShowsBy m root t ids) (p : Path) (n : List ℕ) where
  pub look_found : (dir place : Place) (is : IsFound t ids p n dir place) → look t (n ∷ p) ≡ Found is.here.row
  look_found dir place is = look-found t (n ∷ p) is.here.row is.here.there

  pub look_free : (dir : Place) → IsVacant t ids p n dir → look t (n ∷ p) ≡ Free
  look_free dir is = look-walk t shows.well_formed.rooted (n ∷ p) ∙ walk_free shows p dir is.above is.folder n is.none

  pub look_lost : (e : FsError) → walk t (n ∷ p) ≡ Bad e → look t (n ∷ p) ≡ Bad e
  look_lost e h = look-walk t shows.well_formed.rooted (n ∷ p) ∙ h

-- a step at a path, by the parts of the path and what stands there
pub on_path : {T : Type 0} (t : Tree) (f : Path → LookedUp → T) (p q : Path) (s : LookedUp) → p ≡ q → look t q ≡ s → f p (look t p) ≡ f q s
on_path t f p q s e h = ap (λ z. f z (look t z)) e ∙ ap (f q) h

-- ---- what a path comes to

module _ (t : Tree) (f : Path → LookedUp → Stepped) (at_root e : FsError) (root : f [] (Found root_row) ≡ refused t at_root) (free : (n : List ℕ) (d : Path) → f (n ∷ d) Free ≡ refused t NoEntry)
    (bad : (n : List ℕ) (d : Path) (x : FsError) → f (n ∷ d) (Bad x) ≡ refused t x) where
  refused_by : (p : Path) (s : LookedUp) → (p ≡ [] → s ≡ Found root_row) → refusal at_root p s ≡ Some e → f p s ≡ refused t e
  refused_by [] s rooted is = ap (f []) (rooted refl) ∙ (root ∙ ap (refused t) (same_Some at_root e is))
  refused_by (n ∷ d) Free rooted is = free n d ∙ ap (refused t) (same_Some NoEntry e is)
  refused_by (n ∷ d) (Bad x) rooted is = bad n d x ∙ ap (refused t) (same_Some x e is)
  refused_by (n ∷ d) (Found row) rooted is = absurd (none-some e is)

  -- a step that refuses the root, a free path and a bad one
  pub on_refused : IsRooted t → (p : Path) → refusal at_root p (look t p) ≡ Some e → f p (look t p) ≡ refused t e
  on_refused rooted p is = refused_by p (look t p) (λ at. ap (look t) at ∙ look-found t [] root_row rooted.root) is

-- ---- rows

abbrev pub row_finding : {S : Type 0} {H : BlobHoldings S} {a : S} {root : Id} (w : BlobsShow H a root) (b : S) → H.stands_for b w.map → {p : Path} {at : Occupancy} → IsRow w.tree w.ids p at → Finding H b at
row_finding {root = root} w b stands {at = at} row = record {
  map = w.map;
  stands = stands;
  root = root;
  tree = w.tree;
  ids = w.ids;
  shows = w.shows;
  path = upward at.dir.names.now;
  names = refl;
  is = row.is;
  lists = row.lists;
}

-- a step at the path of a row
pub on_row : {t : Tree} {ids : Path → Id} (f : Path → LookedUp → Stepped) {p : Path} {at : Occupancy} (row : IsRow t ids p at) → f p (look t p) ≡ f (at.name.now ∷ upward at.dir.names.now) (Found row.is.here.row)
on_row {t = t} f {p = p} {at = at} row =
    let q = at.name.now ∷ upward at.dir.names.now in
    on_path t f p q (Found row.is.here.row) row.split (look-found t q row.is.here.row row.is.here.there)
