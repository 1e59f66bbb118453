-- A place that a change elsewhere leaves as it is.
use Rattle.std.proofs.Common.{◌≡◌, ℕ, List, [], ◌∷◌, refl, sym, ◌∙◌}
use Rattle.std.specs.FinMap.{get}
use Rattle.dir_blob.specs.blob_api.BlobMap.{Id}
use Rattle.fs_model.specs.Tree.{Path, Tree, IsRooted}
use Rattle.fs_model.proofs.LookUpLemmas.{look-walk, look-found}
use Rattle.path_walks.specs.declared.spots.Place.{Place}
use Rattle.path_walks.specs.Sights.{HolderIs, IsAt}

-- the directory above has the blob that it had
pub holder_still : (ids ids2 : Path → Id) (p : Path) (h : Id) → ((n : List ℕ) (d : Path) → p ≡ n ∷ d → ids2 d ≡ ids d) → HolderIs ids p h → HolderIs ids2 p h
holder_still ids ids2 [] h same is = tt
holder_still ids ids2 (n ∷ d) h same is = same n d refl ∙ is

-- the row stays, and the blobs of it and of the directory above
pub still_at : (t t2 : Tree) (ids ids2 : Path → Id) (p : Path) (x : Place) → IsRooted t2 → get t2 p ≡ get t p → ids2 p ≡ ids p → ((n : List ℕ) (d : Path) → p ≡ n ∷ d → ids2 d ≡ ids d) → IsAt t ids p x → IsAt t2 ids2 p x
still_at t t2 ids ids2 p x rooted row own above at =
    let there = row ∙ at.there in
    record {
      row = at.row;
      there = there;
      walked = sym (look-walk t2 rooted p) ∙ look-found t2 p at.row there;
      attr = at.attr;
      blob = own ∙ at.blob;
      holder = holder_still ids ids2 p x.holder.0 above at.holder;
    }
