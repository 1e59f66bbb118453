-- What a command on a row answers, by what its path came to.
use Rattle.std.proofs.Common.{◌≡◌, ℕ, List, [], ◌∷◌, subst}
use Rattle.std.specs.Prelude.{Result, Ok}
use Rattle.block_id.specs.declared.fail.Fail.{Fail}
use Rattle.dir_blob.specs.store_outcome.Meanings.{Meanings, Lawful}
use Rattle.dir_blob.specs.store_outcome.Outcome.{Outcome, then_, answered}
use Rattle.dir_blob.specs.blob_api.BlobMap.{Id, BlobHoldings}
use Rattle.fs_model.specs.declared.error.FsError.{FsError}
use Rattle.fs_model.specs.declared.error.FsError.TheVariants.{NoEntry}
use Rattle.fs_model.specs.declared.reply.Reply.{Reply}
use Rattle.fs_model.specs.declared.reply.Reply.TheVariants.{Error}
use Rattle.fs_model.specs.Tree.{Path, Tree, upward, root_row}
use Rattle.fs_model.specs.LookUp.{LookedUp, Found, Free, Bad, look}
use Rattle.fs_model.specs.Step.{Stepped, refused}
use Rattle.path_walks.specs.Showing.{BlobsShow, Performed}
use Rattle.path_walks.specs.declared.reaching.Reached.{Reached}
use Rattle.path_walks.specs.declared.reaching.Reached.TheVariants.{Refused}
use Rattle.path_walks.specs.declared.spots.Occupancy.{Occupancy}
use Rattle.path_walks.specs.Reaching.{IsRow, ReachedIs}
use Rattle.path_walks.specs.Sights.{Finding}
use Rattle.path_walks.proofs.Seeing.{on_refused, on_row, row_finding}
use Rattle.path_walks.proofs.Told.{stays, told_as}

module _ {S : Type 0} {M : Meanings S} {H : BlobHoldings S} {a b : S} {root : Id} {reached : Reached} {p : Path} (at_root : FsError)
    (o : Outcome M (BlobsShow H a root) a b (Ok reached) (λ n r. H.stands_for b n.map × ReachedIs n.tree n.ids p at_root r)) (f : Tree → Path → LookedUp → Stepped) where
  -- where there is no row, the error of a step that refuses the root, a free path and a bad one
  pub reached_none : {e : FsError} → reached ≡ Refused e → ((t : Tree) → f t [] (Found root_row) ≡ refused t at_root) → ((t : Tree) (n : List ℕ) (d : Path) → f t (n ∷ d) Free ≡ refused t NoEntry)
      → ((t : Tree) (n : List ℕ) (d : Path) (x : FsError) → f t (n ∷ d) (Bad x) ≡ refused t x) → Outcome M (BlobsShow H a root) a b (Ok (Error e)) (λ n r. Performed H b root (f n.tree p (look n.tree p)) r)
  reached_none {e = e} is root_is free bad =
      answered o (λ n h. stays n.map n.tree n.ids n.shows b h.0 (f n.tree p (look n.tree p)) (Error e)
      (on_refused n.tree (f n.tree) at_root e (root_is n.tree) (free n.tree) (bad n.tree) n.shows.well_formed.rooted p (subst (ReachedIs n.tree n.ids p at_root) is h.1)))

  -- where there is one, what is answered of the row that was found
  pub reached_row : Lawful M → {at : Occupancy} → ((n : BlobsShow H a root) → ReachedIs n.tree n.ids p at_root reached → IsRow n.tree n.ids p at) → {c : S} {r : Result Reply Fail}
      → Outcome M (Finding H b at) b c r (λ w y. Performed H c w.root (f w.tree (at.name.now ∷ w.path) (Found w.is.here.row)) y)
      → Outcome M (BlobsShow H a root) a c r (λ n y. Performed H c root (f n.tree p (look n.tree p)) y)
  reached_row laws {at = at} row {c = c} done =
      then_ laws o (λ n h. row_finding n b h.0 (row n h.1)) done
      (λ n h y r. told_as (f n.tree (at.name.now ∷ upward at.dir.names.now) (Found (row n h.1).is.here.row)) (f n.tree p (look n.tree p)) y (on_row (f n.tree) (row n h.1)) r)
