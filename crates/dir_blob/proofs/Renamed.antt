-- A directory in which what stands there got another name.
use Rattle.std.specs.Prelude.{◌≡◌, ◌≤◌, ℕ, List, ◌++◌, length, take, drop}
use Rattle.std.proofs.Common.{sym, ◌∙◌, ap, subst}
use Rattle.std.specs.FinMap.{insert}
use Rattle.fs_blobs.specs.blob_api.BlobMap.{Id, BlobHoldings}
use Rattle.fs_model.specs.declared.attr.Kind.TheVariants.{Directory}
use Rattle.fs_model.specs.declared.limits.TheConstants.{MAX_ENTRIES}
use Rattle.fs_blobs.specs.Headers.{blob}
use Rattle.dir_entries.specs.declared.edit.Edit.{Edit}
use Rattle.dir_entries.specs.Layout.{EntryTarget, body_of}
use Rattle.dir_entries.specs.Renaming.{IsEdit, renamed}
use Rattle.dir_blob.specs.Directories.{HasBoth, HasEntries}

module _ {S : Type 0} {H : BlobHoldings S} {a : S} {id : Id} {name : List ℕ} {e : List ℕ × EntryTarget} (n : HasBoth H a id name e) (edit : Edit) (body other : List ℕ)
    (is : IsEdit body edit (renamed name e n.is.listing)) (same : other ≡ body) where
  edited : take edit.front other ++ (edit.bytes.items ++ drop edit.back other) ≡ body_of (renamed name e n.is.listing)
  edited = ap (λ z. take edit.front z ++ (edit.bytes.items ++ drop edit.back z)) same ∙ is.text

  pub edit_room : length (take edit.front other ++ (edit.bytes.items ++ drop edit.back other)) ≤ MAX_ENTRIES
  edit_room = subst (λ z. length z ≤ MAX_ENTRIES) (sym edited) (n.room is.entries)

  pub edit_entries : (b : S) → H.stands_for b (insert n.is.map id (blob Directory n.is.parent (take edit.front other ++ (edit.bytes.items ++ drop edit.back other)))) → HasEntries H b n.is.map id n.is.parent (renamed name e n.is.listing)
  edit_entries b stands = record { stands = subst (λ z. H.stands_for b (insert n.is.map id (blob Directory n.is.parent z))) edited stands; entries = is.entries }
