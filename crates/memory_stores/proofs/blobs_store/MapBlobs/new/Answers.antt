use Rattle.std.proofs.Common.{sym, ◌∙◌, ap}
use Rattle.std.specs.FinMap as fin
use Rattle.std.specs.FinMap.{get-empty}
use Rattle.store_api.specs.Content.{id_cmp}
use Rattle.memory_stores.specs.BlobsRows.{row_of}
use Rattle.memory_stores.proofs.blobs_store.MapBlobs.new.Goals as goal

pub returns : goal.returns
returns c = λ id. get-empty id_cmp id ∙ sym (ap (λ rows. row_of (fin.get rows id)) c.new.ensures ∙ ap row_of (get-empty id_cmp id))
