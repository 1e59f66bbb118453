use Rattle.std.proofs.Common.{sym, subst}
use Rattle.std.specs.FinMap.{remove}
use Rattle.memory_stores.specs.BlobsRows.{AreRows}
use Rattle.memory_stores.proofs.Calm.{went_well}
use Rattle.memory_stores.proofs.Puts.{rows_gone}
use Rattle.memory_stores.proofs.blobs_store.MapBlobsBlobs.remove.Goals as goal

pub returns-in-Some : goal.returns-in-Some
returns-in-Some c =
    went_well _ _ _ (λ n. subst (λ z. AreRows z (remove n.map c.args.id.now.0)) (sym c.forget.ensures) (rows_gone c.args.self.now.rows n.map c.args.id.now.0 n.stands))
