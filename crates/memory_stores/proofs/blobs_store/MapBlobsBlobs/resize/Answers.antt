use Rattle.std.proofs.Common.{◌≡◌, sym, ◌∙◌, ap, subst}
use Rattle.std.specs.FinMap.{insert}
use Rattle.std.specs.FinMap as fin
use Rattle.std.specs.declared.option.Option.TheVariants.{Some}
use Rattle.block_id.specs.Contents.{resized}
use Rattle.memory_stores.specs.BlobsRows.{AreRows}
use Rattle.memory_stores.proofs.Calm.{went_well}
use Rattle.memory_stores.proofs.Puts.{rows_put, same_bytes}
use Rattle.memory_stores.proofs.blobs_store.MapBlobsBlobs.resize.Goals as goal

pub returns-in_ok-put-in-Some : goal.returns-in_ok-put-in-Some
returns-in_ok-put-in-Some c =
    went_well _ _ _ (λ n.
    let same : c.in-Some.old.now ≡ n.bytes = same_bytes c.args.self.now.rows n.map c.args.id.now.0 c.in-Some.old.now n.bytes n.stands c.in-Some.ensures n.there in
    subst (λ z. AreRows z (insert n.map c.args.id.now.0 (resized n.bytes c.args.n)))
    (sym (c.in_ok-put-in-Some.ensures.ok ∙ ap (λ v. fin.insert c.args.self.now.rows c.args.id.now.0 (Some v)) (c.in_ok-new-in-Some.ensures ∙ ap (λ o. resized o c.args.n) same)))
    (rows_put c.args.self.now.rows n.map c.args.id.now.0 (resized n.bytes c.args.n) n.stands))
