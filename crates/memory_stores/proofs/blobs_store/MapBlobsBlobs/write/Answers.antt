use Rattle.std.proofs.Common.{◌≡◌, sym, ◌∙◌, ap, subst}
use Rattle.std.specs.FinMap.{insert}
use Rattle.std.specs.FinMap as fin
use Rattle.std.specs.declared.option.Option.TheVariants.{Some}
use Rattle.block_id.specs.Contents.{written}
use Rattle.memory_stores.specs.BlobsRows.{AreRows}
use Rattle.memory_stores.proofs.Calm.{went_well}
use Rattle.memory_stores.proofs.Puts.{rows_put, same_bytes}
use Rattle.memory_stores.proofs.blobs_store.MapBlobsBlobs.write.Goals as goal

pub returns-in_ok-put-in-Some-clause-outcome : goal.returns-in_ok-put-in-Some-clause-outcome
returns-in_ok-put-in-Some-clause-outcome c =
    went_well _ _ _ (λ n.
    let same : c.in-Some.old.now ≡ n.bytes = same_bytes c.args.self.now.rows n.map c.args.id.now.0 c.in-Some.old.now n.bytes n.stands c.in-Some.ensures n.there in
    subst (λ z. AreRows z (insert n.map c.args.id.now.0 (written n.bytes c.args.from c.args.bytes.now)))
    (sym (c.in_ok-put-in-Some.ensures.ok ∙ ap (λ v. fin.insert c.args.self.now.rows c.args.id.now.0 (Some v)) (c.in_ok-new-in-Some.ensures ∙ ap (λ o. written o c.args.from c.args.bytes.now) same)))
    (rows_put c.args.self.now.rows n.map c.args.id.now.0 (written n.bytes c.args.from c.args.bytes.now) n.stands))
