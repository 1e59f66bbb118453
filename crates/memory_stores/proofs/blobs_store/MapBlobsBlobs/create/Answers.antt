use Rattle.std.proofs.Common.{◌≡◌, sym, ◌∙◌, ap, subst, rules}
use Rattle.std.specs.FinMap.{insert}
use Rattle.std.specs.FinMap as fin
use Rattle.std.specs.declared.option.Option.TheVariants.{Some}
use Rattle.memory_stores.specs.BlobsRows.{row_of, AreRows}
use Rattle.memory_stores.proofs.Calm.{went_well}
use Rattle.memory_stores.proofs.Puts.{rows_put}
use Rattle.memory_stores.proofs.blobs_store.MapBlobsBlobs.create.Goals as goal

pub returns : goal.returns
returns c =
    let same : c.in_ok-copy.copy.items ≡ c.args.bytes.now = search rules in
    went_well _ _ _ (λ n. record {
      fresh = n.stands c.in-Some.id.0 ∙ ap row_of c.in-Some.ensures;
      stands = subst (λ z. AreRows z (insert n.map c.in-Some.id.0 c.args.bytes.now)) (sym (c.in_ok-put.ensures.ok ∙ ap (λ v. fin.insert c.args.self.now.rows c.in-Some.id.0 (Some v)) same))
          (rows_put c.args.self.now.rows n.map c.in-Some.id.0 c.args.bytes.now n.stands);
    })
