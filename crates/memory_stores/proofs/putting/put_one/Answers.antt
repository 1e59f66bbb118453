use Rattle.std.proofs.Common.{◌≡◌, length, sym, ◌∙◌, ap, subst}
use Rattle.std.specs.Prelude.{Some}
use Rattle.std.specs.FinMap as fin
use Rattle.store_api.specs.Content.{Changes}
use Rattle.store_api.specs.Holdings.{FitsStore}
use Rattle.memory_stores.proofs.OneBatch.{fits_one}
use Rattle.memory_stores.proofs.putting.put_one.Goals as goal

pub apply-requires-clause-fits : goal.apply-requires-clause-fits
apply-requires-clause-fits g c =
    let H = g.S.Blocks.holdings in
    let a = c.args.store.now in
    let id = c.args.id.now.0 in
    let bytes = c.args.payload.items in
    let one : c.put.new.self ≡ fin.insert fin.empty id (Some bytes) = c.in-Ok.ensures.ok ∙ ap (λ (m : Changes). fin.insert m id (Some bytes)) c.new-batch.ensures in
    subst (FitsStore H a) (sym one) (fits_one H a id bytes (ap length (sym c.deref.ensures.value) ∙ c.may_take.ensures.sized c.if-not-may_take.false) (c.may_take.ensures.id c.if-not-may_take.false))

pub returns-in-Ok-apply-clause-few : goal.returns-in-Ok-apply-clause-few
returns-in-Ok-apply-clause-few g c = c.in-Ok-apply.ensures.ok.changed.few
