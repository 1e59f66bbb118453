use Rattle.std.proofs.Common.{refl, sym, ◌∙◌, ap}
use Rattle.std.specs.Prelude.{Some, None}
use Rattle.store_api.specs.Entries.{change_view}
use Rattle.store_outcome.specs.Outcome.{first_, idle}
use Rattle.store_api.specs.declared.tx.Tx.{Tx}
use Rattle.store_api.specs.Content.{or_else}
use Rattle.store_api.specs.Overlay.{called_over}
use Rattle.store_api.specs.Txs.{store_in, changes_in, drawn_in, tx_laws}
use Rattle.store_api.proofs.Overlays.{overlaid-stays}
use Rattle.store_api.proofs.tx.TxBlocks.load.Goals as goal

pub returns-in-None-clause-outcome : goal.returns-in-None-clause-outcome
returns-in-None-clause-outcome g c =
    let H = g.S.Blocks.holdings in
    let before = c.args.self.now in
    let after : Tx g.row.S.Denot = record { store = c.load.new.self; overlay = before.overlay; seed = before.seed; ids = before.ids } in
    let kept = overlaid-stays H before.store after.store before.overlay (drawn_in before) c.load.ensures.stays c.requires.1 in
    first_ (λ n. n) (called_over store_in changes_in drawn_in H before after kept refl c.load.ensures.outcome)
    (λ n y h. h ∙ ap (λ o. or_else o (H.content before.store c.args.id.now.0)) (sym c.in-None.ensures.none))

pub returns-in_ok-to_vec-in-Some-Payload-clause-outcome : goal.returns-in_ok-to_vec-in-Some-Payload-clause-outcome
returns-in_ok-to_vec-in-Some-Payload-clause-outcome g c =
    let laws = tx_laws g.S.Blocks.meanings g.S.Blocks.holdings g.met.S.Blocks.lawful in
    let content = g.S.Blocks.holdings.content c.args.self.now.store c.args.id.now.0 in
    let copied = c.in_ok-to_vec-in-Some-Payload.ensures.items_if_clones_equal (λ x y e. e) ∙ c.as_slice.ensures.value in
    idle laws c.args.self.now _ c.requires
    (λ n. ap Some copied ∙ sym (ap (λ o. or_else o content) (c.in-Some-Payload.ensures.some ∙ ap (λ change. Some (change_view change)) c.in-Some-Payload.field-0-is)))

pub returns-in-Some-Removal-clause-outcome : goal.returns-in-Some-Removal-clause-outcome
returns-in-Some-Removal-clause-outcome g c =
    let laws = tx_laws g.S.Blocks.meanings g.S.Blocks.holdings g.met.S.Blocks.lawful in
    let content = g.S.Blocks.holdings.content c.args.self.now.store c.args.id.now.0 in
    idle laws c.args.self.now None c.requires
    (λ n. sym (ap (λ o. or_else o content) (c.in-Some-Removal.ensures.some ∙ ap (λ change. Some (change_view change)) c.in-Some-Removal.field-0-is)))
