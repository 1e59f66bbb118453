use Rattle.std.proofs.Common.{refl, sym, ◌∙◌, ap}
use Rattle.store_outcome.specs.Outcome.{first_}
use Rattle.store_api.specs.declared.tx.Tx.{Tx}
use Rattle.store_api.specs.Content.{or_else}
use Rattle.store_api.specs.Fronts.{front_of}
use Rattle.store_api.specs.Overlay.{called_over}
use Rattle.store_api.specs.Txs.{store_in, changes_in, drawn_in}
use Rattle.store_api.proofs.Overlays.{overlaid-stays}
use Rattle.store_api.proofs.tx.TxBlocks.load_front.Goals as goal

pub returns-in-None-clause-outcome : goal.returns-in-None-clause-outcome
returns-in-None-clause-outcome g c =
    let H = g.S.Blocks.holdings in
    let before = c.args.self.now in
    let after : Tx g.row.S.Denot = record { store = c.load_front.new.self; overlay = before.overlay; seed = before.seed; ids = before.ids } in
    let kept = overlaid-stays H before.store after.store before.overlay (drawn_in before) c.load_front.ensures.stays c.requires.1 in
    first_ (λ n. n) (called_over store_in changes_in drawn_in H before after kept refl c.load_front.ensures.outcome)
    (λ n y h. h ∙ ap (λ o. front_of c.args.most (or_else o (H.content before.store c.args.id.now.0))) (sym c.in-None.ensures.none))
