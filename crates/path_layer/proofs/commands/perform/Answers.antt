use Rattle.blob_store.specs.store_api.Txs.{changes_in, tx_holdings, tx_meanings, tx_steady}
use Rattle.path_layer.proofs.Shows.{by_blocks}
use Rattle.path_layer.proofs.Spared.{spared_blocks}
use Rattle.path_layer.proofs.commands.perform.Goals as goal

pub returns-clause-outcome : goal.returns-clause-outcome
returns-clause-outcome g c =
    by_blocks (tx_meanings g.S.Blocks.meanings g.S.Blocks.holdings) (tx_holdings g.S.Blocks.holdings)
    (tx_steady g.S.Blocks.meanings g.S.Blocks.holdings g.met.S.Blocks.steady)
    (λ b. b.tx) changes_in c.args.blobs.now c.perform_on_blobs.new.b c.args.root.now.0 c.args.now c.args.command.now c.perform_on_blobs.ensures.outcome

pub returns-clause-sparing : goal.returns-clause-sparing
returns-clause-sparing g c =
    spared_blocks (tx_meanings g.S.Blocks.meanings g.S.Blocks.holdings) (tx_holdings g.S.Blocks.holdings)
    (tx_steady g.S.Blocks.meanings g.S.Blocks.holdings g.met.S.Blocks.steady)
    (λ b. b.tx) changes_in c.args.blobs.now c.perform_on_blobs.new.b c.args.root.now.0 c.args.command.now c.perform_on_blobs.ensures.sparing
