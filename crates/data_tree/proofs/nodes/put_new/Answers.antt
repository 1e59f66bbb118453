use Rattle.std.proofs.Common.{◌≡◌, ◌∙◌, ap, false}
use Rattle.std.specs.Prelude.{Some, Ok}
use Rattle.std.specs.FinMap.{get}
use Rattle.store_api.specs.Content.{same_id}
use Rattle.data_tree.proofs.Changes.{there_put}
use Rattle.store_api.specs.Txs.{tx_holdings, tx_steady}
use Rattle.data_tree.proofs.Making.{free_none}
use Rattle.data_tree.proofs.Puts.{not_new, others_then, put_sets, there_left}
use Rattle.data_tree.proofs.nodes.put_new.Goals as goal

pub returns-in-Ok-clause-new : goal.returns-in-Ok-clause-new
returns-in-Ok-clause-new g c =
    let H = tx_holdings g.S.Blocks.holdings in
    let a = c.args.tx.now in
    let id = c.in-Ok.id.0 in
    let steady = tx_steady g.S.Blocks.meanings g.S.Blocks.holdings g.met.S.Blocks.steady in
    free_none (H.used a) (H.content a) id (λ there. steady.content_used a id c.requires.intact there) c.in-Ok.ensures.free

pub returns-in-Ok-clause-sets : goal.returns-in-Ok-clause-sets
returns-in-Ok-clause-sets g c =
    let text = c.in_ok-payload.payload.items in
    (text, (c.in_ok-payload.ensures.node, (c.in_ok-payload.ensures.len ∙ c.payload.ensures, put_sets g.S.Blocks.holdings c.args.tx.now c.add.new.self c.in-Ok.id.0 (Some text) c.add.ensures.store c.in-Ok.ensures.ok)))

pub returns-in-Ok-clause-adds : goal.returns-in-Ok-clause-adds
returns-in-Ok-clause-adds g c =
    let H = tx_holdings g.S.Blocks.holdings in
    let a = c.args.tx.now in
    let d = c.add.new.self in
    let id = c.in-Ok.id.0 in
    let text = c.in_ok-payload.payload.items in
    record {
      store = c.add.ensures.store;
      seed = c.add.ensures.seed;
      there = there_put (H.content a) (H.content d) id text (put_sets g.S.Blocks.holdings a d id (Some text) c.add.ensures.store c.in-Ok.ensures.ok);
      kept = λ q there.
          let differs : same_id q id ≡ false = not_new (H.content a) id q (returns-in-Ok-clause-new g c) there in
          others_then {T = Unit {0}} {E = Unit {0}} a.overlay d.overlay id (Some text) (Ok tt) c.in-Ok.ensures.ok tt q differs;
    }

pub returns-in-Err-clause-adds : goal.returns-in-Err-clause-adds
returns-in-Err-clause-adds g c = record {
  store = c.add.ensures.store;
  seed = c.add.ensures.seed;
  there = there_left g.S.Blocks.holdings c.args.tx.now c.add.new.self c.add.ensures.store c.in-Err.ensures.err;
  kept = λ q there. ap (λ m. get m q) c.in-Err.ensures.err;
}
