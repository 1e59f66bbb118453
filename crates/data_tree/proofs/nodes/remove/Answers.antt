use Rattle.std.proofs.Common.{◌∙◌, ap}
use Rattle.store_api.specs.Content.{over}
use Rattle.data_tree.proofs.Puts.{on_ok_of, kept_remove}
use Rattle.data_tree.proofs.Changes.{sets_remove}
use Rattle.data_tree.proofs.nodes.remove.Goals as goal

pub returns-clause-sets : goal.returns-clause-sets
returns-clause-sets g c =
    let H = g.S.Blocks.holdings in
    let a = c.args.tx.now in
    let d = c.remove.new.self in
    let id = c.args.id.now.0 in
    on_ok_of c.remove.result (λ is q. ap (λ s. over d.overlay (H.content s) q) c.remove.ensures.store
    ∙ (ap (λ m. over m (H.content a.store) q) is
    ∙ sets_remove (H.used a.store) a.overlay (H.content a.store) id (λ there. g.met.S.Blocks.steady.content_used a.store id c.requires.intact.0 there) q)) c.remove.ensures.ok

pub returns-clause-kept : goal.returns-clause-kept
returns-clause-kept g c = kept_remove g.S.Blocks.holdings c.args.tx.now c.remove.new.self (g.S.Blocks.holdings.used c.args.tx.now.store) c.args.id.now.0 c.remove.result (returns-clause-sets g c) c.remove.ensures.ok c.remove.ensures.err
