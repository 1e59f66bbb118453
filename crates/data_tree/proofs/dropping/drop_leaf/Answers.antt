use Rattle.std.proofs.Common.{◌≡◌, sym, ◌∙◌, ap, subst, [], ◌∷◌, true, false}
use Rattle.std.specs.Prelude.{is_some}
use Rattle.store_api.specs.store_outcome.Outcome.{idle, no_memory, unbuilt}
use Rattle.data_tree.specs.Needs.{HasTree}
use Rattle.data_tree.specs.Trees.{Replaces}
use Rattle.store_api.specs.Txs.{store_in, changes_in, drawn_in, tx_holdings, tx_laws}
use Rattle.data_tree.proofs.Ids.{drops_one}
use Rattle.data_tree.proofs.Puts.{changed_}
use Rattle.store_api.specs.Overlay.{changed_over}
use Rattle.data_tree.proofs.dropping.drop_leaf.Goals as goal

pub returns-in-Ok-clause-outcome : goal.returns-in-Ok-clause-outcome
returns-in-Ok-clause-outcome g c =
    let M = g.S.Blocks.meanings in
    let H = tx_holdings g.S.Blocks.holdings in
    let laws = tx_laws M g.S.Blocks.holdings g.met.S.Blocks.lawful in
    let a = c.args.tx.now in
    let d = c.remove.new.tx in
    let id = c.args.id.now.0 in
    let none = idle laws {T = Unit {0}} {N = HasTree H a 0 id} {P = λ _ _. Unit {0}} a tt c.requires (λ n. tt) in
    changed_over store_in changes_in drawn_in M g.S.Blocks.holdings a a d c.remove.ensures.store c.remove.ensures.seed c.remove.ensures.intact none
    (λ n p. subst (λ xs. Replaces (H.content a) (H.content d) xs []) (sym (n.tree.all ∙ ap (λ xs. id ∷ xs) n.tree.holds.1)) (drops_one (H.content a) (H.content d) id c.in-Ok.ensures.sets))

pub returns-in-Err-clause-outcome : goal.returns-in-Err-clause-outcome
returns-in-Err-clause-outcome g c =
    let M = g.S.Blocks.meanings in
    let H = tx_holdings g.S.Blocks.holdings in
    let laws = tx_laws M g.S.Blocks.holdings g.met.S.Blocks.lawful in
    let a = c.args.tx.now in
    let none = idle laws {T = Unit {0}} {N = HasTree H a 0 c.args.id.now.0} {P = λ _ _. Unit {0}} a tt c.requires (λ n. tt) in
    no_memory (changed_ M g.S.Blocks.holdings {R = λ n. Unit {0}} a a c.remove.new.tx c.remove.ensures.store c.remove.ensures.seed c.remove.ensures.intact none (λ n p. tt))

pub returns-then-not-contains-clause-outcome : goal.returns-then-not-contains-clause-outcome
returns-then-not-contains-clause-outcome g c =
    let H = tx_holdings g.S.Blocks.holdings in
    let laws = tx_laws g.S.Blocks.meanings g.S.Blocks.holdings g.met.S.Blocks.lawful in
    let a = c.args.tx.now in
    let none = idle laws {T = Unit {0}} {N = HasTree H a 0 c.args.id.now.0} {P = λ _ _. Unit {0}} a tt c.requires (λ n. tt) in
    unbuilt laws none (λ n p. let bad : false ≡ true = c.if-not-contains.ensures ∙ ap is_some n.tree.there in absurd (cc))
