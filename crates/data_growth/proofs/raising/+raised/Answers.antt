use Rattle.std.proofs.Common.{◌≡◌, ◌≤◌, ◌+◌, ◌-◌, ◌*◌, ◌/◌, ◌++◌, sym, ◌∙◌, ap, subst, take, drop, length, arith, rules}
use Rattle.std.specs.Prelude.{min}
use Rattle.std.proofs.lemmas.List.{length-drop, length-map, take_all}
use Rattle.std.proofs.Math.Nat.{mul-le-mul_right}
use Rattle.block_id.specs.declared.id.BlockId.{BlockId}
use Rattle.data_tree.specs.data_nodes.Layout.{fan_out, ids_of, inner, node_of, FitsPayload}
use Rattle.data_tree.specs.Needs.{BuiltTrees}
use Rattle.data_tree.specs.Trees.{span}
use Rattle.data_tree.proofs.Levels.{span-some}
use Rattle.data_tree.specs.store_api.Txs.{tx_holdings, tx_steady}
use Rattle.data_tree.proofs.Puts.{keeps_same}
use Rattle.data_tree.proofs.Leaving.{adds_then}
use Rattle.data_growth.specs.Growing.{Grown, MayGrow, Raised}
use Rattle.data_growth.proofs.Rising.{filled_up, no_ok, raise_more, risen}
use Rattle.data_growth.proofs.raising.+raised.Goals as goal

pub grown_children-requires-clause-room : goal.grown_children-requires-clause-room
grown_children-requires-clause-room g t c =
    let steady = tx_steady g.S.Blocks.meanings g.S.Blocks.holdings g.met.S.Blocks.steady in
    omega (arith, span-some ((tx_holdings g.S.Blocks.holdings).payload c.args.tx.now) c.args.level.depth (steady.at_least c.args.tx.now c.requires.intact), c.requires.level)

pub grown_children-requires-clause-places : goal.grown_children-requires-clause-places
grown_children-requires-clause-places g t c =
    let steady = tx_steady g.S.Blocks.meanings g.S.Blocks.holdings g.met.S.Blocks.steady in
    omega (arith, c.payload.ensures, steady.at_least c.put_new.new.tx c.in_ok-first.ensures.intact)

pub grown_children-requires-clause-small : goal.grown_children-requires-clause-small
grown_children-requires-clause-small g t c =
    let steady = tx_steady g.S.Blocks.meanings g.S.Blocks.holdings g.met.S.Blocks.steady in
    let fan = fan_out (g.S.Blocks.holdings.payload c.put_new.new.tx.store) in
    let most : fan ≤ 65536 = omega (arith, steady.at_most c.put_new.new.tx c.in_ok-first.ensures.intact) in
    let much : fan * c.args.level.room ≤ 65536 * c.args.level.room = mul-le-mul_right c.args.level.room most in
    omega (arith, much, c.if-level-n.false, c.requires.small)

pub returns : goal.returns
returns g t c =
    let H0 = g.S.Blocks.holdings in
    let H = tx_holdings H0 in
    let steady = tx_steady g.S.Blocks.meanings H0 g.met.S.Blocks.steady in
    let a = c.args.tx.now in
    let b = c.put_new.new.tx in
    let d = c.grown_children.new.tx in
    let e = c.raised.new.tx in
    let depth = c.args.level.depth in
    let above = c.above-level.result.depth in
    let rest = c.args.rest.now in
    let used = c.in_ok-children.used in
    let more = c.in_ok-node.more in
    let first = c.in_ok-first.first.0 in
    let up = inner above (ids_of c.in_ok-children.children.items) in
    let last = node_of c.in_ok-node.node in
    let least = steady.at_least a c.requires.intact in
    let deep : depth + 1 ≡ above = omega (arith, c.above-level.ensures.depth) in
    let built = c.in_ok-children.ensures.children.built in
    let ab = keeps_same H0 a b c.put_new.ensures.adds.store in
    let bd = keeps_same H0 b d c.grown_children.ensures.adds.store in
    let payload : H.payload d ≡ H.payload a = bd.payload ∙ ab.payload in
    let fan : c.payload.result ≡ H.payload a = c.payload.ensures ∙ ab.payload in
    let fan2 : c.payload-2.result ≡ H.payload a = c.payload-2.ensures ∙ payload in
    let full = filled_up (fan_out (H.payload a)) c.args.level.room used (length rest) (omega (arith, least)) (subst (λ p. used ≡ min (((p - 8) / 16 - 1) * c.args.level.room) (length rest)) fan c.in_ok-children.ensures.children.used) in
    let all : fan_out (H.payload a) * c.args.level.room ≡ span (H.payload a) above = sym (ap (λ p. fan_out p * c.args.level.room) fan2) ∙ sym c.above-level.ensures.all ∙ c.above-level.ensures.room ∙ ap (λ p. span p above) fan2 in
    let fits : used ≤ length rest = omega (arith, c.in_ok-children.ensures.children.used) in
    let cut : take (length rest - used) (drop used rest) ≡ drop used rest = take_all (length rest - used) (drop used rest) (omega (arith, length-drop used rest)) in
    let p = c.put_new.ensures in
    let q = c.grown_children.ensures in
    let z = c.raised.ensures in
    record {
      intact = z.intact;
      adds = adds_then (adds_then p.adds q.adds) z.adds;
      raised = raise_more {H = H} {a = a} {c = d} {d = e} {node = node_of c.args.node} {up = up} {last = last} depth above c.args.n used more rest least deep (omega (arith, c.if-level-n.false, c.requires.level)) payload (omega (arith, full.0, c.requires.level, all))
          (λ less. omega (arith, full.1 less, c.requires.level, all)) fits
          (λ w t ids holds alone some full is.
          subst (λ cs. Grown H a d above (inner above cs) (w ++ t) ids) (sym built.1.0) (risen {H = H} {a = a} {b = b} {c = d} depth above first (node_of c.args.node) built.0 w t ids holds alone c.in_ok-first.ensures.new c.in_ok-first.ensures.sets ab bd some full (subst (λ x. BuiltTrees H b d depth built.0 x) (sym is) built.1.1) deep))
          (subst (λ xs. (m : MayGrow H d above up c.args.n (length xs)) → Raised H d e last (m.bytes ++ xs) m.ids × (more ≡ length xs)) cut c.in_ok-node.ensures.raised);
      took = record {
        used = omega (arith, c.in_ok-node.ensures.took.used, length-drop used rest, fits);
        fits = subst (λ n. FitsPayload n last) payload c.in_ok-node.ensures.took.fits;
      };
    }

pub returns-in_err-first : goal.returns-in_err-first
returns-in_err-first g t c =
    let p = c.put_new.ensures in
    let none = c.from_residual.ensures.0 in
    record {
      intact = c.in_err-first.ensures.intact;
      adds = p.adds;
      raised = no_ok c.from_residual.result _ none;
      took = no_ok c.from_residual.result _ none;
    }

pub returns-in_err-children : goal.returns-in_err-children
returns-in_err-children g t c =
    let p = c.put_new.ensures in
    let q = c.grown_children.ensures in
    let none = c.from_residual-in_err-children.ensures.0 in
    record {
      intact = q.intact;
      adds = adds_then p.adds q.adds;
      raised = no_ok c.from_residual-in_err-children.result _ none;
      took = no_ok c.from_residual-in_err-children.result _ none;
    }

pub returns-in_err-node : goal.returns-in_err-node
returns-in_err-node g t c =
    let p = c.put_new.ensures in
    let q = c.grown_children.ensures in
    let z = c.raised.ensures in
    let none = c.from_residual-in_err-node.ensures.0 in
    record {
      intact = z.intact;
      adds = adds_then (adds_then p.adds q.adds) z.adds;
      raised = no_ok c.from_residual-in_err-node.result _ none;
      took = no_ok c.from_residual-in_err-node.result _ none;
    }

pub raised-requires : goal.raised-requires
raised-requires g t c =
    let payload = g.S.Blocks.holdings.payload in
    let items = c.in_ok-children.children.items in
    let up = c.above-level.result in
    let count = length-map items (λ (x : BlockId). x.0) in
    let few = subst (λ p. length items ≤ fan_out p) (ap payload (sym c.grown_children.ensures.adds.store)) c.in_ok-children.ensures.children.few in
    let level : up.room ≡ span (payload c.grown_children.new.tx.store) up.depth = c.above-level.ensures.room ∙ ap (λ p. span p up.depth) c.payload-2.ensures in
    λ κs lives. (
      search rules,
      (search rules, (c.grown_children.ensures.intact, (level, ((omega (arith, c.above-level.ensures.depth), omega (arith, count, c.in_ok-children.ensures.children.some), omega (arith, count, few)), c.requires.small)))),
    )
