use Rattle.std.proofs.Common.{◌≡◌, sym, ◌∙◌, ap, subst, [], ◌∷◌, ◌++◌, List, length, ◌+◌, ◌<◌, ◌≤◌, ◌*◌, arith, rules, refl, inl, inr}
use Rattle.std.specs.Prelude.{min}
use Rattle.std.proofs.lemmas.List.{length-append, length-map}
use Rattle.block_id.specs.declared.id.BlockId.{BlockId}
use Rattle.data_nodes.specs.Layout.{ids_of, node_of, fan_out, FitsPayload}
use Rattle.data_tree.specs.Trees.{span}
use Rattle.data_tree.specs.Needs.{BuildRest}
use Rattle.store_api.specs.Txs.{tx_holdings}
use Rattle.data_tree.proofs.Levels.{span-some}
use Rattle.data_tree.proofs.Puts.{if_ok_both, keeps_same}
use Rattle.data_tree.proofs.Leaving.{adds_same, adds_then}
use Rattle.data_tree.proofs.Making.{tree_made, build_start, build_next, build_done, built_leaf, built_inner, pushed}
use Rattle.data_tree.proofs.Counting.{not_zero, is_zero, count_few, count_whole, count_below, next_whole, next_below}
use Rattle.data_tree.proofs.building.+build.Goals as goal

pub build-returns-in-Ok-build_children-clause-built : goal.build-returns-in-Ok-build_children-clause-built
build-returns-in-Ok-build_children-clause-built g t c =
    built_inner c.args.level.depth c.below-below.result.depth c.args.bytes.now (ids_of c.in-Ok-build_children.children.items) c.below-below.ensures.depth c.in-Ok-build_children.ensures.built

pub new_below-returns-in-Ok-clause-built : goal.new_below-returns-in-Ok-clause-built
new_below-returns-in-Ok-clause-built g t c =
    if_ok_both c.put_new.result (λ id new sets. tree_made id.0 sets.0 c.in-Ok.ensures.built new sets.1.0 sets.1.1.0 sets.1.1.1 (keeps_same g.S.Blocks.holdings c.build.new.tx c.put_new.new.tx c.put_new.ensures.adds.store)) c.put_new.ensures.new c.put_new.ensures.sets

pub build_children-loop-rest-init : goal.build_children-loop-rest-init
build_children-loop-rest-init g t c =
    let H = tx_holdings g.S.Blocks.holdings in
    let a = c.args.tx.now in
    let w = c.args.bytes.now in
    let none : length c.new-children.result.items ≡ 0 = ap length c.new-children.ensures.items in
    record {
      intact = c.requires.intact;
      adds = adds_same g.S.Blocks.holdings a;
      built = subst (λ (xs : List BlockId). BuildRest H a a c.args.level.depth (ids_of xs) w w) (sym c.new-children.ensures.items) (build_start w);
      whole = λ some. count_whole (length c.new-children.result.items) c.args.level.room (length w) none;
      under = count_below (length c.new-children.result.items) c.args.level.room (length w) none c.requires.room;
      begun = inr refl;
    }

pub build_children-loop-rest-preserved : goal.build_children-loop-rest-preserved
build_children-loop-rest-preserved g t c =
    let H = tx_holdings g.S.Blocks.holdings in
    let inv = c.loop-rest.invariant in
    let a = c.args.tx.now in
    let b = c.new_below.new.tx in
    let depth = c.args.level.depth in
    let piece = c.split_at.result.0.now in
    let after = c.split_at.result.1.now in
    let cut : c.loop-rest.rest.now ≡ piece ++ after = c.split_at.ensures.by_index.0 in
    let len : length c.loop-rest.rest.now ≡ length piece + length after = ap length cut ∙ length-append piece after in
    let ids = pushed c.loop-rest.children.items c.in-Ok.id c.push.new.self.items c.in-Ok-push.ensures.items in
    let some : 0 < length c.loop-rest.rest.now = not_zero (length c.loop-rest.rest.now) c.loop-rest-test.ensures in
    let sized : c.args.level.room ≡ span (H.payload c.loop-rest.tx) depth = c.requires.level ∙ ap (λ s. span (g.S.Blocks.holdings.payload s) depth) (sym inv.adds.store) in
    let cut_len : length piece ≡ min c.args.level.room (length c.loop-rest.rest.now) = c.split_at.ensures.front_len ∙ c.min.ensures in
    let more_ids : length c.push.new.self.items ≡ length c.loop-rest.children.items + 1 = ap length c.in-Ok-push.ensures.items ∙ length-append c.loop-rest.children.items (c.in-Ok.id ∷ []) in
    record {
      intact = c.new_below.ensures.intact;
      adds = adds_then inv.adds c.new_below.ensures.adds;
      built = subst (λ cs. BuildRest H a b depth cs after c.args.bytes.now) (sym ids)
          (build_next c.in-Ok.id.0 piece after inv.built cut (omega (arith, cut_len, some, c.requires.room)) (omega (arith, cut_len, sized)) (λ more. omega (arith, cut_len, sized, len, more)) (keeps_same g.S.Blocks.holdings c.loop-rest.tx b c.new_below.ensures.adds.store) c.in-Ok.ensures.built);
      whole = λ more. next_whole (length c.loop-rest.children.items) (length c.push.new.self.items) c.args.level.room (length c.loop-rest.rest.now) (length c.args.bytes.now) (length piece) (length after) (inv.whole some) more_ids cut_len len more;
      under = next_below (length c.loop-rest.children.items) (length c.push.new.self.items) c.args.level.room (length c.loop-rest.rest.now) (length c.args.bytes.now) (length piece) (length after) (inv.whole some) more_ids some;
      begun = inl (omega (arith, more_ids));
    }

pub build_children-split_at-requires : goal.build_children-split_at-requires
build_children-split_at-requires g t c = omega (arith, c.min.ensures)

pub build_children-returns-clause-built : goal.build_children-returns-clause-built
build_children-returns-clause-built g t c = build_done (is_zero (length c.loop-rest.rest.now) c.loop-rest-test.ensures) c.loop-rest.invariant.built

pub build-returns-in-Ok-build_children-clause-fits : goal.build-returns-in-Ok-build_children-clause-fits
build-returns-in-Ok-build_children-clause-fits g t c =
    let deep : 0 < c.args.level.depth = omega (arith, c.if-level-eq0.false) in
    let made = c.in-Ok-build_children.ensures in
    let listed = length-map c.in-Ok-build_children.children.items (λ (x : BlockId). x.0) in
    (deep, omega (arith, listed, made.count.some (c.requires.some deep)), omega (arith, listed, made.count.few))

pub build-returns-in-Ok-clause-built : goal.build-returns-in-Ok-clause-built
build-returns-in-Ok-clause-built g t c = built_leaf c.args.level.depth c.args.bytes.now c.in-Ok.bytes.items c.if-level-eq0.true (c.in-Ok.ensures.items_if_clones_equal (λ x y e. e))

pub build-build_children-requires : goal.build-build_children-requires
build-build_children-requires g t c κs within =
    let below = c.below-below.result in
    let long = c.payload.ensures in
    let level = c.below-below.ensures.room ∙ ap (λ p. span p below.depth) long in
    let least = g.met.S.Blocks.steady.at_least c.args.tx.now.store c.requires.intact.0 in
    let some : 0 < below.room = omega (arith, span-some (g.S.Blocks.holdings.payload c.args.tx.now.store) below.depth least, level) in
    let fits = subst (λ n. length c.args.bytes.now ≤ n) (sym c.below-below.ensures.all ∙ ap (λ p. fan_out p * below.room) long) c.requires.fits in
    (search rules, (within, (c.requires.intact, (level, (some, fits)))))

pub new_below-build-requires : goal.new_below-build-requires
new_below-build-requires g t c κs within = (search rules, (within, (c.requires.intact, (c.requires.level, (c.requires.fits, c.requires.some)))))

pub build_children-new_below-requires : goal.build_children-new_below-requires
build_children-new_below-requires g t c κs within =
    let inv = c.loop-rest.invariant in
    let some : 0 < length c.loop-rest.rest.now = not_zero (length c.loop-rest.rest.now) c.loop-rest-test.ensures in
    let cut : length c.split_at.result.0.now ≡ min c.args.level.room (length c.loop-rest.rest.now) = c.split_at.ensures.front_len ∙ c.min.ensures in
    let level = c.requires.level ∙ ap (λ s. span (g.S.Blocks.holdings.payload s) c.args.level.depth) (sym inv.adds.store) in
    (search rules, (within, (inv.intact, (level, (omega (arith, cut), λ deep. omega (arith, cut, some, c.requires.room))))))

pub build-below-below-requires-clause-payload : goal.build-below-below-requires-clause-payload
build-below-below-requires-clause-payload g t c = omega (arith, g.met.S.Blocks.steady.at_least c.args.tx.now.store c.requires.intact.0, c.payload.ensures)

pub build-below-below-requires-clause-room : goal.build-below-below-requires-clause-room
build-below-below-requires-clause-room g t c = c.requires.level ∙ ap (λ p. span p c.args.level.depth) (sym c.payload.ensures)

pub new_below-put_new-requires-clause-fits : goal.new_below-put_new-requires-clause-fits
new_below-put_new-requires-clause-fits g t c = subst (λ s. FitsPayload (g.S.Blocks.holdings.payload s) (node_of c.in-Ok.node)) (sym c.build.ensures.adds.store) c.in-Ok.ensures.fits

pub build_children-returns-clause-count : goal.build_children-returns-clause-count
build_children-returns-clause-count g t c =
    let count = length c.loop-rest.children.items in
    let most = fan_out (g.S.Blocks.holdings.payload c.args.tx.now.store) in
    record {
      some = λ more. elim c.loop-rest.invariant.begun [
        | inl some ↦ some
        | inr none ↦ absurd (omega (arith, more, none, is_zero (length c.loop-rest.rest.now) c.loop-rest-test.ensures))
      ];
      under = c.loop-rest.invariant.under;
      few = count_few count c.args.level.room (length c.args.bytes.now) most c.loop-rest.invariant.under c.requires.fits;
    }

pub build-returns-in-Ok-clause-adds : goal.build-returns-in-Ok-clause-adds
build-returns-in-Ok-clause-adds g t c = adds_same g.S.Blocks.holdings c.args.tx.now

pub build-returns-in-Err-clause-adds : goal.build-returns-in-Err-clause-adds
build-returns-in-Err-clause-adds g t c = adds_same g.S.Blocks.holdings c.args.tx.now

pub new_below-returns-in-Ok-clause-adds : goal.new_below-returns-in-Ok-clause-adds
new_below-returns-in-Ok-clause-adds g t c = adds_then c.build.ensures.adds c.put_new.ensures.adds

pub build_children-returns-clause-adds : goal.build_children-returns-clause-adds
build_children-returns-clause-adds g t c = c.loop-rest.invariant.adds

pub build_children-returns-in-Err-clause-adds : goal.build_children-returns-in-Err-clause-adds
build_children-returns-in-Err-clause-adds g t c = adds_then c.loop-rest.invariant.adds c.new_below.ensures.adds

pub build_children-returns-in-Err-push-clause-adds : goal.build_children-returns-in-Err-push-clause-adds
build_children-returns-in-Err-push-clause-adds g t c = adds_then c.loop-rest.invariant.adds c.new_below.ensures.adds
