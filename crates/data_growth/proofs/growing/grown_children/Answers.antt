use Rattle.std.proofs.Common.{◌≡◌, ◌≤◌, ◌+◌, ◌*◌, ◌++◌, ◌∙◌, ap, length, take, arith, rules}
use Rattle.std.proofs.lemmas.List.{length-append, length-take, map-append}
use Rattle.std.proofs.Math.Nat.{mul-le-mul_right}
use Rattle.block_id.specs.declared.id.BlockId.{BlockId}
use Rattle.data_tree.specs.data_nodes.Layout.{fan_out, ids_of}
use Rattle.data_tree.proofs.Counting.{count_few}
use Rattle.data_growth.proofs.growing.grown_children.Goals as goal

pub overflow_mul-places : goal.overflow_mul-places
overflow_mul-places g c =
    let fan = fan_out (g.S.Blocks.holdings.payload c.args.tx.now.store) in
    let le : c.args.places ≤ fan = omega (arith, c.requires.places) in
    let most : c.args.places * c.args.level.room ≤ fan * c.args.level.room = mul-le-mul_right c.args.level.room le in
    omega (arith, most, c.requires.small)

pub build_children-requires-clause-fits : goal.build_children-requires-clause-fits
build_children-requires-clause-fits g c =
    let fan = fan_out (g.S.Blocks.holdings.payload c.args.tx.now.store) in
    let le : c.args.places ≤ fan = omega (arith, c.requires.places) in
    let most : c.args.places * c.args.level.room ≤ fan * c.args.level.room = mul-le-mul_right c.args.level.room le in
    omega (arith, most, length-take c.min-used.result c.args.bytes.now, c.min-used.ensures)

pub returns-clause-children : goal.returns-clause-children
returns-clause-children g c =
    let children = c.args.children.now in
    let taken = take c.min-used.result c.args.bytes.now in
    let new = c.in_ok-new.new.items in
    let all : c.extend_from_slice-2.new.self.items ≡ children ++ new =
    c.in_ok-extend_from_slice-2.ensures.items ∙ ap (λ xs. xs ++ c.deref.result.now) (c.in_ok-extend_from_slice.ensures.items ∙ ap (λ xs. xs ++ children) c.in_ok-all.ensures.items) ∙ ap (λ xs. children ++ xs) c.deref.ensures.value in
    let used : length taken ≤ c.args.places * c.args.level.room = omega (arith, length-take c.min-used.result c.args.bytes.now, c.min-used.ensures) in
    let fewer : length new ≤ c.args.places = count_few (length new) c.args.level.room (length taken) c.args.places c.in_ok-new.ensures.count.under used in
    let sum : length c.extend_from_slice-2.new.self.items ≡ length children + length new = ap length all ∙ length-append children new in
    record {
      used = search rules;
      built = (ids_of new, (ap ids_of all ∙ map-append (λ (x : BlockId). x.0) children new, c.in_ok-new.ensures.built));
      few = omega (arith, fewer, sum, c.requires.places);
      some = omega (arith, sum);
    }
