use Rattle.std.proofs.Common.{◌-◌, slice_index_or, subst, arith}
use Rattle.std.proofs.lemmas.List.{get_or_read}
use Rattle.std.proofs.lemmas.List.Sorted.{all_adjacent_more}
use Rattle.fs_model.specs.declared.reply.ListRow.{ListRow}
use Rattle.real_host_folder.proofs.Rising.{IsBelow, neighbours_rise}
use Rattle.real_host_folder.proofs.listing.rise.Goals as goal

pub loop-i-init : goal.loop-i-init
loop-i-init c = λ k d l. absurd (omega (arith, l))

pub loop-i-preserved : goal.loop-i-preserved
loop-i-preserved c =
    let rows = c.args.rows.now in
    let first = get_or_read rows (c.loop-i.i - 1) c.index-rows-i.result (omega (arith, c.loop-i-test.true)) c.index-rows-i.is in
    let second = get_or_read rows c.loop-i.i c.index-rows-i-in-loop-i.result c.loop-i-test.true c.index-rows-i-in-loop-i.is in
    all_adjacent_more rows IsBelow c.loop-i.i (omega (arith, c.loop-i.auto.i)) c.loop-i.invariant (λ d.
    subst (λ (row : ListRow). IsBelow row (slice_index_or rows c.loop-i.i d)) (first d)
    (subst (λ (row : ListRow). IsBelow c.index-rows-i.result row) (second d) (c.stands_below.ensures c.if-not-stands_below.false)))

pub returns : goal.returns
returns c = λ _. neighbours_rise c.args.rows.now (λ k d l. c.loop-i.invariant k d (omega (arith, l, c.loop-i-test.false)))
