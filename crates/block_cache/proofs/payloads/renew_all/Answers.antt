use Rattle.std.proofs.Common.{◌+◌, drop, subst}
use Rattle.store_api.specs.Entries.{entries_of, entry_view}
use Rattle.store_api.proofs.Rising.{turn}
use Rattle.block_cache.proofs.Renewing.{Renewing, renewing-start, renewing-step}
use Rattle.block_cache.proofs.payloads.renew_all.Goals as goal

pub loop-entry-init : goal.loop-entry-init
loop-entry-init c = renewing-start c.args.batch.now (entries_of c.entries-entry-items.result.now) c.args.payloads.now c.entries-entry-items.ensures

pub loop-entry-preserved : goal.loop-entry-preserved
loop-entry-preserved c =
    let entries = c.entries-entry-items.result.now in
    let i = c.loop-entry.entry-index in
    renewing-step c.args.batch.now (entry_view c.entry-item.result) (drop (i + 1) (entries_of entries)) c.args.payloads.now c.loop-entry.payloads c.renew.new.payloads
    (subst (λ rest. Renewing c.args.batch.now rest c.args.payloads.now c.loop-entry.payloads) (turn entries i c.entry-item.result c.loop-entry-test.true c.entry-item.is) c.loop-entry.invariant)
    c.renew.ensures.renewed c.renew.ensures.capacity
