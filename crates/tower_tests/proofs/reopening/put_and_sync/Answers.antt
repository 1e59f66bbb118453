use Rattle.std.proofs.Common.{◌∙◌, ap, subst, Some}
use Rattle.std.specs.FinMap as fin
use Rattle.record_saver.specs.store_api.Content.{over}
use Rattle.record_saver.specs.store_api.Durables.{Identity}
use Rattle.tower_tests.proofs.reopening.put_and_sync.Goals as goal

pub returns-in-Ok-clause-kept : goal.returns-in-Ok-clause-kept
returns-in-Ok-clause-kept g c =
    let H = g.S.Blocks.holdings in
    let D = g.S.Durable.durables in
    let R = g.S.Durable.records in
    let a = c.args.store in
    let b = c.put_one-put.new.store in
    let changed = c.in_ok-put.ensures.changed in
    let changes = fin.insert fin.empty c.args.id.now.0 (Some c.args.payload.items) in
    let same = g.met.S.Durable.enduring.applied_identity a b changes c.in_ok-put.ensures.applied in
    let unmarked = ap (λ (d : Identity). d.marked) same ∙ c.requires.unmarked in
    let content = changed.content (g.met.S.Blocks.steady.sound_told a c.requires.sound) in
    let (bytes, is, stands) = c.in-Ok.ensures.syncs.stands (over changes (H.content a)) (changed.sound c.requires.sound) unmarked content in
    (bytes, is, subst (λ d. R.stands d bytes (D.trace c.sync-synced.new.store) (over changes (H.content a))) (c.in-Ok.ensures.moves.leaves.identity ∙ same) stands)
