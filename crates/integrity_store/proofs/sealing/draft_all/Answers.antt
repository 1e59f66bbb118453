use Rattle.std.proofs.Common.{map, refl}
use Rattle.outside.specs.View.{list_of}
use Rattle.block_versions.specs.sealed_store.Drafts.{sealed_entry}
use Rattle.block_versions.specs.sealed_store.Stores.{block_size_of, key_of, cipher_of}
use Rattle.store_api.proofs.Draws.{later_chained}
use Rattle.block_versions.specs.Views.{held_of}
use Rattle.integrity_store.proofs.Sealed.{drafts_next, may_next, made_next, made_all}
use Rattle.integrity_store.proofs.sealing.draft_all.Goals as goal

pub draft_entry-requires-clause-may : goal.draft_entry-requires-clause-may
draft_entry-requires-clause-may g c =
    let held = held_of g.C.Sealer.opens c.args.sealed.now c.args.state.now in
    (may_next held c.args.entries.now c.loop-entry.entry-index c.entry-item.result c.loop-entry-test.true c.entry-item.is c.loop-entry.invariant.may).0

pub loop-entry-preserved : goal.loop-entry-preserved
loop-entry-preserved g c =
    let sealed = c.args.sealed.now in
    let held = held_of g.C.Sealer.opens sealed c.args.state.now in
    let size = block_size_of sealed in
    let image = sealed_entry (g.C.Sealer.sealed (cipher_of sealed) (key_of sealed)) size in
    record {
      may = (may_next held c.args.entries.now c.loop-entry.entry-index c.entry-item.result c.loop-entry-test.true c.entry-item.is c.loop-entry.invariant.may).1;
      drafts = drafts_next size c.loop-entry.changes.items c.push.new.self.items _ c.in_ok-push.ensures.items c.loop-entry.invariant.drafts c.in_ok-change.ensures.draft;
      made = made_next image held c.args.entries.now c.loop-entry.entry-index c.entry-item.result (g.R.Rng.stream c.args.chance.now) (g.R.Rng.stream c.loop-entry.chance) (g.R.Rng.stream c.draft_entry.new.chance)
          c.loop-entry.changes.items c.push.new.self.items _ c.loop-entry-test.true c.entry-item.is c.in_ok-push.ensures.items refl c.in_ok-change.ensures.change c.in_ok-change.ensures.stream c.loop-entry.invariant.made;
      later = later_chained (g.R.Rng.stream c.args.chance.now) (g.R.Rng.stream c.loop-entry.chance) (g.R.Rng.stream c.draft_entry.new.chance) c.loop-entry.invariant.later c.draft_entry.ensures.later;
    }

pub returns-clause-made : goal.returns-clause-made
returns-clause-made g c =
    let sealed = c.args.sealed.now in
    let held = held_of g.C.Sealer.opens sealed c.args.state.now in
    let image = sealed_entry (g.C.Sealer.sealed (cipher_of sealed) (key_of sealed)) (block_size_of sealed) in
    made_all held c.args.entries.now c.loop-entry.entry-index (g.R.Rng.stream c.args.chance.now) (g.R.Rng.stream c.loop-entry.chance) (map image (list_of c.loop-entry.changes.items)) c.loop-entry-test.false c.loop-entry.invariant.made

pub returns-in_err-change-clause-later : goal.returns-in_err-change-clause-later
returns-in_err-change-clause-later g c = later_chained (g.R.Rng.stream c.args.chance.now) (g.R.Rng.stream c.loop-entry.chance) (g.R.Rng.stream c.draft_entry.new.chance) c.loop-entry.invariant.later c.draft_entry.ensures.later

pub returns-in_err-push-clause-later : goal.returns-in_err-push-clause-later
returns-in_err-push-clause-later g c = later_chained (g.R.Rng.stream c.args.chance.now) (g.R.Rng.stream c.loop-entry.chance) (g.R.Rng.stream c.draft_entry.new.chance) c.loop-entry.invariant.later c.draft_entry.ensures.later
