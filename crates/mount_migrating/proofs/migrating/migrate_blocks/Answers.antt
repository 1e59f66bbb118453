use Rattle.std.proofs.Common.{◌∙◌, refl, sym, inr}
use Rattle.mount_answering.specs.mount_core.Showing.{ShowsFiles}
use Rattle.std.specs.declared.result.Result.TheVariants.{Err}
use Rattle.mount_migrating.specs.Migrating.{told}
use Rattle.mount_migrating.proofs.Chains.{moves_all, moves_unrenewed, moves_unsynced}
use Rattle.mount_migrating.proofs.Crowds.{listed}
use Rattle.mount_migrating.proofs.Drawing.{draws_ended, draws_synced}
use Rattle.mount_migrating.proofs.Noticing.{along_answered, along_then, passes_along}
use Rattle.mount_migrating.proofs.migrating.migrate_blocks.Goals as goal

pub returns-in-Err-clause-moves : goal.returns-in-Err-clause-moves
returns-in-Err-clause-moves g c =
    moves_unrenewed ShowsFiles g.S.Blocks.meanings g.S.Blocks.holdings g.S.Durable.durables g.S.Durable.records g.K.Keeper c.args.core.now c.renew_all.new.core (listed c.args.ids.now) c.in-Err.error c.in-Err.ensures.renews

pub keep_present-requires-clause-fresh : goal.keep_present-requires-clause-fresh
keep_present-requires-clause-fresh g c = c.in-Ok.ensures.renews.proceeds.violated ∙ c.requires.fresh

pub raise_least-requires-clause-may : goal.raise_least-requires-clause-may
raise_least-requires-clause-may g c =
    let w = c.in-Ok.ensures.renews in
    let r = c.in-Ok-keep_present.ensures.rests in
    inr (refl, λ id live. r.stays_new id (w.are_new id (c.requires.live id ∙ (sym (w.proceeds.ids id) ∙ (sym (r.proceeds.ids id) ∙ live)))))

pub returns-in-Err-keep_present-clause-moves : goal.returns-in-Err-keep_present-clause-moves
returns-in-Err-keep_present-clause-moves g c =
    moves_unsynced ShowsFiles g.S.Blocks.meanings g.S.Blocks.holdings g.S.Durable.durables g.S.Durable.records g.K.Keeper c.args.core.now c.renew_all.new.core (listed c.args.ids.now) c.in-Ok.ensures.renews
    c.keep_present.new.core c.in-Err-keep_present.error c.in-Err-keep_present.ensures.leaves.least c.in-Err-keep_present.ensures.rests

pub returns-in-Ok-keep_present-clause-moves : goal.returns-in-Ok-keep_present-clause-moves
returns-in-Ok-keep_present-clause-moves g c =
    moves_all ShowsFiles g.S.Blocks.meanings g.S.Blocks.holdings g.S.Durable.durables g.S.Durable.records g.K.Keeper c.args.core.now c.renew_all.new.core (listed c.args.ids.now) c.in-Ok.ensures.renews
    c.keep_present.new.core c.raise_least.new.core c.raise_least.result c.in-Ok-keep_present.ensures.rests c.in-Ok-keep_present.ensures.kept c.raise_least.ensures.rests c.raise_least.ensures.done c.raise_least.ensures.least

-- ---- no wrong file is passed over

pub returns-in-Err-clause-noticed : goal.returns-in-Err-clause-noticed
returns-in-Err-clause-noticed g c =
    passes_along g.S.Blocks.meanings g.S.Blocks.holdings g.S.Durable.durables g.S.BlocksMut.applied c.args.core.now.blobs.tx.store c.renew_all.new.core.blobs.tx.store (told {T = Unit} (Err c.in-Err.error)) c.in-Err.ensures.noticed

pub returns-in-Err-keep_present-clause-noticed : goal.returns-in-Err-keep_present-clause-noticed
returns-in-Err-keep_present-clause-noticed g c =
    let M = g.S.Blocks.meanings in
    let H = g.S.Blocks.holdings in
    let D = g.S.Durable.durables in
    let old = c.args.core.now.blobs.tx.store in
    let new = c.keep_present.new.core.blobs.tx.store in
    let answer = told {T = Unit} (Err c.in-Err-keep_present.error) in
    passes_along M H D g.S.BlocksMut.applied old new answer (along_then M H D g.S.BlocksMut.applied old c.renew_all.new.core.blobs.tx.store new answer c.in-Ok.ensures.noticed c.in-Err-keep_present.ensures.noticed)

pub returns-in-Ok-keep_present-clause-noticed : goal.returns-in-Ok-keep_present-clause-noticed
returns-in-Ok-keep_present-clause-noticed g c =
    let M = g.S.Blocks.meanings in
    let H = g.S.Blocks.holdings in
    let D = g.S.Durable.durables in
    let old = c.args.core.now.blobs.tx.store in
    let mid = c.renew_all.new.core.blobs.tx.store in
    let end = c.keep_present.new.core.blobs.tx.store in
    let answer = told c.raise_least.result in
    let last = along_answered M H D g.S.BlocksMut.applied mid end answer c.in-Ok-keep_present.ensures.noticed in
    record { end = end; along = along_then M H D g.S.BlocksMut.applied old mid end answer c.in-Ok.ensures.noticed last; set = c.raise_least.ensures.sets.set }

-- ---- what it draws

pub returns-in-Err-clause-draws : goal.returns-in-Err-clause-draws
returns-in-Err-clause-draws g c = draws_ended g.S.Blocks.meanings g.S.Blocks.holdings g.S.Durable.durables g.S.Durable.records g.K.Keeper g.S.BlocksMut.applied g.S.BlocksMut.drawn c.args.core.now c.renew_all.new.core _ _ c.in-Err.ensures.draws

pub returns-in-Err-keep_present-clause-draws : goal.returns-in-Err-keep_present-clause-draws
returns-in-Err-keep_present-clause-draws g c =
    let old = c.args.core.now in
    let new = c.keep_present.new.core in
    let r = c.in-Err-keep_present.ensures in
    draws_ended g.S.Blocks.meanings g.S.Blocks.holdings g.S.Durable.durables g.S.Durable.records g.K.Keeper g.S.BlocksMut.applied g.S.BlocksMut.drawn old new _ _
    (draws_synced g.S.Blocks.meanings g.S.Blocks.holdings g.S.Durable.durables g.S.Durable.records g.K.Keeper g.S.BlocksMut.applied g.S.BlocksMut.drawn g.met.S.Blocks.lawful old c.renew_all.new.core new _ _ c.in-Ok.ensures.draws c.in-Ok.ensures.ready.intact r.leaves.wrote r.rests.used r.leaves.keeps)

pub returns-in-Ok-keep_present-clause-draws : goal.returns-in-Ok-keep_present-clause-draws
returns-in-Ok-keep_present-clause-draws g c =
    let end = c.keep_present.new.core in
    let r = c.in-Ok-keep_present.ensures in
    let s = c.raise_least.ensures.sets in
    record {
      end = end;
      along = draws_synced g.S.Blocks.meanings g.S.Blocks.holdings g.S.Durable.durables g.S.Durable.records g.K.Keeper g.S.BlocksMut.applied g.S.BlocksMut.drawn g.met.S.Blocks.lawful c.args.core.now c.renew_all.new.core end _ _ c.in-Ok.ensures.draws c.in-Ok.ensures.ready.intact r.leaves.wrote r.rests.used r.leaves.keeps;
      set = s.set;
      short = s.short;
      set_short = s.set_short;
      keeps = s.keeps;
    }
