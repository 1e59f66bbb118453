use Rattle.std.proofs.Common.{◌≡◌, false, inr, refl, sym, ap, subst}
use Rattle.std.specs.declared.result.Result.TheVariants.{Ok, Err}
use Rattle.mount_answering.specs.answers.Sessions.{is_violation}
use Rattle.block_id.specs.declared.fail.Why.{Why}
use Rattle.mount_answering.specs.record_saver.Saving.{world}
use Rattle.mount_answering.specs.mount_core.Showing.{ShowsFiles}
use Rattle.mount_answering.specs.store_api.declared.tx.Tx.{Tx}
use Rattle.mount_migrating.specs.Migrating.{told, Migrates, Moves}
use Rattle.mount_migrating.specs.Noticing.{PassesNone}
use Rattle.mount_migrating.specs.declared.error.MigrateError.{MigrateError}
use Rattle.mount_migrating.specs.declared.error.MigrateError.TheVariants as error
use Rattle.mount_migrating.proofs.Crowds.{listed}
use Rattle.mount_migrating.proofs.Marking.{condemned, ended}
use Rattle.mount_migrating.proofs.migrating.migrate_ids.Goals as goal

pub returns-in-Ok-clause-migrates : goal.returns-in-Ok-clause-migrates
returns-in-Ok-clause-migrates g c =
    ended ShowsFiles g.S.Blocks.meanings g.S.Blocks.holdings g.S.Durable.durables g.S.Durable.records g.K.Keeper c.args.core.now c.migrate_blocks.new.core (listed c.args.ids.now) (Ok tt) c.requires.fresh refl c.in-Ok.ensures.moves

pub returns-in-Violation-clause-migrates : goal.returns-in-Violation-clause-migrates
returns-in-Violation-clause-migrates g c =
    let W = world g.S.Blocks.meanings g.S.Blocks.holdings g.S.Durable.durables g.S.Durable.records g.K.Keeper in
    let old = c.args.core.now in
    let ids = listed c.args.ids.now in
    let moves = subst (λ (e : MigrateError). Moves ShowsFiles W old ids (Err e) c.migrate_blocks.new.core) c.in-Violation.is c.in-Err.ensures.moves in
    let m = c.mark.ensures in
    subst (λ (e : MigrateError). Migrates ShowsFiles W old ids (Err e) c.mark.new.core) (sym c.in-Violation.is)
    (condemned ShowsFiles g.S.Blocks.meanings g.S.Blocks.holdings g.S.Durable.durables g.S.Durable.records g.K.Keeper g.S.BlocksMut.applied g.met.S.Durable.enduring old c.migrate_blocks.new.core c.mark.new.core ids c.in-Violation.field-0 moves
    c.in-Err.ensures.ready.can_mark m.store m.root m.violated m.kept m.marked m.keeper_grows)

pub returns-in_default-clause-migrates : goal.returns-in_default-clause-migrates
returns-in_default-clause-migrates g c =
    ended ShowsFiles g.S.Blocks.meanings g.S.Blocks.holdings g.S.Durable.durables g.S.Durable.records g.K.Keeper c.args.core.now c.migrate_blocks.new.core (listed c.args.ids.now) (Err c.in-Err.error) c.requires.fresh
    (calm c.in-Err.error c.in_default.not-Violation) c.in-Err.ensures.moves
  where
    calm : (e : MigrateError) → ((why : Why) → e ≡ error.Violation why → ⊥) → is_violation (told {T = Unit} (Err e)) ≡ false
    calm error.Memory n = refl
    calm error.Spent n = refl
    calm error.FaultDirectory n = refl
    calm error.FaultState n = refl
    calm (error.Violation why) n = absurd (n why refl)

pub returns-in-Violation-clause-noticed : goal.returns-in-Violation-clause-noticed
returns-in-Violation-clause-noticed g c =
    subst (λ (tx : Tx g.row.S.Denot). PassesNone g.S.Blocks.meanings g.S.Blocks.holdings g.S.Durable.durables g.S.BlocksMut.applied c.args.core.now.blobs.tx.store (told {T = Unit} (Err c.in-Err.error)) tx.store) (sym c.mark.ensures.store)
    c.in-Err.ensures.noticed

pub returns-in-Ok-clause-draws : goal.returns-in-Ok-clause-draws
returns-in-Ok-clause-draws g c = record { before = c.migrate_blocks.new.core; anew = c.in-Ok.ensures.draws; same_store = refl; calm = λ e. refl; marks = λ e. absurd (cc e) }

pub returns-in-Violation-clause-draws : goal.returns-in-Violation-clause-draws
returns-in-Violation-clause-draws g c = record {
  before = c.migrate_blocks.new.core;
  anew = c.in-Err.ensures.draws;
  same_store = ap (λ (tx : Tx g.row.S.Denot). tx.store) c.mark.ensures.store;
  calm = λ e. absurd (cc (subst (λ (x : MigrateError). is_violation (told {T = Unit} (Err x)) ≡ false) c.in-Violation.is e));
  marks = λ e. c.mark.ensures.kept;
}

pub returns-in_default-clause-draws : goal.returns-in_default-clause-draws
returns-in_default-clause-draws g c = record {
  before = c.migrate_blocks.new.core;
  anew = c.in-Err.ensures.draws;
  same_store = refl;
  calm = λ e. refl;
  marks = λ e. inr refl;
}
