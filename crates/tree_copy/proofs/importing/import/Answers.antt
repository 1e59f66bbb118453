use Rattle.std.proofs.Common.{Bool, [], ◌∙◌, refl, sym, ap, subst}
use Rattle.std.specs.Prelude.{IfSome}
use Rattle.std.specs.declared.result.Result.TheVariants.{Ok, Err}
use Rattle.copy_row.specs.copy_laws.declared.copied.CopyFail.TheVariants as fail
use Rattle.tree_copy.specs.Copies.{IsAt}
use Rattle.tree_copy.specs.Levels.{todo_of, AreKnown, Goes, IsEntered}
use Rattle.tree_copy.proofs.Places.{at_end, at_memory, failed_run}
use Rattle.tree_copy.proofs.Turning.{memory_quiet, failed_rose, none_fails, first_at, known, told_step, host_from, stop_from}
use Rattle.tree_copy.proofs.importing.import.Goals as goal

pub returns-in-Err-Memory-clause-ready : goal.returns-in-Err-Memory-clause-ready
returns-in-Err-Memory-clause-ready g c = c.requires.ready

pub returns-in-Err-Memory-clause-same : goal.returns-in-Err-Memory-clause-same
returns-in-Err-Memory-clause-same g c = c.in-Err-Memory.ensures.same

pub returns-in-Err-Memory-clause-host : goal.returns-in-Err-Memory-clause-host
returns-in-Err-Memory-clause-host g c = memory_quiet _ _ c.in-Err-Memory.field-0 c.in-Err-Memory.field-0-is c.in-Err-Memory.ensures.cause

pub returns-in-Err-Memory-clause-stops : goal.returns-in-Err-Memory-clause-stops
returns-in-Err-Memory-clause-stops g c = refl

pub returns-in-Err-Memory-clause-copied : goal.returns-in-Err-Memory-clause-copied
returns-in-Err-Memory-clause-copied g c = failed_run g.A.Asker.asking c.args.asker.now c.args.asker.now (g.F.Folder.tree c.args.host.now) c.args.target.now fail.Memory (none_fails g.A.Asker.asking g.met.A.Asker.lawful c.args.asker.now (g.F.Folder.tree c.args.host.now) c.args.target.now c.in-Err-Memory.ensures.tree).0

pub returns-in-Err-Failed-clause-ready : goal.returns-in-Err-Failed-clause-ready
returns-in-Err-Failed-clause-ready g c = c.requires.ready

pub returns-in-Err-Failed-clause-same : goal.returns-in-Err-Failed-clause-same
returns-in-Err-Failed-clause-same g c = c.in-Err-Failed.ensures.same

pub returns-in-Err-Failed-clause-host : goal.returns-in-Err-Failed-clause-host
returns-in-Err-Failed-clause-host g c = failed_rose _ _ _ c.in-Err-Failed.field-0 c.in-Err-Failed.field-0-is refl c.in-Err-Failed.ensures.cause

pub returns-in-Err-Failed-clause-stops : goal.returns-in-Err-Failed-clause-stops
returns-in-Err-Failed-clause-stops g c = refl

pub returns-in-Err-Failed-clause-copied : goal.returns-in-Err-Failed-clause-copied
returns-in-Err-Failed-clause-copied g c = failed_run g.A.Asker.asking c.args.asker.now c.args.asker.now (g.F.Folder.tree c.args.host.now) c.args.target.now fail.Host (none_fails g.A.Asker.asking g.met.A.Asker.lawful c.args.asker.now (g.F.Folder.tree c.args.host.now) c.args.target.now c.in-Err-Failed.ensures.tree).1

pub loop-init : goal.loop-init
loop-init g c =
    let items = subst (λ z. IsEntered (g.F.Folder.tree c.args.host.now) c.root.result c.args.target.now z c.enter.new.levels.items) c.new-levels.ensures.items c.in-Ok.ensures.entered in
    let first = first_at g.A.Asker.asking g.met.A.Asker.lawful c.args.asker.now (g.F.Folder.tree c.args.host.now) (g.F.Folder.tree c.args.host.now) c.args.target.now c.enter.new.levels.items refl c.in-Ok.ensures.tree (subst (λ z. IsEntered (g.F.Folder.tree c.args.host.now) z c.args.target.now [] c.enter.new.levels.items) c.root.ensures items) in
    record {
      ready = c.requires.ready;
      same = c.in-Ok.ensures.same;
      faults = c.in-Ok.ensures.cause.quiet;
      stops = refl;
      at = subst (λ z. IsAt g.A.Asker.asking c.args.asker.now c.args.asker.now (g.F.Folder.tree c.args.host.now) c.args.target.now (todo_of c.enter.new.levels.items) z) (sym c.no_totals-totals.ensures) first.0;
      targets = first.1;
    }

pub copy_next-requires-clause-ready : goal.copy_next-requires-clause-ready
copy_next-requires-clause-ready g c = c.loop.invariant.ready

pub copy_next-requires-clause-told : goal.copy_next-requires-clause-told
copy_next-requires-clause-told g c =
    let i = c.loop.invariant in
    subst (λ z. IfSome z (λ t. AreKnown t c.loop.levels.items)) (sym i.same) (known g.A.Asker.asking c.args.asker.now c.loop.asker (g.F.Folder.tree c.args.host.now) c.args.target.now c.loop.levels.items c.loop.totals i.at)

pub returns-in-Ok-false-clause-same : goal.returns-in-Ok-false-clause-same
returns-in-Ok-false-clause-same g c = c.in-Ok-false.ensures.same ∙ c.loop.invariant.same

pub returns-in-Ok-false-clause-host : goal.returns-in-Ok-false-clause-host
returns-in-Ok-false-clause-host g c = c.in-Ok-false.ensures.host ∙ c.loop.invariant.faults

pub returns-in-Ok-false-clause-stops : goal.returns-in-Ok-false-clause-stops
returns-in-Ok-false-clause-stops g c = c.in-Ok-false.ensures.stops ∙ c.loop.invariant.stops

pub returns-in-Ok-false-clause-ready : goal.returns-in-Ok-false-clause-ready
returns-in-Ok-false-clause-ready g c = c.in-Ok-false.ensures.ready

pub returns-in-Ok-false-clause-copied : goal.returns-in-Ok-false-clause-copied
returns-in-Ok-false-clause-copied g c =
    let step = told_step g.A.Asker.asking {X = Bool} c.args.asker.now c.loop.asker c.copy_next.new.asker (g.F.Folder.tree c.loop.host) (g.F.Folder.tree c.args.host.now) c.args.target.now c.loop.levels.items c.copy_next.new.levels.items c.loop.totals c.copy_next.new.totals (Ok c.in-Ok-false.field-0) c.loop.invariant.same c.in-Ok-false.ensures.steps.0 c.loop.invariant.targets c.loop.invariant.at in
    let last = subst (λ z. Goes (Ok z) c.loop.levels.items c.copy_next.new.levels.items) c.in-Ok-false.field-0-test c.in-Ok-false.ensures.steps.1 in
    at_end g.A.Asker.asking c.args.asker.now c.copy_next.new.asker (g.F.Folder.tree c.args.host.now) c.args.target.now c.copy_next.new.totals (subst (λ z. IsAt g.A.Asker.asking c.args.asker.now c.copy_next.new.asker (g.F.Folder.tree c.args.host.now) c.args.target.now z c.copy_next.new.totals) (ap todo_of last) step.0)

pub returns-in-Err-clause-ready : goal.returns-in-Err-clause-ready
returns-in-Err-clause-ready g c = c.in-Err.ensures.ready

pub returns-in-Err-clause-same : goal.returns-in-Err-clause-same
returns-in-Err-clause-same g c = c.in-Err.ensures.same ∙ c.loop.invariant.same

pub returns-in-Err-clause-host : goal.returns-in-Err-clause-host
returns-in-Err-clause-host g c = host_from _ _ _ c.in-Err.fail c.loop.invariant.faults c.in-Err.ensures.host

pub returns-in-Err-clause-stops : goal.returns-in-Err-clause-stops
returns-in-Err-clause-stops g c = stop_from _ _ _ c.in-Err.fail c.loop.invariant.stops c.in-Err.ensures.stops

pub returns-in-Err-clause-copied : goal.returns-in-Err-clause-copied
returns-in-Err-clause-copied g c = failed_run g.A.Asker.asking c.args.asker.now c.copy_next.new.asker (g.F.Folder.tree c.args.host.now) c.args.target.now c.in-Err.fail
    (told_step g.A.Asker.asking {X = Bool} c.args.asker.now c.loop.asker c.copy_next.new.asker (g.F.Folder.tree c.loop.host) (g.F.Folder.tree c.args.host.now) c.args.target.now c.loop.levels.items c.copy_next.new.levels.items c.loop.totals c.copy_next.new.totals (Err c.in-Err.fail) c.loop.invariant.same c.in-Err.ensures.steps.0 c.loop.invariant.targets c.loop.invariant.at)

pub loop-preserved : goal.loop-preserved
loop-preserved g c =
    let step = told_step g.A.Asker.asking {X = Bool} c.args.asker.now c.loop.asker c.copy_next.new.asker (g.F.Folder.tree c.loop.host) (g.F.Folder.tree c.args.host.now) c.args.target.now c.loop.levels.items c.copy_next.new.levels.items c.loop.totals c.copy_next.new.totals (Ok c.in-Ok-true.field-0) c.loop.invariant.same c.in-Ok-true.ensures.steps.0 c.loop.invariant.targets c.loop.invariant.at in
    record {
      ready = c.in-Ok-true.ensures.ready;
      same = c.in-Ok-true.ensures.same ∙ c.loop.invariant.same;
      faults = c.in-Ok-true.ensures.host ∙ c.loop.invariant.faults;
      stops = c.in-Ok-true.ensures.stops ∙ c.loop.invariant.stops;
      at = step.0;
      targets = step.1;
    }

pub returns-clause-ready : goal.returns-clause-ready
returns-clause-ready g c = c.loop.invariant.ready

pub returns-clause-same : goal.returns-clause-same
returns-clause-same g c = c.loop.invariant.same

pub returns-clause-host : goal.returns-clause-host
returns-clause-host g c = c.loop.invariant.faults

pub returns-clause-stops : goal.returns-clause-stops
returns-clause-stops g c = c.loop.invariant.stops

pub returns-clause-copied : goal.returns-clause-copied
returns-clause-copied g c = failed_run g.A.Asker.asking c.args.asker.now c.loop.asker (g.F.Folder.tree c.args.host.now) c.args.target.now fail.Memory (at_memory g.A.Asker.asking c.args.asker.now c.loop.asker (g.F.Folder.tree c.args.host.now) c.args.target.now (todo_of c.loop.levels.items) c.loop.totals c.loop.invariant.at)
