use Rattle.std.proofs.Common.{[], ◌∙◌, refl, sym, ap, subst}
use Rattle.std.specs.declared.result.Result.TheVariants.{Ok, Err}
use Rattle.copy_row.specs.copy_laws.declared.copied.CopyFail.TheVariants as fail
use Rattle.tree_copy.specs.Copies.{fail_of}
use Rattle.tree_copy.specs.Exports.{IsOutAt, TreeEntered}
use Rattle.tree_copy.specs.Levels.{todo_of, Goes}
use Rattle.tree_copy.proofs.Stepping.{out_memory, out_end, failed_out, out_first, out_never, out_unasked}
use Rattle.tree_copy.proofs.Turning.{host_from, stop_from}
use Rattle.tree_copy.proofs.exporting.copy_out.Goals as goal

pub returns-in-Err-clause-copied : goal.returns-in-Err-clause-copied
returns-in-Err-clause-copied g c = failed_out g.A.Asker.asking c.args.asker.now c.args.asker.now (g.F.Folder.tree c.args.host.now) (g.F.Folder.tree c.args.host.now) c.args.source.now fail.Memory (out_unasked g.A.Asker.asking g.met.A.Asker.lawful c.args.asker.now (g.F.Folder.tree c.args.host.now) c.args.source.now c.requires.bare)

pub returns-in-Err-begin_tree-clause-host : goal.returns-in-Err-begin_tree-clause-host
returns-in-Err-begin_tree-clause-host g c = c.in-Err-begin_tree.ensures.host (g.F.Folder.faults c.args.host.now)

pub returns-in-Err-begin_tree-clause-stops : goal.returns-in-Err-begin_tree-clause-stops
returns-in-Err-begin_tree-clause-stops g c = c.in-Err-begin_tree.ensures.stops

pub returns-in-Err-begin_tree-clause-copied : goal.returns-in-Err-begin_tree-clause-copied
returns-in-Err-begin_tree-clause-copied g c =
    let b = c.in-Err-begin_tree.ensures.begun in
    failed_out g.A.Asker.asking c.args.asker.now c.begin_tree.new.asker (g.F.Folder.tree c.args.host.now) (g.F.Folder.tree c.args.host.now) c.args.source.now c.in-Err-begin_tree.fail
    (out_never g.A.Asker.asking g.met.A.Asker.lawful c.args.asker.now c.begin_tree.new.asker (g.F.Folder.tree c.args.host.now) c.args.source.now c.new-levels.result.items c.begin_tree.new.levels.items b.0 c.in-Err-begin_tree.fail (b.1.0 ∙ ap (fail_of b.0) c.in-Ok.ensures) c.requires.bare
    (subst (λ z. TreeEntered g.A.Asker.asking c.args.asker.now c.begin_tree.new.asker [] z c.new-levels.result.items c.begin_tree.new.levels.items (Err b.0)) c.in-Ok.ensures
    (subst (λ z. TreeEntered g.A.Asker.asking c.args.asker.now c.begin_tree.new.asker z c.in-Ok.path c.new-levels.result.items c.begin_tree.new.levels.items (Err b.0)) c.root.ensures b.1.1)))

pub loop-init : goal.loop-init
loop-init g c =
    let first = out_first g.A.Asker.asking g.met.A.Asker.lawful c.args.asker.now c.begin_tree.new.asker (g.F.Folder.tree c.args.host.now) c.args.source.now c.begin_tree.new.levels.items c.requires.tree c.requires.bare
    (subst (λ z. TreeEntered g.A.Asker.asking c.args.asker.now c.begin_tree.new.asker [] c.args.source.now z c.begin_tree.new.levels.items (Ok tt)) c.new-levels.ensures.items
    (subst (λ z. TreeEntered g.A.Asker.asking c.args.asker.now c.begin_tree.new.asker [] z c.new-levels.result.items c.begin_tree.new.levels.items (Ok tt)) c.in-Ok.ensures
    (subst (λ z. TreeEntered g.A.Asker.asking c.args.asker.now c.begin_tree.new.asker z c.in-Ok.path c.new-levels.result.items c.begin_tree.new.levels.items (Ok tt)) c.root.ensures c.in-Ok-begin_tree.ensures.begun))) in
    record {
      ready = c.in-Ok-begin_tree.ensures.ready;
      faults = refl;
      stops = c.in-Ok-begin_tree.ensures.stops;
      at = subst (λ z. IsOutAt g.A.Asker.asking c.args.asker.now c.begin_tree.new.asker (g.F.Folder.tree c.args.host.now) (g.F.Folder.tree c.args.host.now) c.args.source.now (todo_of c.begin_tree.new.levels.items) z) (sym c.no_totals-totals.ensures) first.0;
      targets = first.1;
    }

pub returns-in-Ok-false-clause-host : goal.returns-in-Ok-false-clause-host
returns-in-Ok-false-clause-host g c = c.in-Ok-false.ensures.host ∙ c.loop.invariant.faults

pub returns-in-Ok-false-clause-stops : goal.returns-in-Ok-false-clause-stops
returns-in-Ok-false-clause-stops g c = c.in-Ok-false.ensures.stops ∙ c.loop.invariant.stops

pub returns-in-Ok-false-clause-copied : goal.returns-in-Ok-false-clause-copied
returns-in-Ok-false-clause-copied g c =
    let step = c.in-Ok-false.ensures.steps.0 c.args.asker.now (g.F.Folder.tree c.args.host.now) c.args.source.now c.loop.invariant.targets c.loop.invariant.at in
    let last = subst (λ z. Goes (Ok z) c.loop.levels.items c.export_next.new.levels.items) c.in-Ok-false.field-0-test c.in-Ok-false.ensures.steps.1 in
    out_end g.A.Asker.asking c.args.asker.now c.export_next.new.asker (g.F.Folder.tree c.args.host.now) (g.F.Folder.tree c.export_next.new.host) c.args.source.now c.export_next.new.totals
    (subst (λ z. IsOutAt g.A.Asker.asking c.args.asker.now c.export_next.new.asker (g.F.Folder.tree c.args.host.now) (g.F.Folder.tree c.export_next.new.host) c.args.source.now z c.export_next.new.totals) (ap todo_of last) step.0)

pub returns-in-Err-export_next-clause-host : goal.returns-in-Err-export_next-clause-host
returns-in-Err-export_next-clause-host g c = host_from _ _ _ c.in-Err-export_next.fail c.loop.invariant.faults c.in-Err-export_next.ensures.host

pub returns-in-Err-export_next-clause-stops : goal.returns-in-Err-export_next-clause-stops
returns-in-Err-export_next-clause-stops g c = stop_from _ _ _ c.in-Err-export_next.fail c.loop.invariant.stops c.in-Err-export_next.ensures.stops

pub returns-in-Err-export_next-clause-copied : goal.returns-in-Err-export_next-clause-copied
returns-in-Err-export_next-clause-copied g c =
    failed_out g.A.Asker.asking c.args.asker.now c.export_next.new.asker (g.F.Folder.tree c.args.host.now) (g.F.Folder.tree c.export_next.new.host) c.args.source.now c.in-Err-export_next.fail (c.in-Err-export_next.ensures.steps.0 c.args.asker.now (g.F.Folder.tree c.args.host.now) c.args.source.now c.loop.invariant.targets c.loop.invariant.at)

pub loop-preserved : goal.loop-preserved
loop-preserved g c =
    let step = c.in-Ok-true.ensures.steps.0 c.args.asker.now (g.F.Folder.tree c.args.host.now) c.args.source.now c.loop.invariant.targets c.loop.invariant.at in
    record {
      ready = c.in-Ok-true.ensures.ready;
      faults = c.in-Ok-true.ensures.host ∙ c.loop.invariant.faults;
      stops = c.in-Ok-true.ensures.stops ∙ c.loop.invariant.stops;
      at = step.0;
      targets = step.1;
    }

pub returns-clause-host : goal.returns-clause-host
returns-clause-host g c = c.loop.invariant.faults

pub returns-clause-stops : goal.returns-clause-stops
returns-clause-stops g c = c.loop.invariant.stops

pub returns-clause-copied : goal.returns-clause-copied
returns-clause-copied g c = failed_out g.A.Asker.asking c.args.asker.now c.loop.asker (g.F.Folder.tree c.args.host.now) (g.F.Folder.tree c.loop.host) c.args.source.now fail.Memory (out_memory g.A.Asker.asking c.args.asker.now c.loop.asker (g.F.Folder.tree c.args.host.now) (g.F.Folder.tree c.loop.host) c.args.source.now (todo_of c.loop.levels.items) c.loop.totals c.loop.invariant.at)
