use Rattle.std.proofs.Common.{◌≡◌, inl, inr, ◌∙◌, refl, subst}
use Rattle.std.specs.declared.result.Result.TheVariants.{Err}
use Rattle.fs_model.specs.declared.attr.Kind.TheVariants.{Directory, File, Link}
use Rattle.copy_row.specs.copy_laws.Ends.{HostCause, StopCause, text_size}
use Rattle.tree_copy.specs.Levels.{todo_of}
use Rattle.tree_copy.proofs.Stepping.{out_long, out_row_fails, out_leaf, out_unlisted, out_entered}
use Rattle.tree_copy.proofs.Turning.{short_of, long_of, host_fails, stop_fails}
use Rattle.tree_copy.proofs.out_steps.export_at.Goals as goal

not_directory : File ≡ Directory → ⊥
not_directory e = cc

never_directory : Link ≡ Directory → ⊥
never_directory e = cc

pub returns-then-not-is_short-clause-ready : goal.returns-then-not-is_short-clause-ready
returns-then-not-is_short-clause-ready g c = c.requires.ready

pub returns-then-not-is_short-clause-host : goal.returns-then-not-is_short-clause-host
returns-then-not-is_short-clause-host g c = refl

pub returns-then-not-is_short-clause-stops : goal.returns-then-not-is_short-clause-stops
returns-then-not-is_short-clause-stops g c = refl

pub returns-then-not-is_short-clause-steps : goal.returns-then-not-is_short-clause-steps
returns-then-not-is_short-clause-steps g c = λ a before q at targets x.
    out_long g.A.Asker.asking a c.args.asker.now before (g.F.Folder.tree c.args.host.now) q c.args.at.host c.args.at.kind (todo_of c.args.levels.now.items) c.args.totals.now x (long_of c.is_short.result (text_size c.args.at.host) c.is_short.ensures c.if-not-is_short.true)

pub row_out-requires : goal.row_out-requires
row_out-requires g c = record { ready = c.requires.ready }

pub returns-in-Err-clause-ready : goal.returns-in-Err-clause-ready
returns-in-Err-clause-ready g c = c.in-Err.ensures.ready

pub returns-in-Err-clause-host : goal.returns-in-Err-clause-host
returns-in-Err-clause-host g c = host_fails _ _ c.in-Err.stop c.args.at.tree c.fail_at.result c.fail_at.ensures c.in-Err.ensures.faults

pub returns-in-Err-clause-stops : goal.returns-in-Err-clause-stops
returns-in-Err-clause-stops g c = stop_fails _ _ c.in-Err.stop c.args.at.tree c.fail_at.result c.fail_at.ensures c.in-Err.ensures.stops

pub returns-in-Err-clause-steps : goal.returns-in-Err-clause-steps
returns-in-Err-clause-steps g c = λ a before q at targets x.
    out_row_fails g.A.Asker.asking g.met.A.Asker.lawful a c.args.asker.now c.row_out.new.asker before (g.F.Folder.tree c.args.host.now) (g.F.Folder.tree c.row_out.new.host) q c.args.at.host c.args.at.tree c.args.at.kind (todo_of c.args.levels.now.items) c.args.totals.now c.row_out.new.totals c.in-Err.stop c.fail_at.result c.fail_at.ensures at x c.in-Err.ensures.out

pub returns-in-File-clause-ready : goal.returns-in-File-clause-ready
returns-in-File-clause-ready g c = c.in-Ok.ensures.ready

pub returns-in-File-clause-host : goal.returns-in-File-clause-host
returns-in-File-clause-host g c = c.in-Ok.ensures.faults

pub returns-in-File-clause-stops : goal.returns-in-File-clause-stops
returns-in-File-clause-stops g c = c.in-Ok.ensures.stops

pub returns-in-File-clause-levels : goal.returns-in-File-clause-levels
returns-in-File-clause-levels g c = inl refl

pub returns-in-File-clause-steps : goal.returns-in-File-clause-steps
returns-in-File-clause-steps g c = λ a before q at targets x.
    out_leaf g.A.Asker.asking g.met.A.Asker.lawful a c.args.asker.now c.row_out.new.asker before (g.F.Folder.tree c.args.host.now) (g.F.Folder.tree c.row_out.new.host) q c.args.at.host c.args.at.tree c.args.at.kind c.args.levels.now.items c.args.totals.now c.row_out.new.totals (λ e. not_directory (subst (λ z. z ≡ Directory) c.in-File.is e)) at targets
    (short_of c.is_short.result (text_size c.args.at.host) c.is_short.ensures c.if-not-is_short.false) x c.in-Ok.ensures.out

pub returns-in-Link-clause-ready : goal.returns-in-Link-clause-ready
returns-in-Link-clause-ready g c = c.in-Ok.ensures.ready

pub returns-in-Link-clause-host : goal.returns-in-Link-clause-host
returns-in-Link-clause-host g c = c.in-Ok.ensures.faults

pub returns-in-Link-clause-stops : goal.returns-in-Link-clause-stops
returns-in-Link-clause-stops g c = c.in-Ok.ensures.stops

pub returns-in-Link-clause-levels : goal.returns-in-Link-clause-levels
returns-in-Link-clause-levels g c = inl refl

pub returns-in-Link-clause-steps : goal.returns-in-Link-clause-steps
returns-in-Link-clause-steps g c = λ a before q at targets x.
    out_leaf g.A.Asker.asking g.met.A.Asker.lawful a c.args.asker.now c.row_out.new.asker before (g.F.Folder.tree c.args.host.now) (g.F.Folder.tree c.row_out.new.host) q c.args.at.host c.args.at.tree c.args.at.kind c.args.levels.now.items c.args.totals.now c.row_out.new.totals (λ e. never_directory (subst (λ z. z ≡ Directory) c.in-Link.is e)) at targets
    (short_of c.is_short.result (text_size c.args.at.host) c.is_short.ensures c.if-not-is_short.false) x c.in-Ok.ensures.out

pub begin_tree-requires : goal.begin_tree-requires
begin_tree-requires g c = record { ready = c.in-Ok.ensures.ready }

pub returns-in-Err-begin_tree-clause-ready : goal.returns-in-Err-begin_tree-clause-ready
returns-in-Err-begin_tree-clause-ready g c = c.in-Err-begin_tree.ensures.ready

pub returns-in-Err-begin_tree-clause-host : goal.returns-in-Err-begin_tree-clause-host
returns-in-Err-begin_tree-clause-host g c =
    subst (λ z. HostCause {X = Unit {0}} z (g.F.Folder.faults c.row_out.new.host) (Err c.in-Err-begin_tree.fail)) c.in-Ok.ensures.faults (c.in-Err-begin_tree.ensures.host (g.F.Folder.faults c.row_out.new.host))

pub returns-in-Err-begin_tree-clause-stops : goal.returns-in-Err-begin_tree-clause-stops
returns-in-Err-begin_tree-clause-stops g c =
    subst (λ z. StopCause {X = Unit {0}} z (g.A.Asker.asking.stops c.begin_tree.new.asker) (Err c.in-Err-begin_tree.fail)) c.in-Ok.ensures.stops c.in-Err-begin_tree.ensures.stops

pub returns-in-Err-begin_tree-clause-steps : goal.returns-in-Err-begin_tree-clause-steps
returns-in-Err-begin_tree-clause-steps g c = λ a before q at targets x.
    let b = c.in-Err-begin_tree.ensures.begun in
    out_unlisted g.A.Asker.asking g.met.A.Asker.lawful a c.args.asker.now c.row_out.new.asker c.begin_tree.new.asker before (g.F.Folder.tree c.args.host.now) (g.F.Folder.tree c.row_out.new.host) q c.args.at.host c.args.at.tree c.args.at.kind (todo_of c.args.levels.now.items) c.args.levels.now.items c.begin_tree.new.levels.items
    c.args.totals.now c.row_out.new.totals b.0 c.in-Err-begin_tree.fail b.1.0 at x c.in-Ok.ensures.out b.1.1

pub returns-clause-ready : goal.returns-clause-ready
returns-clause-ready g c = c.in-Ok-begin_tree.ensures.ready

pub returns-clause-host : goal.returns-clause-host
returns-clause-host g c = c.in-Ok.ensures.faults

pub returns-clause-stops : goal.returns-clause-stops
returns-clause-stops g c = c.in-Ok-begin_tree.ensures.stops ∙ c.in-Ok.ensures.stops

pub returns-clause-levels : goal.returns-clause-levels
returns-clause-levels g c = let o = c.in-Ok-begin_tree.ensures.begun.opened in inr (o.level, (o.is, o.of_host))

pub returns-clause-steps : goal.returns-clause-steps
returns-clause-steps g c = λ a before q at targets x.
    out_entered g.A.Asker.asking g.met.A.Asker.lawful a c.args.asker.now c.row_out.new.asker c.begin_tree.new.asker before (g.F.Folder.tree c.args.host.now) (g.F.Folder.tree c.row_out.new.host) q c.args.at.host c.args.at.tree c.args.at.kind c.args.levels.now.items c.begin_tree.new.levels.items c.args.totals.now c.row_out.new.totals at targets
    (short_of c.is_short.result (text_size c.args.at.host) c.is_short.ensures c.if-not-is_short.false) x c.in-Ok.ensures.out c.in-Ok-begin_tree.ensures.begun
