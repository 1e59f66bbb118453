use Rattle.std.proofs.Common.{◌≡◌, inl, inr, ◌<◌, ◌∙◌, refl, sym, subst}
use Rattle.fs_model.specs.declared.attr.Kind.TheVariants.{Directory, File, Link}
use Rattle.copy_row.specs.copy_laws.declared.copied.CopyFail.TheVariants as fail
use Rattle.copy_row.specs.copy_laws.Ends.{text_size}
use Rattle.tree_copy.specs.Copies.{Failed}
use Rattle.tree_copy.specs.Levels.{todo_of}
use Rattle.tree_copy.proofs.Places.{at_long}
use Rattle.tree_copy.proofs.Turning.{short_of, long_of, host_fails, stop_fails, memory_quiet, failed_rose, entered, leaf, row_stops, list_stops}
use Rattle.tree_copy.proofs.steps.copy_at.Goals as goal

not_directory : File ≡ Directory → ⊥
not_directory e = cc

never_directory : Link ≡ Directory → ⊥
never_directory e = cc

pub returns-then-not-is_short-clause-ready : goal.returns-then-not-is_short-clause-ready
returns-then-not-is_short-clause-ready g c = c.requires.ready

pub returns-then-not-is_short-clause-same : goal.returns-then-not-is_short-clause-same
returns-then-not-is_short-clause-same g c = refl

pub returns-then-not-is_short-clause-host : goal.returns-then-not-is_short-clause-host
returns-then-not-is_short-clause-host g c = refl

pub returns-then-not-is_short-clause-stops : goal.returns-then-not-is_short-clause-stops
returns-then-not-is_short-clause-stops g c = refl

pub returns-then-not-is_short-clause-steps : goal.returns-then-not-is_short-clause-steps
returns-then-not-is_short-clause-steps g c = λ first q to targets at.
    subst (λ z. Failed g.A.Asker.asking first c.args.asker.now (g.F.Folder.tree c.args.host.now) q (fail.LongPath z)) (sym to)
    (at_long g.A.Asker.asking first c.args.asker.now (g.F.Folder.tree c.args.host.now) q c.args.at.host c.args.at.kind (todo_of c.args.levels.now.items) c.args.totals.now at (subst (λ z. 4096 < text_size z) to (long_of c.is_short.result (text_size c.args.at.tree) c.is_short.ensures c.if-not-is_short.true)))

pub copy_row-requires-clause-ready : goal.copy_row-requires-clause-ready
copy_row-requires-clause-ready g c = c.requires.ready

pub copy_row-requires-clause-told : goal.copy_row-requires-clause-told
copy_row-requires-clause-told g c = c.requires.told

pub returns-in-Err-clause-ready : goal.returns-in-Err-clause-ready
returns-in-Err-clause-ready g c = c.in-Err.ensures.ready

pub returns-in-Err-clause-same : goal.returns-in-Err-clause-same
returns-in-Err-clause-same g c = c.in-Err.ensures.same

pub returns-in-Err-clause-host : goal.returns-in-Err-clause-host
returns-in-Err-clause-host g c = host_fails _ _ c.in-Err.stop c.args.at.tree c.fail_at.result c.fail_at.ensures c.in-Err.ensures.faults

pub returns-in-Err-clause-stops : goal.returns-in-Err-clause-stops
returns-in-Err-clause-stops g c = stop_fails _ _ c.in-Err.stop c.args.at.tree c.fail_at.result c.fail_at.ensures c.in-Err.ensures.stops

pub returns-in-Err-clause-steps : goal.returns-in-Err-clause-steps
returns-in-Err-clause-steps g c = λ first q to targets at. row_stops g.A.Asker.asking g.met.A.Asker.lawful first c.args.asker.now c.copy_row.new.asker (g.F.Folder.tree c.args.host.now) q c.args.at.host c.args.at.kind c.args.at.tree c.args.levels.now.items c.args.totals.now c.copy_row.new.totals c.in-Err.stop c.fail_at.result c.fail_at.ensures to at c.in-Err.ensures.copied

pub returns-in-File-clause-ready : goal.returns-in-File-clause-ready
returns-in-File-clause-ready g c = c.in-Ok.ensures.ready

pub returns-in-File-clause-same : goal.returns-in-File-clause-same
returns-in-File-clause-same g c = c.in-Ok.ensures.same

pub returns-in-File-clause-host : goal.returns-in-File-clause-host
returns-in-File-clause-host g c = c.in-Ok.ensures.faults

pub returns-in-File-clause-stops : goal.returns-in-File-clause-stops
returns-in-File-clause-stops g c = c.in-Ok.ensures.stops

pub returns-in-File-clause-steps : goal.returns-in-File-clause-steps
returns-in-File-clause-steps g c = λ first q to targets at. leaf g.A.Asker.asking g.met.A.Asker.lawful first c.args.asker.now c.copy_row.new.asker (g.F.Folder.tree c.args.host.now) q c.args.at.host c.args.at.kind c.args.at.tree c.args.levels.now.items c.args.totals.now c.copy_row.new.totals (λ e. not_directory (sym c.in-File.is ∙ e)) to targets at (short_of c.is_short.result (text_size c.args.at.tree) c.is_short.ensures c.if-not-is_short.false) c.in-Ok.ensures.copied

pub returns-in-Link-clause-ready : goal.returns-in-Link-clause-ready
returns-in-Link-clause-ready g c = c.in-Ok.ensures.ready

pub returns-in-Link-clause-same : goal.returns-in-Link-clause-same
returns-in-Link-clause-same g c = c.in-Ok.ensures.same

pub returns-in-Link-clause-host : goal.returns-in-Link-clause-host
returns-in-Link-clause-host g c = c.in-Ok.ensures.faults

pub returns-in-Link-clause-stops : goal.returns-in-Link-clause-stops
returns-in-Link-clause-stops g c = c.in-Ok.ensures.stops

pub returns-in-Link-clause-steps : goal.returns-in-Link-clause-steps
returns-in-Link-clause-steps g c = λ first q to targets at. leaf g.A.Asker.asking g.met.A.Asker.lawful first c.args.asker.now c.copy_row.new.asker (g.F.Folder.tree c.args.host.now) q c.args.at.host c.args.at.kind c.args.at.tree c.args.levels.now.items c.args.totals.now c.copy_row.new.totals (λ e. never_directory (sym c.in-Link.is ∙ e)) to targets at (short_of c.is_short.result (text_size c.args.at.tree) c.is_short.ensures c.if-not-is_short.false) c.in-Ok.ensures.copied

pub returns-in-Err-Memory-clause-ready : goal.returns-in-Err-Memory-clause-ready
returns-in-Err-Memory-clause-ready g c = c.in-Ok.ensures.ready

pub returns-in-Err-Memory-clause-same : goal.returns-in-Err-Memory-clause-same
returns-in-Err-Memory-clause-same g c = c.in-Err-Memory.ensures.same ∙ c.in-Ok.ensures.same

pub returns-in-Err-Memory-clause-host : goal.returns-in-Err-Memory-clause-host
returns-in-Err-Memory-clause-host g c = memory_quiet _ _ c.in-Err-Memory.field-0 c.in-Err-Memory.field-0-is c.in-Err-Memory.ensures.cause ∙ c.in-Ok.ensures.faults

pub returns-in-Err-Memory-clause-stops : goal.returns-in-Err-Memory-clause-stops
returns-in-Err-Memory-clause-stops g c = c.in-Ok.ensures.stops

pub returns-in-Err-Memory-clause-steps : goal.returns-in-Err-Memory-clause-steps
returns-in-Err-Memory-clause-steps g c = λ first q to targets at. (list_stops g.A.Asker.asking g.met.A.Asker.lawful first c.args.asker.now c.copy_row.new.asker (g.F.Folder.tree c.args.host.now) q c.args.at.host c.args.at.kind c.args.at.tree c.args.levels.now.items c.args.totals.now c.copy_row.new.totals to at c.in-Ok.ensures.copied).0

pub returns-in-Err-Failed-clause-ready : goal.returns-in-Err-Failed-clause-ready
returns-in-Err-Failed-clause-ready g c = c.in-Ok.ensures.ready

pub returns-in-Err-Failed-clause-same : goal.returns-in-Err-Failed-clause-same
returns-in-Err-Failed-clause-same g c = c.in-Err-Failed.ensures.same ∙ c.in-Ok.ensures.same

pub returns-in-Err-Failed-clause-host : goal.returns-in-Err-Failed-clause-host
returns-in-Err-Failed-clause-host g c = failed_rose _ _ _ c.in-Err-Failed.field-0 c.in-Err-Failed.field-0-is c.in-Ok.ensures.faults c.in-Err-Failed.ensures.cause

pub returns-in-Err-Failed-clause-stops : goal.returns-in-Err-Failed-clause-stops
returns-in-Err-Failed-clause-stops g c = c.in-Ok.ensures.stops

pub returns-in-Err-Failed-clause-steps : goal.returns-in-Err-Failed-clause-steps
returns-in-Err-Failed-clause-steps g c = λ first q to targets at. (list_stops g.A.Asker.asking g.met.A.Asker.lawful first c.args.asker.now c.copy_row.new.asker (g.F.Folder.tree c.args.host.now) q c.args.at.host c.args.at.kind c.args.at.tree c.args.levels.now.items c.args.totals.now c.copy_row.new.totals to at c.in-Ok.ensures.copied).1

pub returns-clause-ready : goal.returns-clause-ready
returns-clause-ready g c = c.in-Ok.ensures.ready

pub returns-clause-same : goal.returns-clause-same
returns-clause-same g c = c.in-Ok-enter.ensures.same ∙ c.in-Ok.ensures.same

pub returns-clause-host : goal.returns-clause-host
returns-clause-host g c = c.in-Ok-enter.ensures.cause.quiet ∙ c.in-Ok.ensures.faults

pub returns-clause-stops : goal.returns-clause-stops
returns-clause-stops g c = c.in-Ok.ensures.stops

pub returns-clause-steps : goal.returns-clause-steps
returns-clause-steps g c = λ first q to targets at. entered g.A.Asker.asking g.met.A.Asker.lawful first c.args.asker.now c.copy_row.new.asker (g.F.Folder.tree c.args.host.now) (g.F.Folder.tree c.copy_row.new.host) q c.args.at.host c.args.at.kind c.args.at.tree c.args.levels.now.items c.enter.new.levels.items c.args.totals.now c.copy_row.new.totals c.in-Ok.ensures.same to targets at (short_of c.is_short.result (text_size c.args.at.tree) c.is_short.ensures c.if-not-is_short.false) c.in-Ok.ensures.copied c.in-Ok-enter.ensures.entered

pub returns-in-File-clause-levels : goal.returns-in-File-clause-levels
returns-in-File-clause-levels g c = inl refl

pub returns-in-Link-clause-levels : goal.returns-in-Link-clause-levels
returns-in-Link-clause-levels g c = inl refl

pub returns-clause-levels : goal.returns-clause-levels
returns-clause-levels g c = let e = c.in-Ok-enter.ensures.entered in inr (e.level, (e.is, e.host))
