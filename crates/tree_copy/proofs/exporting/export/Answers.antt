use Rattle.std.proofs.Common.{refl, sym, subst}
use Rattle.std.specs.Prelude.{IfSome}
use Rattle.std.specs.declared.result.Result.TheVariants.{Err}
use Rattle.fs_model.specs.declared.error.FsError.TheVariants.{NotEmpty}
use Rattle.copy_row.specs.host_folder.Folders.{IsHostTree}
use Rattle.copy_row.specs.copy_laws.declared.copied.CopyFail.TheVariants as fail
use Rattle.copy_row.specs.copy_laws.Ends.{HostCause}
use Rattle.copy_row.specs.copy_laws.Exporting.{IsBare}
use Rattle.tree_copy.specs.Exports.{BareIs}
use Rattle.tree_copy.proofs.Stepping.{run_begun, run_idle}
use Rattle.tree_copy.proofs.Turning.{memory_quiet, failed_rose}
use Rattle.tree_copy.proofs.exporting.export.Goals as goal

pub returns-in-Ok-false-clause-host : goal.returns-in-Ok-false-clause-host
returns-in-Ok-false-clause-host g c = c.in-Ok-false.ensures.cause.quiet

pub returns-in-Ok-false-clause-copied : goal.returns-in-Ok-false-clause-copied
returns-in-Ok-false-clause-copied g c =
    run_idle g.A.Asker.asking g.met.A.Asker.lawful c.args.asker.now (g.F.Folder.tree c.args.host.now) (g.F.Folder.tree c.is_bare.new.host) c.args.source.now (Err (fail.Refused c.root.result NotEmpty)) c.in-Ok-false.ensures.same
    ((c.root.ensures, refl), subst (λ z. IfSome (g.F.Folder.tree c.args.host.now) (BareIs z)) c.in-Ok-false.field-0-test c.in-Ok-false.ensures.bare)

pub returns-in-Err-Memory-clause-host : goal.returns-in-Err-Memory-clause-host
returns-in-Err-Memory-clause-host g c = memory_quiet _ _ c.in-Err-Memory.field-0 c.in-Err-Memory.field-0-is c.in-Err-Memory.ensures.cause

pub returns-in-Err-Memory-clause-copied : goal.returns-in-Err-Memory-clause-copied
returns-in-Err-Memory-clause-copied g c = run_idle g.A.Asker.asking g.met.A.Asker.lawful c.args.asker.now (g.F.Folder.tree c.args.host.now) (g.F.Folder.tree c.is_bare.new.host) c.args.source.now (Err fail.Memory) c.in-Err-Memory.ensures.same tt

pub returns-in-Err-Failed-clause-host : goal.returns-in-Err-Failed-clause-host
returns-in-Err-Failed-clause-host g c = failed_rose _ _ _ c.in-Err-Failed.field-0 c.in-Err-Failed.field-0-is refl c.in-Err-Failed.ensures.cause

pub returns-in-Err-Failed-clause-copied : goal.returns-in-Err-Failed-clause-copied
returns-in-Err-Failed-clause-copied g c = run_idle g.A.Asker.asking g.met.A.Asker.lawful c.args.asker.now (g.F.Folder.tree c.args.host.now) (g.F.Folder.tree c.is_bare.new.host) c.args.source.now (Err fail.Host) c.in-Err-Failed.ensures.same tt

pub copy_out-requires-clause-ready : goal.copy_out-requires-clause-ready
copy_out-requires-clause-ready g c = c.requires.ready

pub copy_out-requires-clause-tree : goal.copy_out-requires-clause-tree
copy_out-requires-clause-tree g c = subst (λ z. IfSome z IsHostTree) (sym c.in-Ok-true.ensures.same) c.in-Ok-true.ensures.tree

pub copy_out-requires-clause-bare : goal.copy_out-requires-clause-bare
copy_out-requires-clause-bare g c = subst (λ z. IfSome z IsBare) (sym c.in-Ok-true.ensures.same) (subst (λ z. IfSome (g.F.Folder.tree c.args.host.now) (BareIs z)) c.in-Ok-true.field-0-test c.in-Ok-true.ensures.bare)

pub returns-clause-host : goal.returns-clause-host
returns-clause-host g c = subst (λ z. HostCause z (g.F.Folder.faults c.copy_out.new.host) c.copy_out.result) c.in-Ok-true.ensures.cause.quiet c.copy_out.ensures.host

pub returns-clause-copied : goal.returns-clause-copied
returns-clause-copied g c =
    run_begun g.A.Asker.asking c.args.asker.now c.copy_out.new.asker (g.F.Folder.tree c.args.host.now) (g.F.Folder.tree c.is_bare.new.host) (g.F.Folder.tree c.copy_out.new.host) c.args.source.now c.copy_out.result c.in-Ok-true.ensures.same
    (subst (λ z. IfSome (g.F.Folder.tree c.args.host.now) (BareIs z)) c.in-Ok-true.field-0-test c.in-Ok-true.ensures.bare) c.copy_out.ensures.copied
