use Rattle.std.proofs.Common.{◌≡◌, ◌⊎◌, [], ◌∙◌, subst, refl}
use Rattle.std.specs.declared.result.Result.TheVariants.{Err}
use Rattle.fs_model.specs.declared.attr.Kind.TheVariants.{File}
use Rattle.copy_laws.specs.host_folder.Folders.{IsMade}
use Rattle.copy_row.proofs.ByKind.{faults_from}
use Rattle.copy_row.proofs.Exports.{row_unmade, file_row_part, file_row_out}
use Rattle.copy_row.proofs.Served.{still_stops}
use Rattle.copy_row.proofs.rows_out.file_out.Goals as goal

pub returns-in-Err-clause-stops : goal.returns-in-Err-clause-stops
returns-in-Err-clause-stops g c = still_stops (Unit {0}) (Unit {0}) _ _ c.in-Err.stop c.in-Err.ensures.never refl

pub returns-in-Err-clause-out : goal.returns-in-Err-clause-out
returns-in-Err-clause-out g c =
    let empty : c.new-none.result ≡ [] = c.new-none.ensures ∙ c.new.ensures.items in
    row_unmade g.A.Asker.asking g.met.A.Asker.lawful c.args.asker.now (g.F.Folder.tree c.args.host.now) (g.F.Folder.tree c.make_row.new.host) File c.args.at.now.tree c.args.at.now.host c.args.totals.now c.args.totals.now c.in-Err.stop c.in-Err.ensures.never
    (subst (λ z. (g.F.Folder.tree c.make_row.new.host ≡ g.F.Folder.tree c.args.host.now) ⊎ IsMade (g.F.Folder.tree c.args.host.now) (g.F.Folder.tree c.make_row.new.host) c.args.at.now.host File z) empty c.in-Err.ensures.err)

pub returns-in-Err-bytes_out-clause-faults : goal.returns-in-Err-bytes_out-clause-faults
returns-in-Err-bytes_out-clause-faults g c = faults_from {X = Unit {0}} _ _ _ (Err c.in-Err-bytes_out.stop) c.in-Ok.ensures.faults c.in-Err-bytes_out.ensures.faults

pub returns-in-Err-bytes_out-clause-out : goal.returns-in-Err-bytes_out-clause-out
returns-in-Err-bytes_out-clause-out g c =
    let empty : c.new-none.result ≡ [] = c.new-none.ensures ∙ c.new.ensures.items in
    file_row_part g.A.Asker.asking c.args.asker.now c.bytes_out.new.asker (g.F.Folder.tree c.args.host.now) (g.F.Folder.tree c.make_row.new.host) (g.F.Folder.tree c.bytes_out.new.host) c.args.at.now.tree c.args.at.now.host c.args.totals.now c.args.totals.now c.in-Err-bytes_out.stop
    (subst (IsMade (g.F.Folder.tree c.args.host.now) (g.F.Folder.tree c.make_row.new.host) c.args.at.now.host File) empty c.in-Ok.ensures.ok) c.in-Err-bytes_out.ensures.out

pub returns-clause-out : goal.returns-clause-out
returns-clause-out g c =
    let empty : c.new-none.result ≡ [] = c.new-none.ensures ∙ c.new.ensures.items in
    file_row_out g.A.Asker.asking c.args.asker.now c.bytes_out.new.asker (g.F.Folder.tree c.args.host.now) (g.F.Folder.tree c.make_row.new.host) (g.F.Folder.tree c.bytes_out.new.host) c.args.at.now.tree c.args.at.now.host c.args.totals.now c.count_row.new.totals c.in-Ok-bytes_out.count
    (subst (IsMade (g.F.Folder.tree c.args.host.now) (g.F.Folder.tree c.make_row.new.host) c.args.at.now.host File) empty c.in-Ok.ensures.ok) c.in-Ok-bytes_out.ensures.out c.count_row.ensures
