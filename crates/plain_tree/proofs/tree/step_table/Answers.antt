use Rattle.std.proofs.Common.{sym, ◌∙◌, ap}
use Rattle.fs_model.specs.declared.command.Command.TheVariants as command
use Rattle.fs_model.specs.Tree.{upward}
use Rattle.fs_model.specs.LookUp.{look}
use Rattle.fs_model.specs.Step.{step}
use Rattle.fs_model.proofs.WellFormedStep.{listed_stays, told_stays, target_stays, content_stays}
use Rattle.plain_tree.proofs.StepLemmas.{answers_at, answer_at, looked_at, looks_at}
use Rattle.plain_tree.proofs.tree.step_table.Goals as goal

pub returns-in-Mkdir-clause-ok : goal.returns-in-Mkdir-clause-ok
returns-in-Mkdir-clause-ok c =
    answers_at c.make_row.result c.make_row.new.table (λ ns. step c.args.table.now c.args.now (command.Mkdir ns)) _ _ _ c.names.ensures (ap (step c.args.table.now c.args.now) (sym c.in-Mkdir.is)) c.make_row.ensures.ok

pub returns-in-Mkfile-clause-ok : goal.returns-in-Mkfile-clause-ok
returns-in-Mkfile-clause-ok c =
    answers_at c.make_row-in-Mkfile.result c.make_row-in-Mkfile.new.table (λ ns. step c.args.table.now c.args.now (command.Mkfile ns)) _ _ _ c.names-in-Mkfile.ensures (ap (step c.args.table.now c.args.now) (sym c.in-Mkfile.is)) c.make_row-in-Mkfile.ensures.ok

pub returns-in-Symlink-clause-ok : goal.returns-in-Symlink-clause-ok
returns-in-Symlink-clause-ok c =
    answers_at c.make_link.result c.make_link.new.table (λ ns. step c.args.table.now c.args.now (command.Symlink c.in-Symlink.target ns)) _ _ _ c.names-in-Symlink.ensures (ap (step c.args.table.now c.args.now) (sym c.in-Symlink.is)) c.make_link.ensures.ok

pub returns-in-Rmdir-clause-ok : goal.returns-in-Rmdir-clause-ok
returns-in-Rmdir-clause-ok c =
    answer_at c.remove_directory.result c.remove_directory.new.table (λ ns. step c.args.table.now c.args.now (command.Rmdir ns)) _ _ _ c.names-in-Rmdir.ensures (ap (step c.args.table.now c.args.now) (sym c.in-Rmdir.is)) c.remove_directory.ensures

pub returns-in-Rm-clause-ok : goal.returns-in-Rm-clause-ok
returns-in-Rm-clause-ok c =
    answer_at c.remove_file.result c.remove_file.new.table (λ ns. step c.args.table.now c.args.now (command.Rm ns)) _ _ _ c.names-in-Rm.ensures (ap (step c.args.table.now c.args.now) (sym c.in-Rm.is)) c.remove_file.ensures

pub returns-in-Truncate-clause-ok : goal.returns-in-Truncate-clause-ok
returns-in-Truncate-clause-ok c =
    answers_at c.truncate.result c.truncate.new.table (λ ns. step c.args.table.now c.args.now (command.Truncate ns c.in-Truncate.len)) _ _ _ c.names-in-Truncate.ensures (ap (step c.args.table.now c.args.now) (sym c.in-Truncate.is)) c.truncate.ensures.ok

pub returns-in-Chmod-clause-ok : goal.returns-in-Chmod-clause-ok
returns-in-Chmod-clause-ok c =
    answer_at c.set_attributes.result c.set_attributes.new.table (λ ns. step c.args.table.now c.args.now (command.Chmod ns c.in-Chmod.mode)) _ _ _ c.names-in-Chmod.ensures (ap (step c.args.table.now c.args.now) (sym c.in-Chmod.is)) c.set_attributes.ensures

pub returns-in-Chown-clause-ok : goal.returns-in-Chown-clause-ok
returns-in-Chown-clause-ok c =
    answer_at c.set_attributes-in-Chown.result c.set_attributes-in-Chown.new.table (λ ns. step c.args.table.now c.args.now (command.Chown ns c.in-Chown.uid c.in-Chown.gid)) _ _ _ c.names-in-Chown.ensures (ap (step c.args.table.now c.args.now) (sym c.in-Chown.is)) c.set_attributes-in-Chown.ensures

pub returns-in-Utime-clause-ok : goal.returns-in-Utime-clause-ok
returns-in-Utime-clause-ok c =
    answer_at c.set_attributes-in-Utime.result c.set_attributes-in-Utime.new.table (λ ns. step c.args.table.now c.args.now (command.Utime ns c.in-Utime.atime c.in-Utime.mtime)) _ _ _ c.names-in-Utime.ensures (ap (step c.args.table.now c.args.now) (sym c.in-Utime.is)) c.set_attributes-in-Utime.ensures

pub returns-in-List-clause-ok : goal.returns-in-List-clause-ok
returns-in-List-clause-ok c =
    looks_at c.list.result c.args.table.now (λ ns. step c.args.table.now c.args.now (command.List ns)) _ _ _ c.names-in-List.ensures (ap (step c.args.table.now c.args.now) (sym c.in-List.is)) (λ ns. listed_stays c.args.table.now (upward ns) (look c.args.table.now (upward ns))) c.list.ensures

pub returns-in-Stat-clause-ok : goal.returns-in-Stat-clause-ok
returns-in-Stat-clause-ok c =
    looked_at c.stat.result c.args.table.now (λ ns. step c.args.table.now c.args.now (command.Stat ns)) _ _ _ c.names-in-Stat.ensures (ap (step c.args.table.now c.args.now) (sym c.in-Stat.is)) (λ ns. told_stays c.args.table.now (look c.args.table.now (upward ns))) c.stat.ensures

pub returns-in-Readlink-clause-ok : goal.returns-in-Readlink-clause-ok
returns-in-Readlink-clause-ok c =
    looks_at c.read_link.result c.args.table.now (λ ns. step c.args.table.now c.args.now (command.Readlink ns)) _ _ _ c.names-in-Readlink.ensures (ap (step c.args.table.now c.args.now) (sym c.in-Readlink.is)) (λ ns. target_stays c.args.table.now (look c.args.table.now (upward ns))) c.read_link.ensures

pub returns-in-Read-clause-ok : goal.returns-in-Read-clause-ok
returns-in-Read-clause-ok c =
    looks_at c.read.result c.args.table.now (λ ns. step c.args.table.now c.args.now (command.Read ns c.in-Read.from c.in-Read.count)) _ _ _ c.names-in-Read.ensures (ap (step c.args.table.now c.args.now) (sym c.in-Read.is)) (λ ns. content_stays c.args.table.now c.in-Read.from c.in-Read.count (look c.args.table.now (upward ns))) c.read.ensures

pub returns-in-Write-clause-ok : goal.returns-in-Write-clause-ok
returns-in-Write-clause-ok c =
    let t = c.args.table.now in
    answers_at c.write.result c.write.new.table (λ ns. step t c.args.now (command.Write ns c.in-Write.from c.as_slice.result.now)) _ _ c.in-Write.path c.names-in-Write.ensures
    (ap (λ bytes. step t c.args.now (command.Write c.in-Write.path c.in-Write.from bytes)) c.as_slice.ensures ∙ ap (step t c.args.now) (sym c.in-Write.is)) c.write.ensures.ok

pub returns-in-Mv-clause-ok : goal.returns-in-Mv-clause-ok
returns-in-Mv-clause-ok c =
    let t = c.args.table.now in
    answers_at c.move_rows.result c.move_rows.new.table (λ ns. step t c.args.now (command.Mv ns c.names-in-Mv-2.result.now)) _ _ c.in-Mv.from c.names-in-Mv.ensures
    (ap (λ to. step t c.args.now (command.Mv c.in-Mv.from to)) c.names-in-Mv-2.ensures ∙ ap (step t c.args.now) (sym c.in-Mv.is)) c.move_rows.ensures.ok
