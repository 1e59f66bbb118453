use Rattle.std.proofs.Common.{refl, sym, ap, subst}
use Rattle.std.specs.Prelude.{IfOk, IsTrue}
use Rattle.path_contents.specs.store_outcome.Outcome.{Outcome, idle}
use Rattle.fs_model.specs.declared.command.Command.TheVariants as command
use Rattle.fs_model.specs.declared.reply.Reply.TheVariants.{Done}
use Rattle.fs_model.specs.Fitting.{IsFitting, is_target}
use Rattle.fs_model.specs.Laws.{OnlyLooks}
use Rattle.fs_model.specs.Step.{step}
use Rattle.path_contents.specs.path_walks.Showing.{BlobsShow, Performed}
use Rattle.path_layer.specs.Replies.{IsReplyOf}
use Rattle.path_layer.specs.Sparing.{IsSparingIn}
use Rattle.path_contents.proofs.path_walks_lemmas.Told.{stays}
use Rattle.path_layer.proofs.Fits.{target_fits, mode_fits_command}
use Rattle.path_layer.proofs.blobs.perform_on_blobs.Goals as goal

pub returns-in-List-clause-outcome : goal.returns-in-List-clause-outcome
returns-in-List-clause-outcome g c =
    subst (λ z. Outcome g.B.Blobs.meanings (BlobsShow g.B.Blobs.holdings c.args.b.now c.args.root.now.0) c.args.b.now c.list.new.b c.list.result (λ n r. Performed g.B.Blobs.holdings c.list.new.b c.args.root.now.0 (step n.tree c.args.now z) r)) (sym c.in-List.is)
    (subst (λ z. Outcome g.B.Blobs.meanings (BlobsShow g.B.Blobs.holdings c.args.b.now c.args.root.now.0) c.args.b.now c.list.new.b c.list.result (λ n r. Performed g.B.Blobs.holdings c.list.new.b c.args.root.now.0 (step n.tree c.args.now (command.List z)) r)) c.names.ensures c.list.ensures.outcome)

pub returns-in-List-clause-variant : goal.returns-in-List-clause-variant
returns-in-List-clause-variant g c = subst (λ z. IfOk c.list.result (IsReplyOf z)) (sym c.in-List.is) c.list.ensures.variant

pub returns-in-List-clause-looks : goal.returns-in-List-clause-looks
returns-in-List-clause-looks g c = λ h. c.list.ensures.unchanged

pub returns-in-List-clause-sparing : goal.returns-in-List-clause-sparing
returns-in-List-clause-sparing g c = λ n s f. subst (IsSparingIn g.B.Blobs.holdings c.args.b.now c.list.new.b n.tree) (sym c.in-List.is) tt

pub returns-in-Stat-clause-outcome : goal.returns-in-Stat-clause-outcome
returns-in-Stat-clause-outcome g c =
    subst (λ z. Outcome g.B.Blobs.meanings (BlobsShow g.B.Blobs.holdings c.args.b.now c.args.root.now.0) c.args.b.now c.stat.new.b c.stat.result (λ n r. Performed g.B.Blobs.holdings c.stat.new.b c.args.root.now.0 (step n.tree c.args.now z) r)) (sym c.in-Stat.is)
    (subst (λ z. Outcome g.B.Blobs.meanings (BlobsShow g.B.Blobs.holdings c.args.b.now c.args.root.now.0) c.args.b.now c.stat.new.b c.stat.result (λ n r. Performed g.B.Blobs.holdings c.stat.new.b c.args.root.now.0 (step n.tree c.args.now (command.Stat z)) r)) c.names-in-Stat.ensures c.stat.ensures.outcome)

pub returns-in-Stat-clause-variant : goal.returns-in-Stat-clause-variant
returns-in-Stat-clause-variant g c = subst (λ z. IfOk c.stat.result (IsReplyOf z)) (sym c.in-Stat.is) c.stat.ensures.variant

pub returns-in-Stat-clause-looks : goal.returns-in-Stat-clause-looks
returns-in-Stat-clause-looks g c = λ h. c.stat.ensures.unchanged

pub returns-in-Stat-clause-sparing : goal.returns-in-Stat-clause-sparing
returns-in-Stat-clause-sparing g c = λ n s f. subst (IsSparingIn g.B.Blobs.holdings c.args.b.now c.stat.new.b n.tree) (sym c.in-Stat.is) tt

pub returns-in-Readlink-clause-outcome : goal.returns-in-Readlink-clause-outcome
returns-in-Readlink-clause-outcome g c =
    subst (λ z. Outcome g.B.Blobs.meanings (BlobsShow g.B.Blobs.holdings c.args.b.now c.args.root.now.0) c.args.b.now c.read_link.new.b c.read_link.result (λ n r. Performed g.B.Blobs.holdings c.read_link.new.b c.args.root.now.0 (step n.tree c.args.now z) r)) (sym c.in-Readlink.is)
    (subst (λ z. Outcome g.B.Blobs.meanings (BlobsShow g.B.Blobs.holdings c.args.b.now c.args.root.now.0) c.args.b.now c.read_link.new.b c.read_link.result (λ n r. Performed g.B.Blobs.holdings c.read_link.new.b c.args.root.now.0 (step n.tree c.args.now (command.Readlink z)) r)) c.names-in-Readlink.ensures c.read_link.ensures.outcome)

pub returns-in-Readlink-clause-variant : goal.returns-in-Readlink-clause-variant
returns-in-Readlink-clause-variant g c = subst (λ z. IfOk c.read_link.result (IsReplyOf z)) (sym c.in-Readlink.is) c.read_link.ensures.variant

pub returns-in-Readlink-clause-looks : goal.returns-in-Readlink-clause-looks
returns-in-Readlink-clause-looks g c = λ h. c.read_link.ensures.unchanged

pub returns-in-Readlink-clause-sparing : goal.returns-in-Readlink-clause-sparing
returns-in-Readlink-clause-sparing g c = λ n s f. subst (IsSparingIn g.B.Blobs.holdings c.args.b.now c.read_link.new.b n.tree) (sym c.in-Readlink.is) tt

pub returns-in-Read-clause-outcome : goal.returns-in-Read-clause-outcome
returns-in-Read-clause-outcome g c =
    subst (λ z. Outcome g.B.Blobs.meanings (BlobsShow g.B.Blobs.holdings c.args.b.now c.args.root.now.0) c.args.b.now c.read.new.b c.read.result (λ n r. Performed g.B.Blobs.holdings c.read.new.b c.args.root.now.0 (step n.tree c.args.now z) r)) (sym c.in-Read.is)
    (subst (λ z. Outcome g.B.Blobs.meanings (BlobsShow g.B.Blobs.holdings c.args.b.now c.args.root.now.0) c.args.b.now c.read.new.b c.read.result (λ n r. Performed g.B.Blobs.holdings c.read.new.b c.args.root.now.0 (step n.tree c.args.now (command.Read z c.in-Read.from c.in-Read.count)) r)) c.names-in-Read.ensures c.read.ensures.outcome)

pub returns-in-Read-clause-variant : goal.returns-in-Read-clause-variant
returns-in-Read-clause-variant g c = subst (λ z. IfOk c.read.result (IsReplyOf z)) (sym c.in-Read.is) c.read.ensures.variant

pub returns-in-Read-clause-looks : goal.returns-in-Read-clause-looks
returns-in-Read-clause-looks g c = λ h. c.read.ensures.unchanged

pub returns-in-Read-clause-sparing : goal.returns-in-Read-clause-sparing
returns-in-Read-clause-sparing g c = λ n s f. subst (IsSparingIn g.B.Blobs.holdings c.args.b.now c.read.new.b n.tree) (sym c.in-Read.is) tt

pub returns-in-Mkdir-clause-outcome : goal.returns-in-Mkdir-clause-outcome
returns-in-Mkdir-clause-outcome g c =
    subst (λ z. Outcome g.B.Blobs.meanings (BlobsShow g.B.Blobs.holdings c.args.b.now c.args.root.now.0) c.args.b.now c.make_directory.new.b c.make_directory.result (λ n r. Performed g.B.Blobs.holdings c.make_directory.new.b c.args.root.now.0 (step n.tree c.args.now z) r)) (sym c.in-Mkdir.is)
    (subst (λ z. Outcome g.B.Blobs.meanings (BlobsShow g.B.Blobs.holdings c.args.b.now c.args.root.now.0) c.args.b.now c.make_directory.new.b c.make_directory.result (λ n r. Performed g.B.Blobs.holdings c.make_directory.new.b c.args.root.now.0 (step n.tree c.args.now (command.Mkdir z)) r)) c.names-in-Mkdir.ensures c.make_directory.ensures.outcome)

pub returns-in-Mkdir-clause-variant : goal.returns-in-Mkdir-clause-variant
returns-in-Mkdir-clause-variant g c = subst (λ z. IfOk c.make_directory.result (IsReplyOf z)) (sym c.in-Mkdir.is) c.make_directory.ensures.variant

pub returns-in-Mkdir-clause-looks : goal.returns-in-Mkdir-clause-looks
returns-in-Mkdir-clause-looks g c = λ h. absurd (subst OnlyLooks c.in-Mkdir.is h)

pub returns-in-Mkdir-clause-sparing : goal.returns-in-Mkdir-clause-sparing
returns-in-Mkdir-clause-sparing g c = λ n s f. subst (IsSparingIn g.B.Blobs.holdings c.args.b.now c.make_directory.new.b n.tree) (sym c.in-Mkdir.is) tt

pub returns-in-Mkfile-clause-outcome : goal.returns-in-Mkfile-clause-outcome
returns-in-Mkfile-clause-outcome g c =
    subst (λ z. Outcome g.B.Blobs.meanings (BlobsShow g.B.Blobs.holdings c.args.b.now c.args.root.now.0) c.args.b.now c.make_file.new.b c.make_file.result (λ n r. Performed g.B.Blobs.holdings c.make_file.new.b c.args.root.now.0 (step n.tree c.args.now z) r)) (sym c.in-Mkfile.is)
    (subst (λ z. Outcome g.B.Blobs.meanings (BlobsShow g.B.Blobs.holdings c.args.b.now c.args.root.now.0) c.args.b.now c.make_file.new.b c.make_file.result (λ n r. Performed g.B.Blobs.holdings c.make_file.new.b c.args.root.now.0 (step n.tree c.args.now (command.Mkfile z)) r)) c.names-in-Mkfile.ensures c.make_file.ensures.outcome)

pub returns-in-Mkfile-clause-variant : goal.returns-in-Mkfile-clause-variant
returns-in-Mkfile-clause-variant g c = subst (λ z. IfOk c.make_file.result (IsReplyOf z)) (sym c.in-Mkfile.is) c.make_file.ensures.variant

pub returns-in-Mkfile-clause-looks : goal.returns-in-Mkfile-clause-looks
returns-in-Mkfile-clause-looks g c = λ h. absurd (subst OnlyLooks c.in-Mkfile.is h)

pub returns-in-Mkfile-clause-sparing : goal.returns-in-Mkfile-clause-sparing
returns-in-Mkfile-clause-sparing g c = λ n s f. subst (IsSparingIn g.B.Blobs.holdings c.args.b.now c.make_file.new.b n.tree) (sym c.in-Mkfile.is) tt

pub returns-in-Symlink-clause-outcome : goal.returns-in-Symlink-clause-outcome
returns-in-Symlink-clause-outcome g c =
    subst (λ z. Outcome g.B.Blobs.meanings (BlobsShow g.B.Blobs.holdings c.args.b.now c.args.root.now.0) c.args.b.now c.make_link.new.b c.make_link.result (λ n r. Performed g.B.Blobs.holdings c.make_link.new.b c.args.root.now.0 (step n.tree c.args.now z) r)) (sym c.in-Symlink.is)
    (subst (λ z. Outcome g.B.Blobs.meanings (BlobsShow g.B.Blobs.holdings c.args.b.now c.args.root.now.0) c.args.b.now c.make_link.new.b c.make_link.result (λ n r. Performed g.B.Blobs.holdings c.make_link.new.b c.args.root.now.0 (step n.tree c.args.now (command.Symlink c.in-Symlink.target z)) r)) c.names-in-Symlink.ensures (subst (λ z. Outcome g.B.Blobs.meanings (BlobsShow g.B.Blobs.holdings c.args.b.now c.args.root.now.0) c.args.b.now c.make_link.new.b c.make_link.result (λ n r. Performed g.B.Blobs.holdings c.make_link.new.b c.args.root.now.0 (step n.tree c.args.now (command.Symlink z c.names-in-Symlink.result.now)) r)) c.as_slice-target.ensures c.make_link.ensures.outcome))

pub returns-in-Symlink-clause-variant : goal.returns-in-Symlink-clause-variant
returns-in-Symlink-clause-variant g c = subst (λ z. IfOk c.make_link.result (IsReplyOf z)) (sym c.in-Symlink.is) c.make_link.ensures.variant

pub returns-in-Symlink-clause-looks : goal.returns-in-Symlink-clause-looks
returns-in-Symlink-clause-looks g c = λ h. absurd (subst OnlyLooks c.in-Symlink.is h)

pub returns-in-Symlink-clause-sparing : goal.returns-in-Symlink-clause-sparing
returns-in-Symlink-clause-sparing g c = λ n s f. subst (IsSparingIn g.B.Blobs.holdings c.args.b.now c.make_link.new.b n.tree) (sym c.in-Symlink.is) tt

pub returns-in-Rmdir-clause-outcome : goal.returns-in-Rmdir-clause-outcome
returns-in-Rmdir-clause-outcome g c =
    subst (λ z. Outcome g.B.Blobs.meanings (BlobsShow g.B.Blobs.holdings c.args.b.now c.args.root.now.0) c.args.b.now c.remove_directory.new.b c.remove_directory.result (λ n r. Performed g.B.Blobs.holdings c.remove_directory.new.b c.args.root.now.0 (step n.tree c.args.now z) r)) (sym c.in-Rmdir.is)
    (subst (λ z. Outcome g.B.Blobs.meanings (BlobsShow g.B.Blobs.holdings c.args.b.now c.args.root.now.0) c.args.b.now c.remove_directory.new.b c.remove_directory.result (λ n r. Performed g.B.Blobs.holdings c.remove_directory.new.b c.args.root.now.0 (step n.tree c.args.now (command.Rmdir z)) r)) c.names-in-Rmdir.ensures c.remove_directory.ensures.outcome)

pub returns-in-Rmdir-clause-variant : goal.returns-in-Rmdir-clause-variant
returns-in-Rmdir-clause-variant g c = subst (λ z. IfOk c.remove_directory.result (IsReplyOf z)) (sym c.in-Rmdir.is) c.remove_directory.ensures.variant

pub returns-in-Rmdir-clause-looks : goal.returns-in-Rmdir-clause-looks
returns-in-Rmdir-clause-looks g c = λ h. absurd (subst OnlyLooks c.in-Rmdir.is h)

pub returns-in-Rmdir-clause-sparing : goal.returns-in-Rmdir-clause-sparing
returns-in-Rmdir-clause-sparing g c = λ n s f. subst (IsSparingIn g.B.Blobs.holdings c.args.b.now c.remove_directory.new.b n.tree) (sym c.in-Rmdir.is) tt

pub returns-in-Rm-clause-outcome : goal.returns-in-Rm-clause-outcome
returns-in-Rm-clause-outcome g c =
    subst (λ z. Outcome g.B.Blobs.meanings (BlobsShow g.B.Blobs.holdings c.args.b.now c.args.root.now.0) c.args.b.now c.remove_file.new.b c.remove_file.result (λ n r. Performed g.B.Blobs.holdings c.remove_file.new.b c.args.root.now.0 (step n.tree c.args.now z) r)) (sym c.in-Rm.is)
    (subst (λ z. Outcome g.B.Blobs.meanings (BlobsShow g.B.Blobs.holdings c.args.b.now c.args.root.now.0) c.args.b.now c.remove_file.new.b c.remove_file.result (λ n r. Performed g.B.Blobs.holdings c.remove_file.new.b c.args.root.now.0 (step n.tree c.args.now (command.Rm z)) r)) c.names-in-Rm.ensures c.remove_file.ensures.outcome)

pub returns-in-Rm-clause-variant : goal.returns-in-Rm-clause-variant
returns-in-Rm-clause-variant g c = subst (λ z. IfOk c.remove_file.result (IsReplyOf z)) (sym c.in-Rm.is) c.remove_file.ensures.variant

pub returns-in-Rm-clause-looks : goal.returns-in-Rm-clause-looks
returns-in-Rm-clause-looks g c = λ h. absurd (subst OnlyLooks c.in-Rm.is h)

pub returns-in-Rm-clause-sparing : goal.returns-in-Rm-clause-sparing
returns-in-Rm-clause-sparing g c = λ n s f. subst (IsSparingIn g.B.Blobs.holdings c.args.b.now c.remove_file.new.b n.tree) (sym c.in-Rm.is) tt

pub returns-in-Mv-clause-outcome : goal.returns-in-Mv-clause-outcome
returns-in-Mv-clause-outcome g c =
    subst (λ z. Outcome g.B.Blobs.meanings (BlobsShow g.B.Blobs.holdings c.args.b.now c.args.root.now.0) c.args.b.now c.move_row.new.b c.move_row.result (λ n r. Performed g.B.Blobs.holdings c.move_row.new.b c.args.root.now.0 (step n.tree c.args.now z) r)) (sym c.in-Mv.is)
    (subst (λ z. Outcome g.B.Blobs.meanings (BlobsShow g.B.Blobs.holdings c.args.b.now c.args.root.now.0) c.args.b.now c.move_row.new.b c.move_row.result (λ n r. Performed g.B.Blobs.holdings c.move_row.new.b c.args.root.now.0 (step n.tree c.args.now (command.Mv c.in-Mv.from z)) r)) c.names-in-Mv-2.ensures (subst (λ z. Outcome g.B.Blobs.meanings (BlobsShow g.B.Blobs.holdings c.args.b.now c.args.root.now.0) c.args.b.now c.move_row.new.b c.move_row.result (λ n r. Performed g.B.Blobs.holdings c.move_row.new.b c.args.root.now.0 (step n.tree c.args.now (command.Mv z c.names-in-Mv-2.result.now)) r)) c.names-in-Mv.ensures c.move_row.ensures.outcome))

pub returns-in-Mv-clause-variant : goal.returns-in-Mv-clause-variant
returns-in-Mv-clause-variant g c = subst (λ z. IfOk c.move_row.result (IsReplyOf z)) (sym c.in-Mv.is) c.move_row.ensures.variant

pub returns-in-Mv-clause-looks : goal.returns-in-Mv-clause-looks
returns-in-Mv-clause-looks g c = λ h. absurd (subst OnlyLooks c.in-Mv.is h)

pub returns-in-Mv-clause-sparing : goal.returns-in-Mv-clause-sparing
returns-in-Mv-clause-sparing g c = λ n s f. subst (IsSparingIn g.B.Blobs.holdings c.args.b.now c.move_row.new.b n.tree) (sym c.in-Mv.is) tt

pub returns-in-Write-clause-outcome : goal.returns-in-Write-clause-outcome
returns-in-Write-clause-outcome g c =
    subst (λ z. Outcome g.B.Blobs.meanings (BlobsShow g.B.Blobs.holdings c.args.b.now c.args.root.now.0) c.args.b.now c.write.new.b c.write.result (λ n r. Performed g.B.Blobs.holdings c.write.new.b c.args.root.now.0 (step n.tree c.args.now z) r)) (sym c.in-Write.is)
    (subst (λ z. Outcome g.B.Blobs.meanings (BlobsShow g.B.Blobs.holdings c.args.b.now c.args.root.now.0) c.args.b.now c.write.new.b c.write.result (λ n r. Performed g.B.Blobs.holdings c.write.new.b c.args.root.now.0 (step n.tree c.args.now (command.Write z c.in-Write.from c.in-Write.bytes)) r)) c.names-in-Write.ensures (subst (λ z. Outcome g.B.Blobs.meanings (BlobsShow g.B.Blobs.holdings c.args.b.now c.args.root.now.0) c.args.b.now c.write.new.b c.write.result (λ n r. Performed g.B.Blobs.holdings c.write.new.b c.args.root.now.0 (step n.tree c.args.now (command.Write c.names-in-Write.result.now c.in-Write.from z)) r)) c.as_slice-bytes.ensures c.write.ensures.outcome))

pub returns-in-Write-clause-variant : goal.returns-in-Write-clause-variant
returns-in-Write-clause-variant g c = subst (λ z. IfOk c.write.result (IsReplyOf z)) (sym c.in-Write.is) c.write.ensures.variant

pub returns-in-Write-clause-looks : goal.returns-in-Write-clause-looks
returns-in-Write-clause-looks g c = λ h. absurd (subst OnlyLooks c.in-Write.is h)

pub returns-in-Write-clause-sparing : goal.returns-in-Write-clause-sparing
returns-in-Write-clause-sparing g c = λ n s f.
    subst (IsSparingIn g.B.Blobs.holdings c.args.b.now c.write.new.b n.tree) (sym c.in-Write.is)
    (subst (λ z. IsSparingIn g.B.Blobs.holdings c.args.b.now c.write.new.b n.tree (command.Write z c.in-Write.from c.in-Write.bytes)) c.names-in-Write.ensures
    (subst (λ z. IsSparingIn g.B.Blobs.holdings c.args.b.now c.write.new.b n.tree (command.Write c.names-in-Write.result.now c.in-Write.from z)) c.as_slice-bytes.ensures (c.write.ensures.sparing n s f)))

pub returns-in-Truncate-clause-outcome : goal.returns-in-Truncate-clause-outcome
returns-in-Truncate-clause-outcome g c =
    subst (λ z. Outcome g.B.Blobs.meanings (BlobsShow g.B.Blobs.holdings c.args.b.now c.args.root.now.0) c.args.b.now c.truncate.new.b c.truncate.result (λ n r. Performed g.B.Blobs.holdings c.truncate.new.b c.args.root.now.0 (step n.tree c.args.now z) r)) (sym c.in-Truncate.is)
    (subst (λ z. Outcome g.B.Blobs.meanings (BlobsShow g.B.Blobs.holdings c.args.b.now c.args.root.now.0) c.args.b.now c.truncate.new.b c.truncate.result (λ n r. Performed g.B.Blobs.holdings c.truncate.new.b c.args.root.now.0 (step n.tree c.args.now (command.Truncate z c.in-Truncate.len)) r)) c.names-in-Truncate.ensures c.truncate.ensures.outcome)

pub returns-in-Truncate-clause-variant : goal.returns-in-Truncate-clause-variant
returns-in-Truncate-clause-variant g c = subst (λ z. IfOk c.truncate.result (IsReplyOf z)) (sym c.in-Truncate.is) c.truncate.ensures.variant

pub returns-in-Truncate-clause-looks : goal.returns-in-Truncate-clause-looks
returns-in-Truncate-clause-looks g c = λ h. absurd (subst OnlyLooks c.in-Truncate.is h)

pub returns-in-Truncate-clause-sparing : goal.returns-in-Truncate-clause-sparing
returns-in-Truncate-clause-sparing g c = λ n s f. subst (IsSparingIn g.B.Blobs.holdings c.args.b.now c.truncate.new.b n.tree) (sym c.in-Truncate.is) tt

pub returns-in-Chmod-clause-outcome : goal.returns-in-Chmod-clause-outcome
returns-in-Chmod-clause-outcome g c =
    subst (λ z. Outcome g.B.Blobs.meanings (BlobsShow g.B.Blobs.holdings c.args.b.now c.args.root.now.0) c.args.b.now c.set_attributes.new.b c.set_attributes.result (λ n r. Performed g.B.Blobs.holdings c.set_attributes.new.b c.args.root.now.0 (step n.tree c.args.now z) r)) (sym c.in-Chmod.is)
    (subst (λ z. Outcome g.B.Blobs.meanings (BlobsShow g.B.Blobs.holdings c.args.b.now c.args.root.now.0) c.args.b.now c.set_attributes.new.b c.set_attributes.result (λ n r. Performed g.B.Blobs.holdings c.set_attributes.new.b c.args.root.now.0 (step n.tree c.args.now (command.Chmod z c.in-Chmod.mode)) r)) c.names-in-Chmod.ensures c.set_attributes.ensures.outcome)

pub returns-in-Chmod-clause-variant : goal.returns-in-Chmod-clause-variant
returns-in-Chmod-clause-variant g c = subst (λ z. IfOk c.set_attributes.result (IsReplyOf z)) (sym c.in-Chmod.is) c.set_attributes.ensures.variant

pub returns-in-Chmod-clause-looks : goal.returns-in-Chmod-clause-looks
returns-in-Chmod-clause-looks g c = λ h. absurd (subst OnlyLooks c.in-Chmod.is h)

pub returns-in-Chmod-clause-sparing : goal.returns-in-Chmod-clause-sparing
returns-in-Chmod-clause-sparing g c = λ n s f. subst (IsSparingIn g.B.Blobs.holdings c.args.b.now c.set_attributes.new.b n.tree) (sym c.in-Chmod.is) tt

pub returns-in-Chown-clause-outcome : goal.returns-in-Chown-clause-outcome
returns-in-Chown-clause-outcome g c =
    subst (λ z. Outcome g.B.Blobs.meanings (BlobsShow g.B.Blobs.holdings c.args.b.now c.args.root.now.0) c.args.b.now c.set_attributes-in-Chown.new.b c.set_attributes-in-Chown.result (λ n r. Performed g.B.Blobs.holdings c.set_attributes-in-Chown.new.b c.args.root.now.0 (step n.tree c.args.now z) r)) (sym c.in-Chown.is)
    (subst (λ z. Outcome g.B.Blobs.meanings (BlobsShow g.B.Blobs.holdings c.args.b.now c.args.root.now.0) c.args.b.now c.set_attributes-in-Chown.new.b c.set_attributes-in-Chown.result (λ n r. Performed g.B.Blobs.holdings c.set_attributes-in-Chown.new.b c.args.root.now.0 (step n.tree c.args.now (command.Chown z c.in-Chown.uid c.in-Chown.gid)) r)) c.names-in-Chown.ensures c.set_attributes-in-Chown.ensures.outcome)

pub returns-in-Chown-clause-variant : goal.returns-in-Chown-clause-variant
returns-in-Chown-clause-variant g c = subst (λ z. IfOk c.set_attributes-in-Chown.result (IsReplyOf z)) (sym c.in-Chown.is) c.set_attributes-in-Chown.ensures.variant

pub returns-in-Chown-clause-looks : goal.returns-in-Chown-clause-looks
returns-in-Chown-clause-looks g c = λ h. absurd (subst OnlyLooks c.in-Chown.is h)

pub returns-in-Chown-clause-sparing : goal.returns-in-Chown-clause-sparing
returns-in-Chown-clause-sparing g c = λ n s f. subst (IsSparingIn g.B.Blobs.holdings c.args.b.now c.set_attributes-in-Chown.new.b n.tree) (sym c.in-Chown.is) tt

pub returns-in-Utime-clause-outcome : goal.returns-in-Utime-clause-outcome
returns-in-Utime-clause-outcome g c =
    subst (λ z. Outcome g.B.Blobs.meanings (BlobsShow g.B.Blobs.holdings c.args.b.now c.args.root.now.0) c.args.b.now c.set_attributes-in-Utime.new.b c.set_attributes-in-Utime.result (λ n r. Performed g.B.Blobs.holdings c.set_attributes-in-Utime.new.b c.args.root.now.0 (step n.tree c.args.now z) r)) (sym c.in-Utime.is)
    (subst (λ z. Outcome g.B.Blobs.meanings (BlobsShow g.B.Blobs.holdings c.args.b.now c.args.root.now.0) c.args.b.now c.set_attributes-in-Utime.new.b c.set_attributes-in-Utime.result (λ n r. Performed g.B.Blobs.holdings c.set_attributes-in-Utime.new.b c.args.root.now.0 (step n.tree c.args.now (command.Utime z c.in-Utime.atime c.in-Utime.mtime)) r)) c.names-in-Utime.ensures c.set_attributes-in-Utime.ensures.outcome)

pub returns-in-Utime-clause-variant : goal.returns-in-Utime-clause-variant
returns-in-Utime-clause-variant g c = subst (λ z. IfOk c.set_attributes-in-Utime.result (IsReplyOf z)) (sym c.in-Utime.is) c.set_attributes-in-Utime.ensures.variant

pub returns-in-Utime-clause-looks : goal.returns-in-Utime-clause-looks
returns-in-Utime-clause-looks g c = λ h. absurd (subst OnlyLooks c.in-Utime.is h)

pub returns-in-Utime-clause-sparing : goal.returns-in-Utime-clause-sparing
returns-in-Utime-clause-sparing g c = λ n s f. subst (IsSparingIn g.B.Blobs.holdings c.args.b.now c.set_attributes-in-Utime.new.b n.tree) (sym c.in-Utime.is) tt

pub returns-in-Sync-clause-outcome : goal.returns-in-Sync-clause-outcome
returns-in-Sync-clause-outcome g c =
    idle g.met.B.Blobs.lawful c.args.b.now Done c.requires.intact (λ w. stays w.map w.tree w.ids w.shows c.args.b.now w.stands _ _ (ap (step w.tree c.args.now) c.in-Sync.is))

pub returns-in-Sync-clause-variant : goal.returns-in-Sync-clause-variant
returns-in-Sync-clause-variant g c = subst (λ z. IsReplyOf z Done) (sym c.in-Sync.is) tt

pub returns-in-Sync-clause-looks : goal.returns-in-Sync-clause-looks
returns-in-Sync-clause-looks g c = λ h. refl

pub returns-in-Sync-clause-sparing : goal.returns-in-Sync-clause-sparing
returns-in-Sync-clause-sparing g c = λ n s f. subst (IsSparingIn g.B.Blobs.holdings c.args.b.now c.args.b.now n.tree) (sym c.in-Sync.is) tt

pub make_link-requires-clause-target : goal.make_link-requires-clause-target
make_link-requires-clause-target g c = subst (λ z. IsTrue (is_target z)) (sym c.as_slice-target.ensures) (target_fits c.in-Symlink.target c.in-Symlink.path (subst IsFitting c.in-Symlink.is c.requires.fits))

pub set_attributes-requires-clause-fits : goal.set_attributes-requires-clause-fits
set_attributes-requires-clause-fits g c = mode_fits_command c.in-Chmod.path c.in-Chmod.mode (subst IsFitting c.in-Chmod.is c.requires.fits)
