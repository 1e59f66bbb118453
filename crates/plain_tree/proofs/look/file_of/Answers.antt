use Rattle.std.proofs.Common.{refl, ◌∙◌, ap, None, Some}
use Rattle.fs_model.specs.declared.error.FsError.TheVariants.{IsDirectory, Invalid}
use Rattle.fs_model.specs.Tree.{upward}
use Rattle.fs_model.specs.LookUp.{look}
use Rattle.fs_model.specs.Step.{by_kind}
use Rattle.plain_tree.specs.Sights.{file_refusal}
use Rattle.plain_tree.proofs.Refusals.{file_refused}
use Rattle.plain_tree.proofs.look.file_of.Goals as goal

pub returns-in-Err-clause-refused : goal.returns-in-Err-clause-refused
returns-in-Err-clause-refused c = file_refused (look c.args.table.now (upward c.args.names.now)) c.in-Err.error c.in-Err.ensures.refused

pub returns-in-Directory-clause-refused : goal.returns-in-Directory-clause-refused
returns-in-Directory-clause-refused c = ap file_refusal c.in-Ok.ensures.found ∙ ap (λ k. by_kind k (Some IsDirectory) None (Some Invalid)) c.in-Directory.is

pub returns-in-File-clause-found : goal.returns-in-File-clause-found
returns-in-File-clause-found c = record { row = _; seen = c.in-Ok.ensures.found; attr = refl; len = refl; kind = c.in-File.is }

pub returns-in-Link-clause-refused : goal.returns-in-Link-clause-refused
returns-in-Link-clause-refused c = ap file_refusal c.in-Ok.ensures.found ∙ ap (λ k. by_kind k (Some IsDirectory) None (Some Invalid)) c.in-Link.is
