use Rattle.std.proofs.Common.{subst}
use Rattle.copy_file.specs.line_io.Streams.{stream_of}
use Rattle.copy_file.specs.copy_sessions.Fitting.{WentBy}
use Rattle.copy_file.proofs.Sessions.{get_session}
use Rattle.shell_runs.specs.Mounting.{mounted_hosting}
use Rattle.copy_runs.proofs.Files.{get_own}
use Rattle.copy_runs.proofs.get.get_told.Goals as goal

pub returns-clause-own : goal.returns-clause-own
returns-clause-own g c = get_own c.get_file-got.result c.get_file-got.new.asker.kept c.get_end.result.0 c.get_end.result.1 c.get_end.ensures

pub returns-clause-got : goal.returns-clause-got
returns-clause-got g c =
    let M = mounted_hosting g.R.Rng.stream g.V.Vault.trace g.V.Vault.faults g.K.Keeper in
    let a = c.args.asker.now in
    let b = c.get_file-got.new.asker in
    let r = c.get_file-got.ensures.got in
    let w = subst (λ z. WentBy M a.now a.mounted z r.qs b.mounted b.kept) c.requires.fresh.kept r.asked.went.2 in
    let output = stream_of g.O.Sink.written g.O.Sink.faults c.args.output.now c.get_file-got.new.output in (
      w.es,
      w.ran,
      w.moments,
      λ input unfailed. get_session M a.now a.mounted b.mounted b.kept r.qs c.args.from.now c.get_file-got.result input output c.get_end.result.0 c.get_end.result.1 w r.is c.get_end.ensures unfailed,
    )

pub returns-clause-chance : goal.returns-clause-chance
returns-clause-chance g c = c.get_file-got.ensures.got.asked.went.1
