use Rattle.std.proofs.Common.{ℕ, List, map, refl, subst, ◌∙◌}
use Rattle.std.specs.String.{string_bytes}
use Rattle.trial_runs.specs.line_io.Streams.{stream_of}
use Rattle.copy_runs.specs.shell_runs.Sessions.{ComesCommand}
use Rattle.program_words.specs.Forms.{joined}
use Rattle.cryfs_shell.proofs.Copies.{session_as}
use Rattle.cryfs_shell.proofs.program.run_line.Goals as goal

pub returns-in-Ok-clause-session : goal.returns-in-Ok-clause-session
returns-in-Ok-clause-session g c =
    let r = c.run_session in
    let input = stream_of g.I.Source.rest g.I.Source.faults c.args.input.now r.new.input in
    let output = stream_of g.O.Sink.written g.O.Sink.faults c.args.output.now r.new.output in
    session_as g.V.Vault.trace g.V.Vault.faults g.K.Keeper input output c.args.storage.vault c.args.storage.keeper r.result
    (ComesCommand c.args.request.now c.in-Ok.line.items input output) (ComesCommand c.args.request.now (joined (map string_bytes c.args.request.words.now)) input output)
    (λ script end own es. subst (λ (line : List ℕ). ComesCommand c.args.request.now line input output script end own es) c.in-Ok.ensures) r.ensures.session

pub returns-in-Ok-clause-unhosted : goal.returns-in-Ok-clause-unhosted
returns-in-Ok-clause-unhosted g c = c.run_session.ensures.uncopied refl
