use Rattle.copy_file.specs.copy_sessions.Coming.{ComesImport, ComesExport}
use Rattle.copy_file.specs.Coming.{ComesPut, ComesGet}
use Rattle.shell_runs.specs.Sessions.{ComesShell, ComesGenerated, ComesCommand}
use Rattle.program_laws.proofs.Serving.{complete, shell_ends, generated_ends, command_ends, import_ends, export_ends, put_ends, get_ends}
use Rattle.program_laws.proofs.law.sessions_complete.Goals as goal

pub returns-clause-shell : goal.returns-clause-shell
returns-clause-shell g k now input output vault keeper ended bytes c first session finds quiet =
    complete g.V.Vault.trace g.V.Vault.faults g.K.Keeper input output vault keeper ended bytes c first finds quiet (ComesShell now) (shell_ends now) session

pub returns-clause-generate : goal.returns-clause-generate
returns-clause-generate g k now count input output vault keeper ended bytes c first session finds quiet =
    complete g.V.Vault.trace g.V.Vault.faults g.K.Keeper input output vault keeper ended bytes c first finds quiet (ComesGenerated now count) (generated_ends now count) session

pub returns-clause-command : goal.returns-clause-command
returns-clause-command g k now line input output vault keeper ended bytes c first session finds quiet =
    complete g.V.Vault.trace g.V.Vault.faults g.K.Keeper input output vault keeper ended bytes c first finds quiet (ComesCommand now line) (command_ends now line) session

pub returns-clause-import : goal.returns-clause-import
returns-clause-import g k now folder before after target input output vault keeper ended bytes c first session finds quiet =
    complete g.V.Vault.trace g.V.Vault.faults g.K.Keeper input output vault keeper ended bytes c first finds quiet (ComesImport now folder before after target) (import_ends now folder before after target) session

pub returns-clause-export : goal.returns-clause-export
returns-clause-export g k now old new before after from input output vault keeper ended bytes c first session finds quiet =
    complete g.V.Vault.trace g.V.Vault.faults g.K.Keeper input output vault keeper ended bytes c first finds quiet (ComesExport now old new before after from) (export_ends now old new before after from) session

pub returns-clause-put : goal.returns-clause-put
returns-clause-put g k now path input output vault keeper ended bytes c first session finds quiet =
    complete g.V.Vault.trace g.V.Vault.faults g.K.Keeper input output vault keeper ended bytes c first finds quiet (ComesPut now path) (put_ends now path) session

pub returns-clause-get : goal.returns-clause-get
returns-clause-get g k now path input output vault keeper ended bytes c first session finds quiet =
    complete g.V.Vault.trace g.V.Vault.faults g.K.Keeper input output vault keeper ended bytes c first finds quiet (ComesGet now path) (get_ends now path) session
