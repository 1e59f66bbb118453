-- Copies, as what a session asks.
use Rattle.std.specs.Prelude.{◌≡◌, ℕ, true, false, List}
use Rattle.std.specs.declared.option.Option.{Option}
use Rattle.fs_model.specs.Instant.{Instant}
use Rattle.copy_file.specs.answers.Sessions.{Exchange, AllAt}
use Rattle.copy_file.specs.Coming.{ComesPut, ComesGet}
use Rattle.copy_file.specs.copy_sessions.declared.way.Way.TheVariants.{In, Out}
use Rattle.copy_file.specs.copy_sessions.Coming.{ComesImport, ComesExport}
use Rattle.copy_file.specs.line_io.Streams.{Stream}
use Rattle.copy_file.specs.session_lines.declared.end.End.{End}
use Rattle.run_status.specs.declared.status.Status.{Status}
use Rattle.shell_runs.specs.Asking.{Manner}
use Rattle.shell_runs.specs.Hosts.{HostSeen}
use Rattle.copy_attributes.specs.tree_copy.host_folder.Folders.{HostPath}
use Rattle.copy_attributes.specs.Exports.{IsAttributedExport}
use Rattle.copy_attributes.specs.Imports.{IsAttributedImport}
use Rattle.copy_runs.specs.Sessions.{IsCopySession}
use Rattle.copy_runs.specs.declared.export.Export.{Export}
use Rattle.copy_runs.specs.declared.export.ExportTimes.{ExportTimes}
use Rattle.copy_runs.specs.declared.get.Get.{Get}
use Rattle.copy_runs.specs.declared.import.Import.{Import}
use Rattle.copy_runs.specs.declared.import.ImportTimes.{ImportTimes}
use Rattle.copy_runs.specs.declared.put.Put.{Put}

-- an import to this path at this moment; the folder stays
abbrev pub Imports : Instant → HostPath → HostSeen → Stream → Stream → Option (List ℕ) → End → Status → List Exchange → Type 0
Imports now path host input output script end own es = (host.new ≡ host.old) × ComesImport now host.old host.faults host.risen path input output script end own es

-- an export of this path at this moment
abbrev pub Exports : Instant → HostPath → HostSeen → Stream → Stream → Option (List ℕ) → End → Status → List Exchange → Type 0
Exports now path host = ComesExport now host.old host.new host.faults host.risen path

-- an import that gives attributes, to this path at this moment; the folder's tree stays
abbrev pub ImportsTimes : Instant → HostPath → HostSeen → Stream → Stream → Option (List ℕ) → End → Status → List Exchange → Type 0
ImportsTimes now path host input output script end own es =
    (host.new ≡ host.old) × (AllAt now es × IsCopySession In (IsAttributedImport host.old host.attributes_after path) host.faults host.risen input output end own es)

-- an export that sets attributes, of this path at this moment
abbrev pub ExportsTimes : Instant → HostPath → HostSeen → Stream → Stream → Option (List ℕ) → End → Status → List Exchange → Type 0
ExportsTimes now path host input output script end own es =
    AllAt now es × IsCopySession Out (IsAttributedExport host.old host.new host.attributes_after path) host.faults host.risen input output end own es

abbrev pub import_manner : Manner Import
import_manner = record { fits = λ a. Unit {0}; copies = true; Comes = λ a. Imports a.now a.path }

abbrev pub export_manner : Manner Export
export_manner = record { fits = λ a. Unit {0}; copies = true; Comes = λ a. Exports a.now a.path }

abbrev pub import_times_manner : Manner ImportTimes
import_times_manner = record { fits = λ a. Unit {0}; copies = true; Comes = λ a. ImportsTimes a.now a.path }

abbrev pub export_times_manner : Manner ExportTimes
export_times_manner = record { fits = λ a. Unit {0}; copies = true; Comes = λ a. ExportsTimes a.now a.path }

abbrev pub put_manner : Manner Put
put_manner = record { fits = λ a. Unit {0}; copies = false; Comes = λ a host. ComesPut a.now a.path }

abbrev pub get_manner : Manner Get
get_manner = record { fits = λ a. Unit {0}; copies = false; Comes = λ a host. ComesGet a.now a.path }
