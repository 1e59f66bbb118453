-- The session of a copy, whatever it carries.
use Rattle.std.specs.Prelude.{◌≡◌, ℕ, List}
use Rattle.std.specs.declared.option.Option.TheVariants.{None}
use Rattle.std.specs.declared.result.Result.{Result}
use Rattle.copy_file.specs.answers.Sessions.{Exchange}
use Rattle.copy_file.specs.copy_sessions.declared.way.Way.{Way}
use Rattle.copy_file.specs.copy_sessions.Coming.{IsCopyTold}
use Rattle.copy_file.specs.copy_sessions.Fitting.{Fits, kept_after}
use Rattle.copy_file.specs.line_io.Streams.{Stream}
use Rattle.copy_file.specs.session_lines.Driven.{IsUnfailed}
use Rattle.copy_file.specs.session_lines.declared.end.End.{End}
use Rattle.run_status.specs.declared.status.Status.{Status}
use Rattle.shell_runs.specs.Hosts.{HostSeen}
use Rattle.copy_attributes.specs.tree_copy.host_folder.Folders.{HostPath, HostTree}
use Rattle.copy_attributes.specs.tree_copy.copy_laws.declared.copied.CopyFail.{CopyFail}
use Rattle.copy_attributes.specs.tree_copy.copy_laws.declared.copied.Totals.{Totals}
use Rattle.copy_attributes.specs.tree_copy.copy_laws.Ends.{HostCause, IsImport}
use Rattle.copy_attributes.specs.tree_copy.copy_laws.Exporting.{IsExport}
use Rattle.copy_attributes.specs.tree_copy.copy_laws.Questions.{Question}
use Rattle.copy_attributes.specs.Exports.{IsAttributedExport}
use Rattle.copy_attributes.specs.Imports.{IsAttributedImport}

-- The exchanges are the questions of a copy of which this holds; what it ended with was told, and no read of the input failed.
pub record IsCopySession (way : Way) (Is : List Question → Result Totals CopyFail → Type 0) (faults risen : ℕ) (input output : Stream) (end : End) (own : Status) (es : List Exchange) : Type 0 where
  pub qs : List Question
  pub result : Result Totals CopyFail
  pub fits : Fits qs es
  pub is : Is qs result
  pub host : HostCause faults risen result
  pub told : IsCopyTold way result (kept_after None es) output end own
  pub unfailed : IsUnfailed input

-- what copies ask, by what the folder was and is: the folder of an import stays
abbrev pub import_carriage : HostSeen → HostPath → List Question → Result Totals CopyFail → Type 0
import_carriage host path qs result = (host.new ≡ host.old) × ((tree : HostTree) × IsImport host.old path tree qs result)

abbrev pub import_times_carriage : HostSeen → HostPath → List Question → Result Totals CopyFail → Type 0
import_times_carriage host path qs result = (host.new ≡ host.old) × IsAttributedImport host.old host.attributes_after path qs result

abbrev pub export_carriage : HostSeen → HostPath → List Question → Result Totals CopyFail → Type 0
export_carriage host path qs result = IsExport host.old host.new path qs result

abbrev pub export_times_carriage : HostSeen → HostPath → List Question → Result Totals CopyFail → Type 0
export_times_carriage host path qs result = IsAttributedExport host.old host.new host.attributes_after path qs result
