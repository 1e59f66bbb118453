-- What the run of a copy did, by the exchanges of its session.
use Rattle.std.specs.Prelude.{◌≡◌, ◌⊎◌, ◌<◌, ℕ, List, length}
use Rattle.std.specs.declared.option.Option.{Option}
use Rattle.std.specs.declared.option.Option.TheVariants.{None}
use Rattle.std.specs.declared.result.Result.{Result}
use Rattle.std.specs.declared.result.Result.TheVariants.{Err}
use Rattle.fs_model.specs.Instant.{Instant}
use Rattle.session_lines.specs.answers.declared.answer.Answer.{Answer}
use Rattle.session_lines.specs.answers.Sessions.{Exchange, AllAt}
use Rattle.session_lines.specs.line_io.Streams.{Stream}
use Rattle.session_lines.specs.Driven.{IsUnfailed, Reported}
use Rattle.session_lines.specs.declared.end.End.{End}
use Rattle.run_status.specs.declared.status.Status.{Status}
use Rattle.copy_laws.specs.host_folder.Folders.{HostPath, HostTree}
use Rattle.copy_laws.specs.declared.copied.Totals.{Totals}
use Rattle.copy_laws.specs.declared.copied.CopyFail.{CopyFail}
use Rattle.copy_laws.specs.declared.copied.CopyFail.TheVariants as fail
use Rattle.copy_laws.specs.Ends.{IsImport, HostCause}
use Rattle.copy_laws.specs.Exporting.{IsExport}
use Rattle.copy_laws.specs.Questions.{Question}
use Rattle.copy_sessions.specs.declared.way.Way.{Way}
use Rattle.copy_sessions.specs.declared.way.Way.TheVariants.{In, Out}
use Rattle.copy_sessions.specs.declared.text.TheConstants.{LONG_TEXT}
use Rattle.copy_sessions.specs.Fitting.{Fits, kept_after}
use Rattle.copy_sessions.specs.Statuses.{copy_status}
use Rattle.copy_sessions.specs.Texts.{copy_text}

-- what is told is how it ended, or want of memory in place of an end whose text has more bytes than were taken beforehand
abbrev pub IsTold : Way → Result Totals CopyFail → Option Answer → Result Totals CopyFail → Type 0
IsTold way result kept told = (told ≡ result) ⊎ ((LONG_TEXT < length (copy_text way result kept)) × (told ≡ Err fail.Memory))

-- the line of a copy that ended so was written, and this is its status
pub record IsCopyTold (way : Way) (result : Result Totals CopyFail) (kept : Option Answer) (output : Stream) (end : End) (own : Status) : Type 0 where
  pub told : Result Totals CopyFail
  pub is : IsTold way result kept told
  pub written : Reported output (copy_text way told kept) end
  pub status : own ≡ copy_status told kept

-- The exchanges are the questions of an import of this folder below this path; what it ended with was told, and no read of the input failed.
pub record IsImportSession (folder : Option HostTree) (faults risen : ℕ) (target : HostPath) (input output : Stream) (end : End) (own : Status) (es : List Exchange) : Type 0 where
  pub qs : List Question
  pub tree : HostTree
  pub result : Result Totals CopyFail
  pub fits : Fits qs es
  pub is : IsImport folder target tree qs result
  pub host : HostCause faults risen result
  pub told : IsCopyTold In result (kept_after None es) output end own
  pub unfailed : IsUnfailed input

-- whatever follows the password line; all at this moment
abbrev pub ComesImport : Instant → Option HostTree → ℕ → ℕ → HostPath → Stream → Stream → Option (List ℕ) → End → Status → List Exchange → Type 0
ComesImport now folder faults risen target input output script end own es = AllAt now es × IsImportSession folder faults risen target input output end own es

-- The exchanges are the questions of an export of what stands below this path into a folder that was so before and is so after; what it ended with was told, and no read
-- of the input failed.
pub record IsExportSession (before after : Option HostTree) (faults risen : ℕ) (source : HostPath) (input output : Stream) (end : End) (own : Status) (es : List Exchange) : Type 0 where
  pub qs : List Question
  pub result : Result Totals CopyFail
  pub fits : Fits qs es
  pub is : IsExport before after source qs result
  pub host : HostCause faults risen result
  pub told : IsCopyTold Out result (kept_after None es) output end own
  pub unfailed : IsUnfailed input

-- whatever follows the password line; all at this moment
abbrev pub ComesExport : Instant → Option HostTree → Option HostTree → ℕ → ℕ → HostPath → Stream → Stream → Option (List ℕ) → End → Status → List Exchange → Type 0
ComesExport now before after faults risen source input output script end own es = AllAt now es × IsExportSession before after faults risen source input output end own es
