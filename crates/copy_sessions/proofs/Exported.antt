-- The session of an export.
use Rattle.std.proofs.Common.{◌≡◌, ℕ, List, subst}
use Rattle.std.specs.declared.option.Option.{Option}
use Rattle.std.specs.declared.option.Option.TheVariants.{None}
use Rattle.std.specs.declared.result.Result.{Result}
use Rattle.fs_model.specs.Instant.{Instant}
use Rattle.session_lines.specs.answers.declared.answer.Answer.{Answer}
use Rattle.session_lines.specs.answers.Sessions.{Exchange}
use Rattle.session_lines.specs.answers.Hosts.{Hosting}
use Rattle.session_lines.specs.line_io.Streams.{Stream}
use Rattle.session_lines.specs.Driven.{IsUnfailed}
use Rattle.session_lines.specs.declared.end.End.{End}
use Rattle.outside.specs.Causes.{RoseBy}
use Rattle.run_status.specs.declared.status.Status.{Status}
use Rattle.run_status.specs.declared.status.Status.TheVariants.{HostFault}
use Rattle.copy_laws.specs.host_folder.Folders.{HostPath, HostTree}
use Rattle.copy_laws.specs.declared.copied.Totals.{Totals}
use Rattle.copy_laws.specs.declared.copied.CopyFail.{CopyFail}
use Rattle.copy_laws.specs.Ends.{HostCause}
use Rattle.copy_laws.specs.Exporting.{IsExport}
use Rattle.copy_laws.specs.Questions.{Question}
use Rattle.copy_sessions.specs.declared.way.Way.TheVariants.{Out}
use Rattle.copy_sessions.specs.Coming.{IsCopyTold, IsExportSession}
use Rattle.copy_sessions.specs.Fitting.{WentBy, kept_after}
use Rattle.copy_sessions.proofs.Imported.{told_host}

pub export_session : {H : Type 0} (M : Hosting H) (now : Instant) (old new : H) (kept : Option Answer) (qs : List Question) (before after : Option HostTree) (faults risen : ℕ) (source : HostPath)
    (result : Result Totals CopyFail) (input output : Stream) (end : End) (own : Status) (w : WentBy M now old None qs new kept) → IsExport before after source qs result → HostCause faults risen result
    → IsCopyTold Out result kept output end own → IsUnfailed input → IsExportSession before after faults risen source input output end own w.es
export_session M now old new kept qs before after faults risen source result input output end own w is host told unfailed = record {
  qs = qs;
  result = result;
  fits = w.fits;
  is = is;
  host = host;
  told = subst (λ z. IsCopyTold Out result z output end own) w.kept told;
  unfailed = unfailed;
}

-- where an export ends by a failing folder its count of faults rose
pub export_host : (before after : Option HostTree) (faults risen : ℕ) (source : HostPath) (input output : Stream) (end : End) (own : Status) (es : List Exchange)
    → IsExportSession before after faults risen source input output end own es → own ≡ HostFault → RoseBy 1 faults risen
export_host before after faults risen source input output end own es s e = told_host Out s.result (kept_after None es) output end own faults risen s.told e s.host
