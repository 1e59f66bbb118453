-- The session of an import.
use Rattle.std.proofs.Common.{◌≡◌, ◌∙◌, ℕ, List, inl, inr, sym, ap, subst}
use Rattle.std.specs.declared.option.Option.{Option}
use Rattle.std.specs.declared.option.Option.TheVariants.{None, Some}
use Rattle.std.specs.declared.result.Result.{Result}
use Rattle.std.specs.declared.result.Result.TheVariants.{Ok, Err}
use Rattle.fs_model.specs.Instant.{Instant}
use Rattle.session_lines.specs.answers.declared.answer.Answer.{Answer}
use Rattle.session_lines.specs.answers.declared.answer.Answer.TheVariants as answer
use Rattle.session_lines.specs.answers.Sessions.{Exchange}
use Rattle.session_lines.specs.answers.Hosts.{Hosting}
use Rattle.session_lines.specs.line_io.Streams.{Stream}
use Rattle.session_lines.specs.Driven.{IsUnfailed}
use Rattle.session_lines.specs.declared.end.End.{End}
use Rattle.outside.specs.Causes.{RoseBy}
use Rattle.run_status.specs.declared.status.Status.{Status}
use Rattle.run_status.specs.declared.status.Status.TheVariants.{HostFault, Memory}
use Rattle.copy_laws.specs.host_folder.Folders.{HostPath, HostTree}
use Rattle.copy_laws.specs.declared.copied.Totals.{Totals}
use Rattle.copy_laws.specs.declared.copied.CopyFail.{CopyFail}
use Rattle.copy_laws.specs.declared.copied.CopyFail.TheVariants as fail
use Rattle.copy_laws.specs.Ends.{IsImport, HostCause}
use Rattle.copy_laws.specs.Questions.{Question}
use Rattle.copy_sessions.specs.declared.way.Way.{Way}
use Rattle.copy_sessions.specs.declared.way.Way.TheVariants.{In}
use Rattle.copy_sessions.specs.Coming.{IsTold, IsCopyTold, IsImportSession}
use Rattle.copy_sessions.specs.Fitting.{WentBy}
use Rattle.copy_sessions.specs.Statuses.{copy_status, stopped_status}

pub import_session : {H : Type 0} (M : Hosting H) (now : Instant) (old new : H) (kept : Option Answer) (qs : List Question) (folder : Option HostTree) (faults risen : ℕ) (target : HostPath) (tree : HostTree)
    (result : Result Totals CopyFail) (input output : Stream) (end : End) (own : Status) (w : WentBy M now old None qs new kept) → IsImport folder target tree qs result → HostCause faults risen result
    → IsCopyTold In result kept output end own → IsUnfailed input → IsImportSession folder faults risen target input output end own w.es
import_session M now old new kept qs folder faults risen target tree result input output end own w is host told unfailed = record {
  qs = qs;
  tree = tree;
  result = result;
  fits = w.fits;
  is = is;
  host = host;
  told = subst (λ z. IsCopyTold In result z output end own) w.kept told;
  unfailed = unfailed;
}

memory_is_not : Memory ≡ HostFault → ⊥
memory_is_not e = cc

pub stop_is_not : (kept : Option Answer) → stopped_status kept ≡ HostFault → ⊥
stop_is_not (Some answer.Memory) e = memory_is_not e
stop_is_not other e = cc

-- the status of a failing folder is that of no other end
host_by : (told : Result Totals CopyFail) (kept : Option Answer) (faults risen : ℕ) → copy_status told kept ≡ HostFault → HostCause faults risen told → RoseBy 1 faults risen
host_by (Ok totals) kept faults risen e h = absurd (cc)
host_by (Err fail.Memory) kept faults risen e h = absurd (memory_is_not e)
host_by (Err fail.Host) kept faults risen e h = h.1
host_by (Err fail.Stopped) kept faults risen e h = absurd (stop_is_not kept e)
host_by (Err (fail.LongPath p)) kept faults risen e h = absurd (cc)
host_by (Err (fail.Refused p f)) kept faults risen e h = absurd (cc)

pub told_host : (way : Way) (result : Result Totals CopyFail) (kept : Option Answer) (output : Stream) (end : End) (own : Status) (faults risen : ℕ) → IsCopyTold way result kept output end own → own ≡ HostFault → HostCause faults risen result → RoseBy 1 faults risen
told_host way result kept output end own faults risen t e h = by t.is
  where
    by : IsTold way result kept t.told → RoseBy 1 faults risen
    by (inl same) = host_by t.told kept faults risen (sym t.status ∙ e) (subst (λ z. HostCause faults risen z) (sym same) h)
    by (inr long) = absurd (memory_is_not (sym (t.status ∙ ap (λ z. copy_status z kept) long.1) ∙ e))

-- where a copy ends by a failing folder its count of faults rose
pub import_host : (folder : Option HostTree) (faults risen : ℕ) (target : HostPath) (input output : Stream) (end : End) (own : Status) (es : List Exchange)
    → IsImportSession folder faults risen target input output end own es → own ≡ HostFault → RoseBy 1 faults risen
import_host folder faults risen target input output end own es s e = told_host In s.result _ output end own faults risen s.told e s.host
