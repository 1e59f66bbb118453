-- The sessions of a put and of a get.
use Rattle.std.proofs.Common.{◌≡◌, ℕ, List, inl, inr, refl, sym, ◌∙◌, subst, arith}
use Rattle.std.specs.Prelude.{IfSome}
use Rattle.std.specs.declared.option.Option.{Option}
use Rattle.std.specs.declared.option.Option.TheVariants.{None}
use Rattle.std.specs.declared.result.Result.{Result}
use Rattle.std.specs.declared.result.Result.TheVariants.{Ok, Err}
use Rattle.fs_model.specs.Instant.{Instant}
use Rattle.copy_sessions.specs.answers.declared.answer.Answer.{Answer}
use Rattle.copy_sessions.specs.answers.Sessions.{Exchange}
use Rattle.copy_sessions.specs.answers.Hosts.{Hosting}
use Rattle.copy_sessions.specs.line_io.Reading.{total}
use Rattle.copy_sessions.specs.line_io.Streams.{Stream}
use Rattle.outside.specs.Causes.{RoseBy}
use Rattle.copy_sessions.specs.session_lines.Driven.{IsUnfailed}
use Rattle.copy_sessions.specs.session_lines.declared.end.End.{End}
use Rattle.run_status.specs.declared.status.Status.{Status}
use Rattle.run_status.specs.declared.status.Status.TheVariants.{Done, Memory, HostFault, CopyRefused}
use Rattle.copy_row.specs.host_folder.Folders.{HostPath}
use Rattle.copy_row.specs.copy_laws.declared.copied.Totals.{Totals}
use Rattle.copy_row.specs.copy_laws.declared.copied.CopyFail.TheVariants as fail
use Rattle.copy_row.specs.copy_laws.Questions.{Question}
use Rattle.copy_sessions.specs.declared.way.Way.TheVariants.{In}
use Rattle.copy_sessions.specs.Fitting.{WentBy, kept_after}
use Rattle.copy_sessions.proofs.Imported.{told_host, stop_is_not}
use Rattle.copy_row.specs.declared.stop.Stop.{Stop}
use Rattle.copy_row.specs.declared.stop.Stop.TheVariants as stop
use Rattle.copy_file.specs.Coming.{IsPutTold, IsPutSession, IsGetEnd, IsGetSession}
use Rattle.copy_file.specs.Getting.{IsGet}
use Rattle.copy_file.specs.Putting.{IsPut, InputBy}

pub put_session : {H : Type 0} (M : Hosting H) (now : Instant) (old new : H) (kept : Option Answer) (qs : List Question) (path : HostPath) (taken : ℕ) (script : Option (List ℕ)) (bytes : List ℕ)
    (result : Result Totals Stop) (input output : Stream) (end : End) (own : Status) (w : WentBy M now old None qs new kept) → IfSome script (λ v. v ≡ bytes) → IsPut path bytes qs result → InputBy taken input result
    → IsPutTold result path kept output end own → IsPutSession path taken script input output end own w.es
put_session M now old new kept qs path taken script bytes result input output end own w come is used told = record {
  qs = qs;
  bytes = bytes;
  result = result;
  fits = w.fits;
  come = come;
  is = is;
  used = used;
  told = subst (λ z. IsPutTold result path z output end own) w.kept told;
}

-- from the first byte on
pub put_from_start : (path : HostPath) (taken : ℕ) (script before mid after : Option (List ℕ)) (f0 f1 f2 : ℕ) (output : Stream) (end : End) (own : Status) (es : List Exchange) → total taken mid ≡ total 0 before → f1 ≡ f0
    → IsPutSession path taken script (record { old = mid; new = after; faults = f1; risen = f2 }) output end own es → IsPutSession path 0 script (record { old = before; new = after; faults = f0; risen = f2 }) output end own es
put_from_start path taken script before mid after f0 f1 f2 output end own es counted quiet s = record {
  qs = s.qs;
  bytes = s.bytes;
  result = s.result;
  fits = s.fits;
  come = s.come;
  is = s.is;
  used = used s.result s.used;
  told = s.told;
}
  where
    used : (r : Result Totals Stop) → InputBy taken (record { old = mid; new = after; faults = f1; risen = f2 }) r → InputBy 0 (record { old = before; new = after; faults = f0; risen = f2 }) r
    used (Ok totals) u = (u.0, u.1 ∙ quiet)
    used (Err stop.Memory) u = u ∙ quiet
    used (Err stop.Host) (inl failed) = inl (subst (λ f. RoseBy 1 f f2) quiet failed)
    used (Err stop.Host) (inr most) = inr (most ∙ counted)
    used (Err stop.Stopped) u = u ∙ quiet
    used (Err (stop.Refused e)) u = u ∙ quiet

pub get_session : {H : Type 0} (M : Hosting H) (now : Instant) (old new : H) (kept : Option Answer) (qs : List Question) (path : HostPath) (result : Result (Unit {0}) Stop) (input output : Stream) (end : End) (own : Status)
    (w : WentBy M now old None qs new kept) → IsGet path qs output result → IsGetEnd result kept end own → IsUnfailed input → IsGetSession path input output end own w.es
get_session M now old new kept qs path result input output end own w is ends unfailed = record {
  qs = qs;
  result = result;
  fits = w.fits;
  is = is;
  ends = subst (λ z. IsGetEnd result z end own) w.kept ends;
  unfailed = unfailed;
}

-- ---- no folder of the host has a part in them

none_rose : RoseBy 1 0 0 → ⊥
none_rose rose = omega (arith, rose)

put_by : (put : Result Totals Stop) (path : HostPath) (kept : Option Answer) (output : Stream) (end : End) (own : Status) → IsPutTold put path kept output end own → own ≡ HostFault → ⊥
put_by (Ok totals) path kept output end own told e = none_rose (told_host In (Ok totals) kept output end own 0 0 told e refl)
put_by (Err stop.Memory) path kept output end own told e = none_rose (told_host In (Err fail.Memory) kept output end own 0 0 told e refl)
put_by (Err stop.Host) path kept output end own told e = let bad : Done ≡ HostFault = sym told.0.1 ∙ e in cc
put_by (Err stop.Stopped) path kept output end own told e = none_rose (told_host In (Err fail.Stopped) kept output end own 0 0 told e refl)
put_by (Err (stop.Refused x)) path kept output end own told e = none_rose (told_host In (Err (fail.Refused path x)) kept output end own 0 0 told e refl)

pub put_unhosted : (path : HostPath) (taken : ℕ) (script : Option (List ℕ)) (input output : Stream) (end : End) (own : Status) (es : List Exchange) → IsPutSession path taken script input output end own es → own ≡ HostFault → ⊥
put_unhosted path taken script input output end own es s e = put_by s.result path (kept_after None es) output end own s.told e

get_by : {X : Type 0} (got : Result X Stop) (kept : Option Answer) (end : End) (own : Status) → IsGetEnd got kept end own → own ≡ HostFault → ⊥
get_by (Ok x) kept end own ends e = let bad : Done ≡ HostFault = sym ends.1 ∙ e in cc
get_by (Err stop.Memory) kept end own ends e = let bad : Memory ≡ HostFault = sym ends.1 ∙ e in cc
get_by (Err stop.Host) kept end own ends e = let bad : Done ≡ HostFault = sym ends.1 ∙ e in cc
get_by (Err stop.Stopped) kept end own ends e = stop_is_not kept (sym ends.1 ∙ e)
get_by (Err (stop.Refused x)) kept end own ends e = let bad : CopyRefused ≡ HostFault = sym ends.1 ∙ e in cc

pub get_unhosted : (path : HostPath) (input output : Stream) (end : End) (own : Status) (es : List Exchange) → IsGetSession path input output end own es → own ≡ HostFault → ⊥
get_unhosted path input output end own es s e = get_by s.result (kept_after None es) end own s.ends e
