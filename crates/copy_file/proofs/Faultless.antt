-- How a put and a get end where nothing failed.
use Rattle.std.proofs.Common.{◌≡◌, ◌⊎◌, ℕ, List, inl, inr, refl, arith}
use Rattle.std.specs.declared.option.Option.TheVariants.{None}
use Rattle.std.specs.declared.result.Result.{Result}
use Rattle.std.specs.declared.result.Result.TheVariants.{Ok, Err}
use Rattle.copy_sessions.specs.answers.Sessions.{Exchange}
use Rattle.outside.specs.Causes.{RoseBy}
use Rattle.copy_sessions.specs.line_io.Streams.{Stream, HasFailed, TookMost}
use Rattle.run_status.specs.declared.status.Status.{Status}
use Rattle.run_status.specs.declared.status.Status.TheVariants as status
use Rattle.copy_sessions.specs.session_lines.declared.end.End.{End}
use Rattle.copy_row.specs.host_folder.Folders.{HostPath}
use Rattle.copy_row.specs.copy_laws.declared.copied.Totals.{Totals}
use Rattle.copy_row.specs.copy_laws.declared.copied.CopyFail.TheVariants as fail
use Rattle.copy_row.specs.copy_laws.Questions.{Question}
use Rattle.copy_sessions.specs.declared.way.Way.TheVariants.{In}
use Rattle.copy_sessions.specs.Fitting.{Fits, kept_after}
use Rattle.copy_sessions.specs.Laws.{AreFaultless}
use Rattle.copy_sessions.proofs.Faultless.{HasStopped, by_result, ends}
use Rattle.copy_row.specs.declared.stop.Stop.{Stop}
use Rattle.copy_row.specs.declared.stop.Stop.TheVariants as stop
use Rattle.copy_file.specs.Coming.{IsPutTold, IsGetEnd}
use Rattle.copy_file.specs.Getting.{read_at, reads, place_behind, IsGet}
use Rattle.copy_file.specs.Laws.{IsFairEnd, PutEnds, GetEnds}
use Rattle.copy_file.specs.Putting.{IsPut, InputBy}

-- nothing was called of a folder
none_rose : RoseBy 1 0 0 → ⊥
none_rose rose = omega (arith, rose)

put_by : (p : HostPath) (taken : ℕ) (bytes : List ℕ) (qs : List Question) (es : List Exchange) (result : Result Totals Stop) (input output : Stream) (end : End) (own : Status) → Fits qs es → IsPut p bytes qs result → InputBy taken input result
    → IsPutTold result p (kept_after None es) output end own → AreFaultless es → ¬ HasFailed input → ¬ TookMost taken input → (own ≡ status.Memory) ⊎ IsFairEnd result (kept_after None es) own
put_by p taken bytes qs es (Ok totals) input output end own f is used told fair calm few = ends In qs es (Ok totals) output end own 0 0 f tt refl told fair none_rose
put_by p taken bytes qs es (Err stop.Memory) input output end own f is used told fair calm few = ends In qs es (Err fail.Memory) output end own 0 0 f tt refl told fair none_rose
put_by p taken bytes qs es (Err stop.Host) input output end own f is (inl failed) told fair calm few = absurd (calm failed)
put_by p taken bytes qs es (Err stop.Host) input output end own f is (inr most) told fair calm few = absurd (few most)
put_by p taken bytes qs es (Err stop.Stopped) input output end own f is used told fair calm few =
    let l = is.ends.1 in
    let stopped : HasStopped qs = record { front = l.front; last = l.last; stopped = is.ends.0; are = l.are } in
    ends In qs es (Err fail.Stopped) output end own 0 0 f stopped refl told fair none_rose
put_by p taken bytes qs es (Err (stop.Refused e)) input output end own f is used told fair calm few = ends In qs es (Err (fail.Refused p e)) output end own 0 0 f tt refl told fair none_rose

pub put_fair : PutEnds
put_fair p taken script input output end own es s fair calm few = put_by p taken s.bytes s.qs es s.result input output end own s.fits s.is s.used s.told fair calm few

get_by : (p : HostPath) (qs : List Question) (es : List Exchange) (result : Result (Unit {0}) Stop) (output : Stream) (end : End) (own : Status) → Fits qs es → IsGet p qs output result → IsGetEnd result (kept_after None es) end own → AreFaultless es
    → ¬ HasFailed output → IsFairEnd result (kept_after None es) own
get_by p qs es (Ok x) output end own f is ends fair calm = ends.1
get_by p qs es (Err stop.Memory) output end own f is ends fair calm = ends.1
get_by p qs es (Err stop.Host) output end own f is ends fair calm = absurd (calm is.ends.1.1.1)
get_by p qs es (Err stop.Stopped) output end own f is ends fair calm =
    let stopped : HasStopped qs = record { front = reads p 0 is.pieces; last = (read_at p (place_behind is.pieces) (Err is.ends.0)).command; stopped = is.ends.0; are = is.ends.1.0 } in
    by_result qs es (Err fail.Stopped) own 0 0 f stopped refl fair none_rose ends.1
get_by p qs es (Err (stop.Refused e)) output end own f is ends fair calm = ends.1

pub get_fair : GetEnds
get_fair p input output end own es s fair calm = get_by p s.qs es s.result output end own s.fits s.is s.ends fair calm
