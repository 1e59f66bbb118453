-- What the run of a put or a get did, by the exchanges of its session.
use Rattle.std.specs.Prelude.{◌≡◌, ℕ, List, IfSome}
use Rattle.std.specs.declared.option.Option.{Option}
use Rattle.std.specs.declared.option.Option.TheVariants.{None}
use Rattle.std.specs.declared.result.Result.{Result}
use Rattle.std.specs.declared.result.Result.TheVariants.{Ok, Err}
use Rattle.fs_model.specs.Instant.{Instant}
use Rattle.copy_sessions.specs.answers.declared.answer.Answer.{Answer}
use Rattle.copy_sessions.specs.answers.Sessions.{Exchange, AllAt}
use Rattle.copy_sessions.specs.line_io.Streams.{Stream, Untouched}
use Rattle.copy_sessions.specs.session_lines.Driven.{IsUnfailed}
use Rattle.copy_sessions.specs.session_lines.declared.end.End.{End}
use Rattle.copy_sessions.specs.session_lines.declared.end.End.TheVariants.{Finished, InputFault, OutputFault}
use Rattle.run_status.specs.declared.status.Status.{Status}
use Rattle.run_status.specs.declared.status.Status.TheVariants as status
use Rattle.copy_row.specs.host_folder.Folders.{HostPath}
use Rattle.copy_row.specs.copy_laws.declared.copied.Totals.{Totals}
use Rattle.copy_row.specs.copy_laws.declared.copied.CopyFail.TheVariants as fail
use Rattle.copy_row.specs.copy_laws.Questions.{Question}
use Rattle.copy_row.specs.declared.stop.Stop.{Stop}
use Rattle.copy_row.specs.declared.stop.Stop.TheVariants as stop
use Rattle.copy_sessions.specs.declared.way.Way.TheVariants.{In}
use Rattle.copy_sessions.specs.Coming.{IsCopyTold}
use Rattle.copy_sessions.specs.Fitting.{Fits, kept_after}
use Rattle.copy_sessions.specs.Statuses.{stopped_status}
use Rattle.copy_file.specs.Putting.{IsPut, InputBy}
use Rattle.copy_file.specs.Getting.{IsGet}

-- a put is told as an import is; where the input failed nothing is written
abbrev pub IsPutTold : Result Totals Stop → HostPath → Option Answer → Stream → End → Status → Type 0
IsPutTold (Ok totals) p kept output end own = IsCopyTold In (Ok totals) kept output end own
IsPutTold (Err stop.Memory) p kept output end own = IsCopyTold In (Err fail.Memory) kept output end own
IsPutTold (Err stop.Host) p kept output end own = ((end ≡ InputFault) × (own ≡ status.Done)) × Untouched output
IsPutTold (Err stop.Stopped) p kept output end own = IsCopyTold In (Err fail.Stopped) kept output end own
IsPutTold (Err (stop.Refused e)) p kept output end own = IsCopyTold In (Err (fail.Refused p e)) kept output end own

-- The exchanges are the commands for a new file at this path of the bytes that come behind so many; what that ended with was told.
pub record IsPutSession (path : HostPath) (taken : ℕ) (script : Option (List ℕ)) (input output : Stream) (end : End) (own : Status) (es : List Exchange) : Type 0 where
  pub qs : List Question
  pub bytes : List ℕ
  pub result : Result Totals Stop
  pub fits : Fits qs es
  pub come : IfSome script (λ w. w ≡ bytes)
  pub is : IsPut path bytes qs result
  pub used : InputBy taken input result
  pub told : IsPutTold result path (kept_after None es) output end own

-- the bytes that follow the password line; all at this moment
abbrev pub ComesPut : Instant → HostPath → Stream → Stream → Option (List ℕ) → End → Status → List Exchange → Type 0
ComesPut now path input output script end own es = AllAt now es × IsPutSession path 0 script input output end own es

-- how a get that ended so ends its session, with this answer kept, and its status: nothing is told but the bytes
abbrev pub IsGetEnd : {X : Type 0} → Result X Stop → Option Answer → End → Status → Type 0
IsGetEnd (Ok x) kept end own = (end ≡ Finished) × (own ≡ status.Done)
IsGetEnd (Err stop.Memory) kept end own = (end ≡ Finished) × (own ≡ status.Memory)
IsGetEnd (Err stop.Host) kept end own = (end ≡ OutputFault) × (own ≡ status.Done)
IsGetEnd (Err stop.Stopped) kept end own = (end ≡ Finished) × (own ≡ stopped_status kept)
IsGetEnd (Err (stop.Refused e)) kept end own = (end ≡ Finished) × (own ≡ status.CopyRefused)

-- The exchanges ask for pieces of the file at this path, which are all that was written; no read of the input failed.
pub record IsGetSession (path : HostPath) (input output : Stream) (end : End) (own : Status) (es : List Exchange) : Type 0 where
  pub qs : List Question
  pub result : Result (Unit {0}) Stop
  pub fits : Fits qs es
  pub is : IsGet path qs output result
  pub ends : IsGetEnd result (kept_after None es) end own
  pub unfailed : IsUnfailed input

-- whatever follows the password line; all at this moment
abbrev pub ComesGet : Instant → HostPath → Stream → Stream → Option (List ℕ) → End → Status → List Exchange → Type 0
ComesGet now path input output script end own es = AllAt now es × IsGetSession path input output end own es
