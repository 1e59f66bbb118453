-- What a put leaves and what a get writes, by their sessions: the laws.
use Rattle.std.specs.Prelude.{◌≡◌, ◌≢◌, ◌⊎◌, List, ℕ, ◌++◌}
use Rattle.std.specs.FinMap.{get}
use Rattle.std.specs.declared.option.Option.{Option}
use Rattle.std.specs.declared.option.Option.TheVariants.{None, Some}
use Rattle.std.specs.declared.result.Result.{Result}
use Rattle.std.specs.declared.result.Result.TheVariants.{Ok, Err}
use Rattle.outside.specs.Streams.{appends}
use Rattle.copy_sessions.specs.line_io.Streams.{Stream, HasFailed, TookMost, Cut}
use Rattle.copy_sessions.specs.answers.declared.answer.Answer.{Answer}
use Rattle.copy_sessions.specs.answers.Sessions.{Exchange, AllAt, IsSession, latest}
use Rattle.fs_model.specs.declared.attr.Kind.TheVariants.{File}
use Rattle.fs_model.specs.declared.command.Command.TheVariants as command
use Rattle.fs_model.specs.declared.reply.Reply.TheVariants.{Error}
use Rattle.fs_model.specs.Instant.{Instant}
use Rattle.fs_model.specs.Step.{step}
use Rattle.fs_model.specs.Tree.{Path, Tree, upward}
use Rattle.copy_row.specs.host_folder.Folders.{HostPath}
use Rattle.copy_row.specs.copy_laws.declared.copied.Totals.{Totals}
use Rattle.copy_row.specs.copy_laws.Importing.{plain_of}
use Rattle.copy_row.specs.copy_laws.Questions.{Question}
use Rattle.copy_row.specs.copy_laws.declared.copied.CopyFail.TheVariants as fail
use Rattle.copy_sessions.specs.Fitting.{Fits, kept_after}
use Rattle.copy_sessions.specs.Laws.{AreFaultless, IsEndOf}
use Rattle.run_status.specs.declared.status.Status.{Status}
use Rattle.run_status.specs.declared.status.Status.TheVariants as status
use Rattle.copy_sessions.specs.session_lines.declared.end.End.{End}
use Rattle.copy_row.specs.declared.stop.Stop.{Stop}
use Rattle.copy_row.specs.declared.stop.Stop.TheVariants as stop
use Rattle.copy_file.specs.Coming.{IsPutSession, IsGetSession}
use Rattle.copy_file.specs.Putting.{IsPut}
use Rattle.copy_file.specs.Getting.{IsGet}

-- a file with these bytes stands at this path
abbrev pub HasFile : Tree → HostPath → List ℕ → Type 0
HasFile t p bytes = plain_of (get t (upward p)) ≡ Some (record { kind = File; bytes = bytes })

-- every other path has the kind and the bytes that it had
abbrev pub SameBut : Tree → Tree → HostPath → Type 0
SameBut first last p = (q : Path) → q ≢ upward p → plain_of (get last q) ≡ plain_of (get first q)

-- the file is new, and has these bytes
pub record IsPutIn (first last : Tree) (p : HostPath) (bytes : List ℕ) : Type 0 where
  pub free : get first (upward p) ≡ None
  pub file : HasFile last p bytes
  pub others : SameBut first last p

abbrev pub PutLeaves : Type 0
PutLeaves = (p : HostPath) (bytes : List ℕ) (totals : Totals) (now : Instant) (first : Tree) (qs : List Question) (es : List Exchange) (trees : List Tree)
    → IsPut p bytes qs (Ok totals) → Fits qs es → AllAt now es → IsSession first es trees → IsPutIn first (latest first trees) p bytes

-- the file is new, and has a front part of these bytes, or the tree is as it was
abbrev pub IsPutPart : Tree → Tree → HostPath → List ℕ → Type 0
IsPutPart first last p bytes = (last ≡ first) ⊎ ((part : List ℕ) × (rest : List ℕ) × (bytes ≡ part ++ rest) × IsPutIn first last p part)

abbrev pub PutLeavesPart : Type 0
PutLeavesPart = (p : HostPath) (bytes : List ℕ) (e : Stop) (now : Instant) (first : Tree) (qs : List Question) (es : List Exchange) (trees : List Tree)
    → IsPut p bytes qs (Err e) → Fits qs es → AllAt now es → IsSession first es trees → IsPutPart first (latest first trees) p bytes

-- the file's bytes were written, and no byte more
abbrev pub IsWritten : Tree → HostPath → Stream → Type 0
IsWritten t p output = (bytes : List ℕ) × (HasFile t p bytes × (output.new ≡ appends output.old bytes))

abbrev pub GetTells : Type 0
GetTells = (p : HostPath) (output : Stream) (now : Instant) (first : Tree) (qs : List Question) (es : List Exchange) (trees : List Tree)
    → IsGet p qs output {X = Unit {0}} (Ok tt) → Fits qs es → AllAt now es → IsSession first es trees → (latest first trees ≡ first) × IsWritten first p output

-- nothing was written, or a front part of the file's bytes
abbrev pub IsWrittenPart : Tree → HostPath → Stream → Type 0
IsWrittenPart t p output = (output.new ≡ output.old) ⊎ ((bytes : List ℕ) × (HasFile t p bytes × Cut output.old output.new bytes))

-- the command that reads the file is refused for this, and nothing was written
abbrev pub GetFails : Tree → Instant → HostPath → Stream → Stop → Type 0
GetFails t now p output (stop.Refused e) = ((step t now (command.Read p 0 1048576)).reply ≡ Error e) × (output.new ≡ output.old)
GetFails t now p output stop.Memory = IsWrittenPart t p output
GetFails t now p output stop.Host = IsWrittenPart t p output
GetFails t now p output stop.Stopped = IsWrittenPart t p output

abbrev pub GetTellsPart : Type 0
GetTellsPart = (p : HostPath) (output : Stream) (e : Stop) (now : Instant) (first : Tree) (qs : List Question) (es : List Exchange) (trees : List Tree)
    → IsGet p qs output {X = Unit {0}} (Err e) → Fits qs es → AllAt now es → IsSession first es trees → (latest first trees ≡ first) × GetFails first now p output e

-- the status of one that ended so where nothing failed: it stopped by want of memory, or by a block with its last version
abbrev pub IsFairEnd : {X : Type 0} → Result X Stop → Option Answer → Status → Type 0
IsFairEnd (Ok x) kept own = own ≡ status.Done
IsFairEnd (Err stop.Memory) kept own = own ≡ status.Memory
IsFairEnd (Err stop.Host) kept own = ⊥
IsFairEnd (Err stop.Stopped) kept own = IsEndOf (Err fail.Stopped) kept own
IsFairEnd (Err (stop.Refused e)) kept own = own ≡ status.CopyRefused

-- where neither an answer of the session nor its input failed, a put's status is that of its end, or memory was refused
abbrev pub PutEnds : Type 0
PutEnds = (p : HostPath) (taken : ℕ) (script : Option (List ℕ)) (input output : Stream) (end : End) (own : Status) (es : List Exchange) (s : IsPutSession p taken script input output end own es)
    → AreFaultless es → ¬ HasFailed input → ¬ TookMost taken input → (own ≡ status.Memory) ⊎ IsFairEnd s.result (kept_after None es) own

-- where neither an answer nor the output failed, so is a get's
abbrev pub GetEnds : Type 0
GetEnds = (p : HostPath) (input output : Stream) (end : End) (own : Status) (es : List Exchange) (s : IsGetSession p input output end own es) → AreFaultless es → ¬ HasFailed output → IsFairEnd s.result (kept_after None es) own
