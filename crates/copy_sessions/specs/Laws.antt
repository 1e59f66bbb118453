-- What a copy leaves, by its session: the laws.
use Rattle.std.specs.Prelude.{◌≡◌, ◌⊎◌, ℕ, List, [], ◌∷◌}
use Rattle.std.specs.declared.option.Option.{Option}
use Rattle.std.specs.declared.option.Option.TheVariants.{None, Some}
use Rattle.std.specs.declared.result.Result.{Result}
use Rattle.std.specs.declared.result.Result.TheVariants.{Ok, Err}
use Rattle.fs_model.specs.Instant.{Instant}
use Rattle.fs_model.specs.Tree.{Tree, IsWellFormed}
use Rattle.session_lines.specs.answers.Sessions.{Exchange, AllAt, IsSession, latest}
use Rattle.session_lines.specs.answers.declared.answer.Answer.{Answer}
use Rattle.session_lines.specs.answers.declared.answer.Answer.TheVariants as answer
use Rattle.session_lines.specs.line_io.Streams.{Stream}
use Rattle.outside.specs.Causes.{RoseBy}
use Rattle.run_status.specs.declared.status.Status.{Status}
use Rattle.run_status.specs.declared.status.Status.TheVariants as status
use Rattle.session_lines.specs.declared.end.End.{End}
use Rattle.copy_laws.specs.host_folder.Folders.{HostPath, HostTree}
use Rattle.copy_laws.specs.declared.copied.CopyFail.{CopyFail}
use Rattle.copy_laws.specs.declared.copied.CopyFail.TheVariants as fail
use Rattle.copy_laws.specs.declared.copied.Totals.{Totals}
use Rattle.copy_laws.specs.Ends.{IsImport}
use Rattle.copy_laws.specs.ExportLaws.{IsCopyOf, IsPartBelow}
use Rattle.copy_laws.specs.Exporting.{IsBegun, IsExport, OnTold}
use Rattle.copy_laws.specs.Importing.{Merged}
use Rattle.copy_laws.specs.Laws.{SameBelow, IsFree}
use Rattle.copy_laws.specs.Questions.{Question, Followed}
use Rattle.copy_sessions.specs.Coming.{IsImportSession, IsExportSession}
use Rattle.copy_sessions.specs.Fitting.{Fits, kept_after}

-- the trees of a session at one moment are those of its questions, one after the other
abbrev pub CopyFollows : Type 0
CopyFollows = (now : Instant) (first : Tree) (qs : List Question) (es : List Exchange) (trees : List Tree) → Fits qs es → AllAt now es → IsSession first es trees → Followed first now qs (latest first trees)

-- an import that is Ok leaves the folder's tree below its target in the session's last tree, and where nothing stood there it is the same
pub record IsImported (first last : Tree) (q : HostPath) (t : HostTree) : Type 0 where
  pub merged : Merged first last q t
  pub same : IsFree first q → SameBelow last q t

abbrev pub ImportLeaves : Type 0
ImportLeaves = (folder : Option HostTree) (q : HostPath) (t : HostTree) (totals : Totals) (now : Instant) (first : Tree) (qs : List Question) (es : List Exchange) (trees : List Tree)
    → IsImport folder q t qs (Ok totals) → Fits qs es → AllAt now es → IsSession first es trees → IsImported first (latest first trees) q t

-- an export that is Ok leaves the tree of the session, and the folder has what stands below the source; the first tree is well formed, as each is that a file system stands for
abbrev pub ExportLeaves : Type 0
ExportLeaves = (before after : Option HostTree) (q : HostPath) (totals : Totals) (now : Instant) (first : Tree) (qs : List Question) (es : List Exchange) (trees : List Tree)
    → IsExport before after q qs (Ok totals) → IsWellFormed first → Fits qs es → AllAt now es → IsSession first es trees → (latest first trees ≡ first) × IsCopyOf before after first q totals

-- one that fails leaves it as well, and the folder, where it was copied into, is a part of what stands below the source
abbrev pub ExportLeavesPart : Type 0
ExportLeavesPart = (before after : Option HostTree) (q : HostPath) (e : CopyFail) (now : Instant) (first : Tree) (qs : List Question) (es : List Exchange) (trees : List Tree)
    → IsBegun before after q qs (Err e) → IsWellFormed first → Fits qs es → AllAt now es → IsSession first es trees → (latest first trees ≡ first) × OnTold before after (λ v. IsPartBelow v first q)

-- a reply, or memory was refused, or a block that the command would change has its last version
abbrev pub IsFaultless : Answer → Type 0
IsFaultless (answer.Reply reply) = Unit {0}
IsFaultless answer.Memory = Unit {0}
IsFaultless answer.Spent = Unit {0}
IsFaultless other = ⊥

abbrev pub AreFaultless : List Exchange → Type 0
AreFaultless [] = Unit {0}
AreFaultless (e ∷ es) = IsFaultless e.answer × AreFaultless es

-- the status of a copy that ended so where nothing failed: it stopped by want of memory, or by a block with its last version
abbrev pub IsEndOf : Result Totals CopyFail → Option Answer → Status → Type 0
IsEndOf (Ok totals) kept own = own ≡ status.Done
IsEndOf (Err fail.Memory) kept own = own ≡ status.Memory
IsEndOf (Err fail.Host) kept own = ⊥
IsEndOf (Err fail.Stopped) kept own = ((kept ≡ Some answer.Memory) × (own ≡ status.Memory)) ⊎ ((kept ≡ Some answer.Spent) × (own ≡ status.CopyStopped))
IsEndOf (Err (fail.LongPath p)) kept own = own ≡ status.CopyRefused
IsEndOf (Err (fail.Refused p e)) kept own = own ≡ status.CopyRefused

-- where no answer of the session and no call on the folder failed, its status is that of its end, or memory was refused
abbrev pub ImportEnds : Type 0
ImportEnds = (folder : Option HostTree) (faults risen : ℕ) (target : HostPath) (input output : Stream) (end : End) (own : Status) (es : List Exchange) (s : IsImportSession folder faults risen target input output end own es)
    → AreFaultless es → ¬ RoseBy 1 faults risen → (own ≡ status.Memory) ⊎ IsEndOf s.result (kept_after None es) own

abbrev pub ExportEnds : Type 0
ExportEnds = (before after : Option HostTree) (faults risen : ℕ) (source : HostPath) (input output : Stream) (end : End) (own : Status) (es : List Exchange) (s : IsExportSession before after faults risen source input output end own es)
    → AreFaultless es → ¬ RoseBy 1 faults risen → (own ≡ status.Memory) ⊎ IsEndOf s.result (kept_after None es) own
