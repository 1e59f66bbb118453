-- What a run does. Which lines were answered and what was written is said by the way in which they ended, and the status by that.
use Rattle.std.specs.Prelude.{◌≡◌, ◌⊎◌, ℕ, List, length}
use Rattle.fs_model.specs.Instant.{Instant}
use Rattle.fs_model.specs.Tree.{Tree, empty_tree}
use Rattle.session_lines.specs.line_io.Streams.{Stream, Untouched}
use Rattle.answers.specs.declared.answer.Answer.{Answer}
use Rattle.answers.specs.Sessions.{Exchange, AllAt, IsSession}
use Rattle.answers.specs.Summaries.{summary_of, text_of_summary}
use Rattle.session_lines.specs.Asking.{generated}
use Rattle.session_lines.specs.Driven.{EndsAs, Reported}
use Rattle.session_lines.specs.declared.end.End.{End}
use Rattle.session_lines.specs.declared.end.End.TheVariants.{Finished, InputFault as InputEnd, OutputFault as OutputEnd}
use Rattle.run_status.specs.declared.status.Status.{Status}
use Rattle.run_status.specs.declared.status.Status.TheVariants.{Done, InputFault, OutputFault, Memory}
use Rattle.trial_runs.specs.Plain.{ArePlain}

-- the status of lines that ended so
abbrev pub status_of : End → Status
status_of Finished = Done
status_of InputEnd = InputFault
status_of OutputEnd = OutputFault

-- the lines of the input, answered by a new plain tree at this moment; the newest exchanges and trees stand first
pub record IsTrial (now : Instant) (input output : Stream) (end : End) (es : List Exchange) (trees : List Tree) : Type 0 where
  pub replies : IsSession empty_tree es trees
  pub moments : AllAt now es
  pub plain : ArePlain es
  pub ends : EndsAs 0 input.old input output es end

-- memory was refused before the first line, or there are exchanges and trees
abbrev pub Tried : Instant → Stream → Stream → Status → Type 0
Tried now input output status = ((status ≡ Memory) × Untouched input × Untouched output)
    ⊎ ((end : End) × (status ≡ status_of end) × (es : List Exchange) × (trees : List Tree) × IsTrial now input output end es trees)

-- so many generated commands, answered by a new plain tree at this moment, and the summary of the answers
pub record IsGeneratedOnPlain (now : Instant) (count : ℕ) (output : Stream) (end : End) (answers : List Answer) (trees : List Tree) : Type 0 where
  pub replies : IsSession empty_tree (generated now answers) trees
  pub plain : ArePlain (generated now answers)
  pub all : length answers ≡ count
  pub written : Reported output (text_of_summary (summary_of answers)) end

-- memory was refused before the first command, or there are answers and trees
abbrev pub GeneratedOnPlain : Instant → ℕ → Stream → Status → Type 0
GeneratedOnPlain now count output status = ((status ≡ Memory) × Untouched output)
    ⊎ ((end : End) × (status ≡ status_of end) × (answers : List Answer) × (trees : List Tree) × IsGeneratedOnPlain now count output end answers trees)
