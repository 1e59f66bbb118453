-- Which lines a session took, and what it wrote.
use Rattle.std.specs.Prelude.{◌≡◌, ℕ, List, length}
use Rattle.fs_model.specs.Instant.{Instant}
use Rattle.run_frame.specs.line_io.Streams.{Stream}
use Rattle.run_frame.specs.answers.declared.answer.Answer.{Answer}
use Rattle.run_frame.specs.answers.Sessions.{Exchange}
use Rattle.run_frame.specs.answers.Summaries.{summary_of, text_of_summary}
use Rattle.run_frame.specs.answers.Texts.{text_of_answer}
use Rattle.run_frame.specs.session_lines.Asking.{generated, single}
use Rattle.run_frame.specs.session_lines.Driven.{Reported}
use Rattle.run_frame.specs.session_lines.declared.end.End.{End}

-- so many generated commands at this moment, and the summary of the answers
abbrev pub CameGenerated : Instant → ℕ → Stream → End → List Exchange → Type 0
CameGenerated now count output end es = (answers : List Answer) × (es ≡ generated now answers) × (length answers ≡ count) × Reported output (text_of_summary (summary_of answers)) end

-- one line at this moment, and its answer
abbrev pub CameSingle : Instant → List ℕ → Stream → End → List Exchange → Type 0
CameSingle now line output end es = (answer : Answer) × (es ≡ single now line answer) × Reported output (text_of_answer answer) end
