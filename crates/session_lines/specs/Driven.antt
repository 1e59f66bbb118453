-- What a session did, from its first line to its end.
use Rattle.std.specs.Prelude.{◌≡◌, ◌⊎◌, ◌<◌, ◌≤◌, ℕ, ◌^◌, true, List, length}
use Rattle.std.specs.declared.option.Option.{Option}
use Rattle.fs_model.specs.Instant.{Instant}
use Rattle.outside.specs.Streams.{appends, Ends}
use Rattle.line_io.specs.Reading.{Reading, Line, TookNoLine, coming, remaining}
use Rattle.line_io.specs.Streams.{Stream, HasFailed, TookMost, Cut}
use Rattle.answers.specs.script_text.Grammar.{command_of}
use Rattle.answers.specs.declared.answer.Answer.{Answer}
use Rattle.answers.specs.Hosts.{Hosting, Ran}
use Rattle.answers.specs.Sessions.{Exchange, AllAt}
use Rattle.answers.specs.Summaries.{Counts, summary_of, text_of_summary}
use Rattle.answers.specs.Texts.{text_of_answer}
use Rattle.session_lines.specs.declared.end.End.{End}
use Rattle.session_lines.specs.declared.end.End.TheVariants.{Finished, InputFault, OutputFault}
use Rattle.session_lines.specs.Asking.{said_in, AskedFirst, AskedAll, AskedTaken, CutLast, generated, single}

-- no call failed
abbrev pub IsUnfailed : Stream → Type 0
IsUnfailed s = s.risen ≡ s.faults

-- the count of faults of neither falls
pub record NeitherFalls (input output : Stream) : Type 0 where
  pub input_grows : input.faults ≤ input.risen
  pub output_grows : output.faults ≤ output.risen

-- the input was read to its end, all its lines were answered, and all answers were written
pub record IsWholeSession (coming : Option (List ℕ)) (input output : Stream) (es : List Exchange) : Type 0 where
  pub asked : AskedAll coming es
  pub ends : Ends input.new
  pub written : output.new ≡ appends output.old (said_in es)
  pub input_quiet : IsUnfailed input
  pub output_quiet : IsUnfailed output

-- the input failed; all lines that had come were answered, and their answers written
pub record IsCutInput (taken : ℕ) (coming : Option (List ℕ)) (input output : Stream) (es : List Exchange) : Type 0 where
  pub asked : AskedTaken coming input.new es
  pub written : output.new ≡ appends output.old (said_in es)
  pub cause : HasFailed input ⊎ TookMost taken input
  pub output_quiet : IsUnfailed output

-- the output failed in the answer to one of the lines
pub record IsCutOutput (coming : Option (List ℕ)) (input output : Stream) (es : List Exchange) : Type 0 where
  pub asked : AskedFirst coming es
  pub written : CutLast output.old output.new es
  pub cause : HasFailed output
  pub input_quiet : IsUnfailed input

-- which lines were answered and what was written, by the way in which they ended
abbrev pub EndsAs : ℕ → Option (List ℕ) → Stream → Stream → List Exchange → End → Type 0
EndsAs taken coming input output es Finished = IsWholeSession coming input output es
EndsAs taken coming input output es InputFault = IsCutInput taken coming input output es
EndsAs taken coming input output es OutputFault = IsCutOutput coming input output es

-- the lines that come were answered, one after another at this moment, until they ended
abbrev pub Served : {H : Type 0} → Hosting H → Instant → H → H → ℕ → Option (List ℕ) → Stream → Stream → End → Type 0
Served M now old new taken coming input output end = (es : List Exchange) × Ran M old es new × AllAt now es × EndsAs taken coming input output es end

-- the text was written whole, or in part where the sink failed
abbrev pub Reported : Stream → List ℕ → End → Type 0
Reported output text Finished = (output.new ≡ appends output.old text) × IsUnfailed output
Reported output text InputFault = ⊥
Reported output text OutputFault = Cut output.old output.new text × HasFailed output

-- so many generated commands were answered, with these counts
abbrev pub Summed : {H : Type 0} → Hosting H → Instant → H → H → ℕ → Counts → Type 0
Summed M now old new count counts = (answers : List Answer) × Ran M old (generated now answers) new × (length answers ≡ count) × (counts ≡ summary_of answers)

-- so many generated commands were answered, and the summary was written
pub record IsGenerated {H : Type 0} (M : Hosting H) (now : Instant) (old new : H) (count : ℕ) (output : Stream) (end : End) (answers : List Answer) : Type 0 where
  pub ran : Ran M old (generated now answers) new
  pub all : length answers ≡ count
  pub written : Reported output (text_of_summary (summary_of answers)) end

abbrev pub Generated : {H : Type 0} → Hosting H → Instant → H → H → ℕ → Stream → End → Type 0
Generated M now old new count output end = (answers : List Answer) × IsGenerated M now old new count output end answers

-- one line was answered, and the answer was written
pub record IsSingle {H : Type 0} (M : Hosting H) (now : Instant) (old new : H) (line : List ℕ) (output : Stream) (end : End) (answer : Answer) : Type 0 where
  pub ran : Ran M old (single now line answer) new
  pub written : Reported output (text_of_answer answer) end

abbrev pub AnsweredOne : {H : Type 0} → Hosting H → Instant → H → H → List ℕ → Stream → End → Type 0
AnsweredOne M now old new line output end = (answer : Answer) × IsSingle M now old new line output end answer

-- a line got an answer, whose text this is
abbrev pub TellsLine : {H : Type 0} → Hosting H → Instant → H → List ℕ → List ℕ → H → Type 0
TellsLine M now old line text new = (answer : Answer) × M.answers old now (command_of line) answer new × (text ≡ text_of_answer answer)

-- the next line was taken and got an answer, whose text this is
abbrev pub TellsNext : {H : Type 0} → Hosting H → Instant → H → H → Option (List ℕ) → Option (List ℕ) → List ℕ → Type 0
TellsNext M now old new before after text = (line : List ℕ) × TellsLine M now old line text new × Line before line after

-- and its text was written
abbrev pub Took : {H : Type 0} → Hosting H → Instant → H → H → Option (List ℕ) → Option (List ℕ) → List ℕ → Stream → Stream → Type 0
Took M now old new before after text input output = TellsNext M now old new before after text × (output.new ≡ appends output.old text) × IsUnfailed input × IsUnfailed output

-- where the reader stands behind a line: nearer to its end, which it tells only where nothing comes
pub record IsNearer (old new : Reading) (rest : Option (List ℕ)) : Type 0 where
  pub nearer : remaining new < remaining old
  pub ended : new.ended ≡ true → Ends (coming new.ahead rest)

-- a turn in which the lines ended: none was left, the source failed in the next, or the sink failed in the answer
abbrev pub Stopped : {H : Type 0} → Hosting H → Instant → H → H → Option (List ℕ) → Option (List ℕ) → ℕ → Stream → Stream → List ℕ → End → Type 0
Stopped M now old new before after taken input output text Finished = (new ≡ old) × Ends before × Ends input.new × (output.new ≡ output.old) × IsUnfailed input × IsUnfailed output
Stopped M now old new before after taken input output text InputFault = (new ≡ old) × (output.new ≡ output.old) × (HasFailed input ⊎ (taken ≡ 2 ^ 63)) × IsUnfailed output × TookNoLine before input.new
Stopped M now old new before after taken input output text OutputFault = TellsNext M now old new before after text × Cut output.old output.new text × HasFailed output × IsUnfailed input
