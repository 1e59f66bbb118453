-- The summary of answers.
use Rattle.std.specs.Prelude.{◌≤◌, ◌+◌, ◌*◌, ◌^◌, ℕ, Bool, true, false, codes, List, ◌++◌, length}
use Rattle.std.specs.List.{count_by, sum_by}
use Rattle.fs_model.specs.declared.reply.Reply.TheVariants.{Content, Error}
use Rattle.script_text.specs.Texts.{numeral, line, word}
use Rattle.answers.specs.declared.summary.Summary.{Summary}
use Rattle.answers.specs.declared.answer.Answer.{Answer}
use Rattle.answers.specs.declared.answer.Answer.TheVariants.{Reply as Replied}

abbrev pub is_error : Answer → Bool
is_error (Replied (Error error)) = true
is_error _ = false

abbrev pub is_reply : Answer → Bool
is_reply (Replied (Error error)) = false
is_reply (Replied _) = true
is_reply _ = false

abbrev pub is_other : Answer → Bool
is_other (Replied reply) = false
is_other _ = true

-- the bytes that were read
abbrev pub read_len : Answer → ℕ
read_len (Replied (Content bytes)) = length bytes
read_len _ = 0

-- how many answers, replies that are no errors, error replies, other answers, and bytes that were read
pub record Counts : Type 0 where
  pub lines : ℕ
  pub replies : ℕ
  pub errors : ℕ
  pub other : ℕ
  pub read : ℕ

unfoldable pub summary_of : List Answer → Counts
summary_of answers = record {
  lines = length answers;
  replies = count_by is_reply answers;
  errors = count_by is_error answers;
  other = count_by is_other answers;
  read = sum_by read_len answers;
}

-- a label and a number
abbrev pub labelled : List ℕ → ℕ → List ℕ
labelled label n = label ++ word (numeral 10 n)

abbrev pub first_counts : Counts → List ℕ
first_counts c = labelled (codes "lines") c.lines ++ labelled (codes " replies") c.replies ++ labelled (codes " errors") c.errors

abbrev pub last_counts : Counts → List ℕ
last_counts c = labelled (codes " other") c.other ++ labelled (codes " read") c.read

-- the line that is printed
unfoldable pub text_of_summary : Counts → List ℕ
text_of_summary c = line (first_counts c ++ last_counts c)

abbrev pub counts_of : Summary → Counts
counts_of s = record { lines = s.lines; replies = s.replies; errors = s.errors; other = s.other; read = s.read }

-- with an answer more that is no reply
abbrev pub with_other : Counts → Counts
with_other c = record c { lines = c.lines + 1; other = c.other + 1 }

-- no count is above that of the lines, and no answer reads 2^64 bytes
pub record IsSmall (c : Counts) : Type 0 where
  pub replies : c.replies ≤ c.lines
  pub errors : c.errors ≤ c.lines
  pub other : c.other ≤ c.lines
  pub read : c.read ≤ 2 ^ 64 * c.lines
