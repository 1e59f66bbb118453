-- The text of an answer.
use Rattle.std.specs.Prelude.{ℕ, codes, List, ◌++◌}
use Rattle.std.specs.List.{flat_map}
use Rattle.std.specs.Fmt.{decimal}
use Rattle.block_id.specs.Name.{name_of}
use Rattle.block_id.specs.declared.fail.Why.{Why}
use Rattle.block_id.specs.declared.fail.Why.TheVariants.{Missing, BadLength, BadPrefix, NotOpened, BadRecord, WrongId, ForeignClient, OldVersion, AheadVersion, Structure, OldFormat}
use Rattle.script_text.specs.Texts.{line, word, text_of}
use Rattle.answers.specs.declared.answer.Answer.{Answer}
use Rattle.answers.specs.declared.answer.Answer.TheVariants.{Reply as Replied, Memory, Spent, FaultDirectory, FaultState, Violation, Refused}

-- what is wrong with a block: a name, and the id, the client or the two versions
abbrev pub why_text : Why → List ℕ
why_text Missing = codes "missing"
why_text BadLength = codes "bad-length"
why_text BadPrefix = codes "bad-prefix"
why_text NotOpened = codes "not-opened"
why_text BadRecord = codes "bad-record"
why_text (WrongId id) = codes "wrong-id" ++ word (name_of id.0)
why_text (ForeignClient client) = codes "foreign-client" ++ word (decimal client)
why_text (OldVersion known found) = codes "old-version" ++ word (decimal known) ++ word (decimal found)
why_text (AheadVersion known found) = codes "ahead-version" ++ word (decimal known) ++ word (decimal found)
why_text Structure = codes "structure"
why_text OldFormat = codes "old-format"

-- the lines of an answer, each with its newline
unfoldable pub text_of_answer : Answer → List ℕ
text_of_answer (Replied reply) = text_of reply
text_of_answer Memory = line (codes "memory")
text_of_answer Spent = line (codes "spent")
text_of_answer FaultDirectory = line (codes "fault directory")
text_of_answer FaultState = line (codes "fault state")
text_of_answer (Violation why) = line (codes "violation" ++ word (why_text why))
text_of_answer Refused = line (codes "refused violation")

-- the texts of answers, one after another
abbrev pub texts_of : List Answer → List ℕ
texts_of answers = flat_map text_of_answer answers
