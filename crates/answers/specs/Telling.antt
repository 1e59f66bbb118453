-- The answer that a text tells.
use Rattle.std.specs.Prelude.{◌≡◌, ◌⊎◌}
use Rattle.answers.specs.declared.answer.Answer.{Answer}
use Rattle.answers.specs.declared.answer.Answer.TheVariants.{Reply as Replied, Memory}
use Rattle.answers.specs.Hosts.{IsLongReply}

-- only the text of such a reply may want memory
abbrev pub MayWant : Answer → Type 0
MayWant (Replied reply) = IsLongReply reply
MayWant _ = ⊥

-- the answer, or Memory in place of one whose text finds none
abbrev pub IsTold : Answer → Answer → Type 0
IsTold answer told = (told ≡ answer) ⊎ (MayWant answer × (told ≡ Memory))
