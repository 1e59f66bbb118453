-- The answers that a program has: each part is within its type.
use Rattle.std.specs.Prelude.{◌≡◌, ◌^◌, ◌<◌, List, length}
use Rattle.std.specs.List.{AllByRecursion}
use Rattle.block_id.specs.declared.fail.Why.{Why}
use Rattle.block_id.specs.declared.fail.Why.TheVariants.{WrongId, ForeignClient, OldVersion, AheadVersion}
use Rattle.script_text.specs.Shown.{AreBytes, IsShown as IsReplyShown}
use Rattle.answers.specs.declared.answer.Answer.{Answer}
use Rattle.answers.specs.declared.answer.Answer.TheVariants.{Reply as Replied, Violation}
use Rattle.answers.specs.Texts.{texts_of}

abbrev pub IsWhyShown : Why → Type 0
IsWhyShown (WrongId id) = (length id.0 ≡ 16) × AreBytes id.0
IsWhyShown (ForeignClient client) = client < 2 ^ 64
IsWhyShown (OldVersion known found) = (known < 2 ^ 64) × (found < 2 ^ 64)
IsWhyShown (AheadVersion known found) = (known < 2 ^ 64) × (found < 2 ^ 64)
IsWhyShown _ = Unit {0}

abbrev pub IsShown : Answer → Type 0
IsShown (Replied reply) = IsReplyShown reply
IsShown (Violation why) = IsWhyShown why
IsShown _ = Unit {0}

-- two lists of answers that print alike are the same
abbrev pub HasOneReading : Type 0
HasOneReading = (xs ys : List Answer) → AllByRecursion IsShown xs → AllByRecursion IsShown ys → texts_of xs ≡ texts_of ys → xs ≡ ys
