-- What each answer of a session is, by what was asked. The newest exchange stands first.
use Rattle.std.specs.Prelude.{◌≡◌, ◌≤◌, ◌+◌, ◌^◌, ℕ, false, List, [], ◌∷◌, length, Ok, Err}
use Rattle.std.specs.declared.option.Option.{Option}
use Rattle.fs_model.specs.Laws.{OnlyLooks}
use Rattle.run_frame.specs.answers.declared.answer.Answer.{Answer}
use Rattle.run_frame.specs.answers.Sessions.{Asked, Exchange}
use Rattle.run_frame.specs.mount_stores.Opening.{AreKnown, KeepsVersions}
use Rattle.mount.specs.mount_core.Answers.{is_structure, OnReply, OnSpent}
pub use Rattle.mount.specs.mount_core.Answering.{IsBadLineAnswer}
use Rattle.mount.specs.mount_core.Showing.{IsReplyTo}

-- a line that is none is answered so; the reply to a command has its form, and only one that changes something is answered by Spent
abbrev pub IsAnswerTo : Asked → Answer → Type 0
IsAnswerTo (Ok command) answer = OnReply answer (IsReplyTo command) × OnSpent answer (OnlyLooks command → ⊥)
IsAnswerTo (Err error) answer = IsBadLineAnswer error answer

abbrev pub AreAnswered : List Exchange → Type 0
AreAnswered [] = Unit {0}
AreAnswered (e ∷ es) = IsAnswerTo e.asked e.answer × AreAnswered es

-- no answer is a violation of the structure
abbrev pub AreBuilt : List Exchange → Type 0
AreBuilt [] = Unit {0}
AreBuilt (e ∷ es) = (is_structure e.answer ≡ false) × AreBuilt es

-- Spent comes only where some block's version at the beginning, and one for each exchange before, may be the last of 64 bits
abbrev pub AreSpent : (List ℕ → ℕ) → List Exchange → Type 0
AreSpent version [] = Unit {0}
AreSpent version (e ∷ es) = OnSpent e.answer ((id : List ℕ) × (2 ^ 64 ≤ version id + length es + 1)) × AreSpent version es

-- the same by the versions in the record that was kept at the beginning
abbrev pub SpentSince : Option (List ℕ) → List Exchange → Type 0
SpentSince kept es = (version : List ℕ → ℕ) → AreKnown kept version → AreSpent version es

-- a record is kept at the end, and no version in it is higher than in the one at the beginning by more than one for each exchange
abbrev pub VersionsSince : Option (List ℕ) → Option (List ℕ) → List Exchange → Type 0
VersionsSince before after es = (new : List ℕ → ℕ) × KeepsVersions after new × ((old : List ℕ → ℕ) → AreKnown before old → (id : List ℕ) → new id ≤ old id + length es)
