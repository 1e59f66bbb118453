-- What a survey of blocks asked for, and which of them weren't given. The newest answer stands first.
use Rattle.std.specs.Prelude.{◌≡◌, ◌≤◌, ◌+◌, ℕ, List, [], ◌∷◌, ◌++◌, map, reverse, take, Result, IfErr, OnOk, OnErr}
use Rattle.std.specs.declared.option.Option.{Option}
use Rattle.std.specs.declared.option.Option.TheVariants.{None, Some}
use Rattle.std.specs.declared.result.Result.TheVariants.{Ok, Err}
use Rattle.block_id.specs.declared.fail.Fail.TheVariants.{Memory, Fault, Violation}
use Rattle.block_id.specs.declared.fail.Memory as memory
use Rattle.block_id.specs.declared.fail.Why.{Why}
use Rattle.check_walk.specs.Given.{Asked, AskedBy}
use Rattle.outside.specs.Causes.{RoseBy}
use Rattle.check_walk.specs.store_outcome.Meanings.{Meanings, HasCause, IsCalm, IsQuiet}
use Rattle.check_walk.specs.store_api.Content.{Id}
use Rattle.check_walk.specs.store_api.Holdings.{Holdings, Stays}
use Rattle.check_walk.specs.store_api.Loads.{LoadAnswer}
use Rattle.check_refused.specs.declared.survey.Ungiven.{Ungiven}

-- a block that wasn't given, with the verdict that refuses it, or none where the call failed
abbrev pub Loss : Type 0
Loss = Id × Option Why

abbrev pub ungiven_of : Ungiven → Loss
ungiven_of u = (u.id.0, u.why)

-- how many of them a verdict refuses
abbrev pub is_refusal : Option Why → ℕ
is_refusal None = 0
is_refusal (Some why) = 1

unfoldable pub refusals : List Loss → ℕ
refusals [] = 0
refusals (u ∷ us) = is_refusal u.1 + refusals us

-- of how many the call failed
abbrev pub is_failure : Option Why → ℕ
is_failure None = 1
is_failure (Some why) = 0

unfoldable pub failures : List Loss → ℕ
failures [] = 0
failures (u ∷ us) = is_failure u.1 + failures us

-- What loads leave, whatever they answer: the store is as it was but for its calls.
pub record Surveys {S : Type 0} (M : Meanings S) (H : Holdings S) (a b : S) : Type 0 where
  pub intact : M.intact b
  pub loaded : M.loaded a b
  pub sound : M.sound a → M.forgeries b ≤ M.forgeries a → M.sound b
  pub stays : Stays H a b

-- what an answer says of faults and verdicts, as that of any load: a fault comes only where one was met, none is passed over, and no verdict is made up
pub record IsAnswered {S : Type 0} (M : Meanings S) (a b : S) (answer : LoadAnswer) : Type 0 where
  pub fault : IfErr answer (λ e. HasCause e (M.faults a) (M.faults b))
  pub quiet : IsQuiet answer (M.faults a) (M.faults b)
  pub calm : M.sound a → M.lies b ≤ M.lies a → IfErr answer IsCalm

-- the block, where a verdict refused it or the call failed
abbrev pub ungiven_by : Id → LoadAnswer → List Loss
ungiven_by id (Ok payload) = []
ungiven_by id (Err Memory) = []
ungiven_by id (Err Fault) = (id, None) ∷ []
ungiven_by id (Err (Violation why)) = (id, Some why) ∷ []

-- the blocks that weren't given, in the order in which they were asked for
abbrev pub losses_of : Asked → List Loss
losses_of [] = []
losses_of (q ∷ qs) = losses_of qs ++ ungiven_by q.0 q.1

-- a payload came, a verdict refused it, or the call failed
abbrev pub IsSettled : LoadAnswer → Type 0
IsSettled (Ok None) = ⊥
IsSettled (Ok (Some payload)) = Unit {0}
IsSettled (Err Memory) = ⊥
IsSettled (Err Fault) = Unit {0}
IsSettled (Err (Violation why)) = Unit {0}

abbrev pub AreSettled : Asked → Type 0
AreSettled [] = Unit {0}
AreSettled (q ∷ qs) = IsSettled q.1 × AreSettled qs

-- a block with this answer more: it is told where it wasn't given
pub record IsNoted (answer : LoadAnswer) (id : Id) (before after : List Loss) : Type 0 where
  pub settled : IsSettled answer
  pub told : after ≡ before ++ ungiven_by id answer

-- the block was asked for once, and is told; or memory was wanting, and it isn't
pub record IsAsked {S : Type 0} (M : Meanings S) (loads : S → S → Id → LoadAnswer → Type 0) (a b : S) (id : Id) (before after : List Loss) (result : Result Unit memory.Memory) : Type 0 where
  pub answer : LoadAnswer
  pub load : loads a b id answer
  pub answered : IsAnswered M a b answer
  pub noted : OnOk result (IsNoted answer id before after)
  pub left : OnErr result (after ≡ before)

-- These blocks were asked for, one after another and each once, and nothing else was done. These of them weren't given, each by its verdict or a call that failed; of each other the payload came.
pub record IsSurvey {S : Type 0} (loads : S → S → Id → LoadAnswer → Type 0) (ids : List Id) (a b : S) (ungiven : List Loss) : Type 0 where
  pub asked : Asked
  pub by : AskedBy loads a asked b
  pub all : map (λ q. q.0) asked ≡ reverse ids
  pub settled : AreSettled asked
  pub told : ungiven ≡ losses_of asked

-- No more than the first of these blocks were asked for, and nothing else was done. Those that weren't given are told, but perhaps the last.
pub record IsCutShort {S : Type 0} (loads : S → S → Id → LoadAnswer → Type 0) (ids : List Id) (a b : S) (ungiven : List Loss) : Type 0 where
  pub asked : Asked
  pub by : AskedBy loads a asked b
  pub count : ℕ
  pub some : map (λ q. q.0) asked ≡ reverse (take count ids)
  pub last : List Loss
  pub told : losses_of asked ≡ ungiven ++ last

-- Each failed call that is told raised the count by one; where none is, and all blocks were asked for, the count is as it was.
pub record Counts (before now : ℕ) (ungiven : List Loss) (result : Result Unit memory.Memory) : Type 0 where
  pub rose : RoseBy (failures ungiven) before now
  pub quiet : OnOk result (failures ungiven ≡ 0 → now ≡ before)
