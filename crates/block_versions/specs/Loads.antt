-- What a load of a block leaves and answers.
use Rattle.std.specs.Prelude.{◌≡◌, ℕ, ◌+◌, List, take, Vec, Result}
use Rattle.std.specs.declared.option.Option.{Option}
use Rattle.std.specs.declared.option.Option.TheVariants.{None, Some}
use Rattle.std.specs.declared.alloc.Global.{Global}
use Rattle.std.specs.declared.result.Result.TheVariants.{Ok, Err}
use Rattle.block_id.specs.declared.fail.Fail.{Fail}
use Rattle.block_id.specs.declared.fail.Fail.TheVariants.{Memory, Fault, Violation}
use Rattle.outside.specs.Trace.{block, Call}
use Rattle.sealed_store.specs.redo_vault.Redo.{Gave}
use Rattle.store_api.specs.Loads.{LoadAnswer}
use Rattle.block_versions.specs.Verdicts.{bad, good, verdict}
use Rattle.block_versions.specs.Held.{Held, live_version, waiting}

-- a file came for this id, from the list or by one call
abbrev pub Came : Held → Option (List Call) → Option (List Call) → List ℕ → Option (List ℕ) → Type 0
Came h old new id file = Gave (waiting h id) old new (block id) (h.size + 1) file

-- a fetch's answer as plain data
abbrev pub fetched_of : Result (Vec ℕ Global) Fail → Result (List ℕ) Fail
fetched_of (Ok payload) = Ok payload.items
fetched_of (Err fail) = Err fail

-- of a live id at this version: a payload or a reason by the verdict on what came; a fault or want of memory where nothing came
abbrev pub Fetched : Held → Option (List Call) → Option (List Call) → List ℕ → ℕ → Result (List ℕ) Fail → Type 0
Fetched h old new id version (Ok payload) =
    (file : Option (List ℕ)) × Came h old new id file × (verdict h.opens h.size id h.state.client version h.state.least file ≡ good payload)
Fetched h old new id version (Err Memory) = new ≡ old
Fetched h old new id version (Err Fault) = new ≡ old
Fetched h old new id version (Err (Violation why)) =
    (file : Option (List ℕ)) × Came h old new id file × (verdict h.opens h.size id h.state.client version h.state.least file ≡ bad why)

-- of an answer's payload the first bytes, at most so many
abbrev pub front_answer : ℕ → Result (List ℕ) Fail → Result (List ℕ) Fail
front_answer most (Ok payload) = Ok (take most payload)
front_answer most (Err fail) = Err fail

-- the front of what was fetched: it was judged whole
pub record FetchedFront (h : Held) (old new : Option (List Call)) (id : List ℕ) (version most : ℕ) (answer : Result (List ℕ) Fail) : Type 0 where
  pub whole : Result (List ℕ) Fail
  pub fetched : Fetched h old new id version whole
  pub front : answer ≡ front_answer most whole

-- what a load of an id answers: none where it doesn't live, without a call; else by the verdict on what came
abbrev pub LoadAnswers : Held → Option (List Call) → Option (List Call) → List ℕ → Option ℕ → LoadAnswer → Type 0
LoadAnswers h old new id None (Ok None) = new ≡ old
LoadAnswers h old new id None (Ok (Some payload)) = ⊥
LoadAnswers h old new id None (Err e) = ⊥
LoadAnswers h old new id (Some version) (Ok None) = ⊥
LoadAnswers h old new id (Some version) (Ok (Some payload)) = Fetched h old new id version (Ok payload)
LoadAnswers h old new id (Some version) (Err e) = Fetched h old new id version (Err e)

-- a load leaves what is held, and answers by the verdict
pub record Loads (a b : Held) (old new : Option (List Call)) (id : List ℕ) (answer : LoadAnswer) : Type 0 where
  pub held : b ≡ a
  pub judged : LoadAnswers a old new id (live_version a id) answer

-- the same of a store, by the views of what it holds and of its trace
abbrev pub loads_by : {S : Type 0} → (S → Held) → (S → Option (List Call)) → S → S → List ℕ → LoadAnswer → Type 0
loads_by held trace a b id answer = Loads (held a) (held b) (trace a) (trace b) id answer
