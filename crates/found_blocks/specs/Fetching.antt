-- The front of a found block's payload, as it was fetched.
use Rattle.std.specs.Prelude.{◌≡◌, ℕ, List, take, Vec, Result}
use Rattle.std.specs.declared.option.Option.{Option}
use Rattle.std.specs.declared.alloc.Global.{Global}
use Rattle.std.specs.declared.result.Result.TheVariants.{Ok, Err}
use Rattle.block_id.specs.declared.fail.Fail.{Fail}
use Rattle.outside.specs.Trace.{Call}
use Rattle.store_api.specs.Content.{Id}
use Rattle.found_blocks.specs.Rows.{Author}
use Rattle.found_blocks.specs.Finding.{Finding}
use Rattle.found_blocks.specs.Reads.{Fetched}

-- a fetch's answer as plain data
abbrev pub fetched_of : Result (Vec ℕ Global) Fail → Result (List ℕ) Fail
fetched_of (Ok payload) = Ok payload.items
fetched_of (Err fail) = Err fail

-- of an answer's payload the first bytes, at most so many
abbrev pub front_answer : ℕ → Result (List ℕ) Fail → Result (List ℕ) Fail
front_answer most (Ok payload) = Ok (take most payload)
front_answer most (Err fail) = Err fail

-- the front of what was fetched: it was judged whole
pub record FetchedFront (f : Finding) (old new : Option (List Call)) (id : Id) (author : Author) (most : ℕ) (answer : Result (List ℕ) Fail) : Type 0 where
  pub whole : Result (List ℕ) Fail
  pub fetched : Fetched f old new id author whole
  pub front : answer ≡ front_answer most whole
