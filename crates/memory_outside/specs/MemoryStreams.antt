-- What streams in memory hold, and how often they were called.
use Rattle.std.specs.Prelude.{◌≡◌, ◌≤◌, ◌<◌, ◌++◌, ℕ, List, length, min, take, drop, Result, IfOk, OnErr}
use Rattle.std.specs.declared.option.Option.TheVariants.{Some}
use Rattle.block_id.specs.declared.fail.Failed.{Failed}
use Rattle.outside.specs.Causes.{one_more}
use Rattle.outside.specs.Streams.{WereTaken, Ends}

-- the bytes that are left, the most that one call gives, the numbers of the calls that fail, the calls and the faults so far
pub record Feed : Type 0 where
  pub rest : List ℕ
  pub piece : ℕ
  pub fails : List ℕ
  pub calls : ℕ
  pub faults : ℕ

-- one call took these bytes from the front
pub record TookOnce (old new : Feed) (bytes : List ℕ) : Type 0 where
  pub calls : new.calls ≡ one_more old.calls
  pub rest : WereTaken (Some old.rest) (Some new.rest) bytes

-- a read took the next bytes into the front of the piece, and none only where none is left
pub record TakesNext (old new : Feed) (piece filled : List ℕ) (n : ℕ) : Type 0 where
  pub bound : n ≤ length piece
  pub ok : WereTaken (Some old.rest) (Some new.rest) (take n filled)
  pub took : TookOnce old new (take n filled)
  pub end : n ≡ 0 → 0 < length piece → Ends (Some old.rest)

-- it took as many as there is room for and one call gives, and nothing else changed but the count of calls
pub record GivesMany (old new : Feed) (piece filled : List ℕ) (n : ℕ) : Type 0 where
  pub many : n ≡ min old.piece (min (length piece) (length old.rest))
  pub given : filled ≡ take n old.rest ++ drop n piece
  pub goes_on : new ≡ record old { rest = drop n old.rest; calls = one_more old.calls }

-- a read that failed took nothing, and counts a call and a fault
pub record GivesNone (old new : Feed) (piece filled : List ℕ) : Type 0 where
  pub err : new.rest ≡ old.rest
  pub faulty : new ≡ record old { calls = one_more old.calls; faults = one_more old.faults }
  pub untouched : filled ≡ piece

-- the bytes that were written, the most that one call takes and that all take, the numbers of the calls that fail, the calls and the faults so far
pub record Drain : Type 0 where
  pub written : List ℕ
  pub piece : ℕ
  pub room : ℕ
  pub fails : List ℕ
  pub calls : ℕ
  pub faults : ℕ

-- a write took the front of the piece and counts a call, or it failed and counts a call and a fault
pub record WriteLeaves (old new : Drain) (piece : List ℕ) (result : Result ℕ Failed) : Type 0 where
  pub goes_on : IfOk result (λ n. new ≡ record old { written = old.written ++ take n piece; calls = one_more old.calls })
  pub faulty : OnErr result (new ≡ record old { calls = one_more old.calls; faults = one_more old.faults })
