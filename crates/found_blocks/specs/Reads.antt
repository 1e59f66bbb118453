-- Reads of found blocks: what they make of the trace, what they answer, and which files they gave.
use Rattle.std.specs.Prelude.{◌≡◌, ℕ, ◌+◌, Bool, false, List, [], ◌∷◌, ◌++◌, Result}
use Rattle.std.specs.declared.option.Option.{Option}
use Rattle.std.specs.declared.option.Option.TheVariants.{None, Some}
use Rattle.std.specs.declared.result.Result.TheVariants.{Ok, Err}
use Rattle.block_id.specs.declared.fail.Why.{Why}
use Rattle.block_id.specs.declared.fail.Fail.{Fail}
use Rattle.block_id.specs.declared.fail.Fail.TheVariants.{Memory, Fault, Violation}
use Rattle.outside.specs.Trace.{config, block, Call, got, put, removed, adds}
use Rattle.store_api.specs.Content.{Id}
use Rattle.store_api.specs.Loads.{LoadAnswer}
use Rattle.block_versions.specs.Reads.{Among}
use Rattle.block_versions.specs.Verdicts.{Verdict, good, bad}
use Rattle.found_blocks.specs.Rows.{Author, author_in}
use Rattle.found_blocks.specs.Finding.{Finding, judged_as, payload_of}

-- a found block was asked for, with one byte more than a file has
pub record IsRead (f : Finding) (call : Call) : Type 0 where
  pub id : Id
  pub author : Author
  pub answer : Option (List ℕ)
  pub found : author_in f.rows id ≡ Some author
  pub is : call ≡ got (block id) (f.size + 1) answer

-- each of the calls is such a read
abbrev pub AllReads : Finding → List Call → Type 0
AllReads f [] = Unit {0}
AllReads f (call ∷ calls) = IsRead f call × AllReads f calls

-- the trace went on by reads alone
abbrev pub WentOnByReads : Finding → Option (List Call) → Option (List Call) → Type 0
WentOnByReads f None new = new ≡ None
WentOnByReads f (Some old) new = (reads : List Call) × (new ≡ Some (reads ++ old)) × AllReads f reads

-- of a found block, one of these calls gave a file that is wrong in this way
pub record GaveBad (f : Finding) (calls : List Call) (why : Why) : Type 0 where
  pub id : Id
  pub author : Author
  pub file : Option (List ℕ)
  pub found : author_in f.rows id ≡ Some author
  pub wrong : judged_as f id author file ≡ bad why
  pub came : Among calls (got (block id) (f.size + 1) file)

-- since then a call gave such a file, of a directory that tells its calls
abbrev pub FoundSince : Finding → Option (List Call) → Option (List Call) → Why → Type 0
FoundSince f None new why = Unit {0}
FoundSince f (Some old) new why = (reads : List Call) × (new ≡ Some (reads ++ old)) × GaveBad f reads why

-- the same; of a directory that tells no calls none did
abbrev pub GaveWrong : Finding → Option (List Call) → Option (List Call) → Why → Type 0
GaveWrong f None new why = ⊥
GaveWrong f (Some old) new why = (reads : List Call) × (new ≡ Some (reads ++ old)) × GaveBad f reads why

-- whether the answer for a found block passes a test, by the verdict on it and by the payload that was found
abbrev pub answer_passes : (Verdict → List ℕ → Bool) → Finding → Id → Option Author → Option (List ℕ) → Bool
answer_passes test f id None answer = false
answer_passes test f id (Some author) answer = test (judged_as f id author answer) (payload_of f id)

-- whether a call gave a found block an answer that passes
abbrev pub passes : (Verdict → List ℕ → Bool) → Finding → List Call → Call → Bool
passes test f before (got config max answer) = false
passes test f before (got (block id) max answer) = answer_passes test f id (author_in f.rows id) answer
passes test f before (put name bytes ok) = false
passes test f before (removed name ok) = false

-- a file came for this block, by one call
abbrev pub Came : Finding → Option (List Call) → Option (List Call) → Id → Option (List ℕ) → Type 0
Came f old new id file = new ≡ adds old (got (block id) (f.size + 1) file)

-- of a found block: a payload or a reason by the verdict on what came; a fault or want of memory where nothing came
abbrev pub Fetched : Finding → Option (List Call) → Option (List Call) → Id → Author → Result (List ℕ) Fail → Type 0
Fetched f old new id author (Ok payload) = (file : Option (List ℕ)) × Came f old new id file × (judged_as f id author file ≡ good payload)
Fetched f old new id author (Err Memory) = new ≡ old
Fetched f old new id author (Err Fault) = new ≡ old
Fetched f old new id author (Err (Violation why)) = (file : Option (List ℕ)) × Came f old new id file × (judged_as f id author file ≡ bad why)

-- what a load answers: none where the block wasn't found, without a call; else by the verdict on what came
abbrev pub LoadAnswers : Finding → Option (List Call) → Option (List Call) → Id → Option Author → LoadAnswer → Type 0
LoadAnswers f old new id None (Ok None) = new ≡ old
LoadAnswers f old new id None (Ok (Some payload)) = ⊥
LoadAnswers f old new id None (Err e) = ⊥
LoadAnswers f old new id (Some author) (Ok None) = ⊥
LoadAnswers f old new id (Some author) (Ok (Some payload)) = Fetched f old new id author (Ok payload)
LoadAnswers f old new id (Some author) (Err e) = Fetched f old new id author (Err e)

-- a load leaves what was found, and answers by the verdict
pub record Loads (a b : Finding) (old new : Option (List Call)) (id : Id) (answer : LoadAnswer) : Type 0 where
  pub same : b ≡ a
  pub judged : LoadAnswers a old new id (author_in a.rows id) answer
