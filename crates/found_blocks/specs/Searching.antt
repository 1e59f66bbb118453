-- What a search for blocks asked and found.
use Rattle.std.specs.Prelude.{◌≡◌, ◌⊎◌, ℕ, ◌+◌, Bool, true, false, List, [], ◌∷◌, ◌++◌, map, IfSome, Vec}
use Rattle.std.specs.declared.option.Option.{Option}
use Rattle.std.specs.declared.option.Option.TheVariants.{None, Some}
use Rattle.block_id.specs.declared.id.BlockId.{BlockId}
use Rattle.outside.specs.Trace.{config, block, Call, got, put, removed, adds}
use Rattle.store_api.specs.Content.{Id}
use Rattle.store_api.specs.Holdings.{has_id}
use Rattle.block_versions.specs.Reads.{Among}
use Rattle.block_versions.specs.Verdicts.{good}
use Rattle.block_id.specs.Fresh.{zero_id}
use Rattle.std.specs.declared.alloc.Global.{Global}
use Rattle.found_blocks.specs.declared.rows.FoundRow.{FoundRow}
use Rattle.found_blocks.specs.Rows.{Author, Authors, author_in, author_of}
use Rattle.found_blocks.specs.Finding.{Finding, judged_as, payload_of}

-- a block was asked for, with one byte more than a file has
pub record IsGet (size : ℕ) (call : Call) : Type 0 where
  pub id : Id
  pub answer : Option (List ℕ)
  pub is : call ≡ got (block id) (size + 1) answer

-- each of the calls did
abbrev pub AllGets : ℕ → List Call → Type 0
AllGets size [] = Unit {0}
AllGets size (call ∷ calls) = IsGet size call × AllGets size calls

-- the block that a call asked for
abbrev pub asked_by : Call → List Id
asked_by (got config max answer) = []
asked_by (got (block id) max answer) = id ∷ []
asked_by (put name bytes ok) = []
asked_by (removed name ok) = []

-- the blocks that calls asked for, the newest first
abbrev pub ids_asked : List Call → List Id
ids_asked [] = []
ids_asked (call ∷ calls) = asked_by call ++ ids_asked calls

-- none of these blocks stands among those before it, nor among the old ones
abbrev pub AreNew : List Id → List Id → Type 0
AreNew old [] = Unit {0}
AreNew old (id ∷ ids) = (has_id (ids ++ old) id ≡ false) × AreNew old ids

-- the trace after these calls, where it is told
abbrev pub after_calls : List Call → Option (List Call) → Option (List Call)
after_calls [] trace = trace
after_calls (call ∷ calls) trace = adds (after_calls calls trace) call

-- one of these calls gave a file that opens as this block's, by its author, to the payload that was noted
pub record IsFound (f : Finding) (calls : List Call) (id : Id) (author : Author) : Type 0 where
  pub file : List ℕ
  pub came : Among calls (got (block id) (f.size + 1) (Some file))
  pub opens : judged_as f id author (Some file) ≡ good (payload_of f id)

-- A search only asks for blocks, for each once. Each block that it found was found by one of its calls.
pub record Discovered (before after : Finding) (old new : Option (List Call)) : Type 0 where
  pub calls : List Call
  pub went : new ≡ after_calls calls old
  pub gets : AllGets before.size calls
  pub once : AreNew [] (ids_asked calls)
  pub size : after.size ≡ before.size
  pub opens : after.opens ≡ before.opens
  pub found : (id : Id) (author : Author) → author_in after.rows id ≡ Some author → IsFound after calls id author

-- ---- in the midst

-- the blocks that were asked for, and those that were found
pub record SearchState : Type 0 where
  pub asked : List Id
  pub rows : Authors

abbrev pub keys_in : List (BlockId × Unit {0}) → List Id
keys_in entries = map (λ e. e.0.0) entries

-- a block is noted as asked for, unless it was before
abbrev pub Noted : List Id → List Id → Id → Bool → Type 0
Noted old new id true = (has_id old id ≡ false) × ((other : Id) → has_id (id ∷ old) other ≡ true → has_id new other ≡ true)
Noted old new id false = new ≡ old

-- a block was asked for; where a row and a payload were found, what came is its file
pub record GotAny (f : Finding) (old new : Option (List Call)) (id : Id) (found : Option (FoundRow × Vec ℕ Global)) : Type 0 where
  pub answer : Option (List ℕ)
  pub came : new ≡ adds old (got (block id) (f.size + 1) answer)
  pub opens : IfSome found (λ x. (x.0.id.0 ≡ id) × (judged_as f id (author_of x.0) answer ≡ good x.1.items))

-- what was found so far
abbrev pub with_rows : Finding → Authors → Finding
with_rows f rows = record f { rows = rows }

-- The same of a part of a search, where these blocks were asked for before. Each block that is found then was found by these calls, or before them.
pub record Searched (before after : Finding) (asked now : List Id) (old new : Option (List Call)) : Type 0 where
  pub calls : List Call
  pub went : new ≡ after_calls calls old
  pub gets : AllGets before.size calls
  pub once : AreNew asked (ids_asked calls)
  pub noted : (id : Id) → has_id (ids_asked calls ++ asked) id ≡ true → has_id now id ≡ true
  pub size : after.size ≡ before.size
  pub opens : after.opens ≡ before.opens
  pub found : (id : Id) (author : Author) → author_in after.rows id ≡ Some author
      → IsFound after calls id author ⊎ ((author_in before.rows id ≡ Some author) × (payload_of after id ≡ payload_of before id))
  pub no_zero : author_in before.rows zero_id ≡ None → author_in after.rows zero_id ≡ None

-- the same of a part of a search by a store
abbrev pub SearchedBy : Finding → Finding → SearchState → SearchState → Option (List Call) → Option (List Call) → Type 0
SearchedBy before after s t old new = Searched (with_rows before s.rows) (with_rows after t.rows) s.asked t.asked old new
