-- What was found of a directory's blocks, and the content that it calls for.
use Rattle.std.specs.Prelude.{◌≡◌, ◌≤◌, ℕ, ◌-◌, Bool, true, false, not, List, [], map, length}
use Rattle.std.specs.Str.{bytes_eq}
use Rattle.std.specs.FinMap.{find}
use Rattle.std.specs.declared.option.Option.{Option}
use Rattle.std.specs.declared.option.Option.TheVariants.{None, Some}
use Rattle.block_id.specs.Fresh.{zero_id}
use Rattle.block_id.specs.declared.sizes.TheConstants.{MIN_BLOCK, MAX_BLOCK}
use Rattle.call_log.specs.Events.{Event}
use Rattle.store_api.specs.Content.{Id, Content, id_cmp}
use Rattle.block_versions.specs.Verdicts.{Verdict, good, bad, verdict}
use Rattle.found_blocks.specs.Rows.{Author, Authors, author_in}

-- ids, each with a payload; the newest stands first
abbrev pub Given : Type 0
Given = List (Id × List ℕ)

-- what a log of payloads holds
abbrev pub given_of : List Event → Given
given_of events = map (λ e. (e.3, e.4)) events

-- the size of a block, what a sealed text opens to with some extra bytes, the found blocks, and the payload that was given for each
pub record Finding : Type 0 where
  pub size : ℕ
  pub opens : List ℕ → List ℕ → Option (List ℕ)
  pub rows : Authors
  pub given : Given

-- the payload that was given for a block as it was found
abbrev pub payload_or_none : Option (List ℕ) → List ℕ
payload_or_none None = []
payload_or_none (Some payload) = payload

abbrev pub payload_of : Finding → Id → List ℕ
payload_of f id = payload_or_none (find id_cmp id f.given)

-- the payload, where there is an author
abbrev pub where_found : Option Author → List ℕ → Option (List ℕ)
where_found None payload = None
where_found (Some author) payload = Some payload

-- each found block with the payload that was given for it as it was found
abbrev pub content_of : Finding → Content
content_of f id = where_found (author_in f.rows id) (payload_of f id)

-- the verdict on a file for a block, by the client and the version that it was found with; files of each format are taken
abbrev pub judged_as : Finding → Id → Author → Option (List ℕ) → Verdict
judged_as f id author file = verdict f.opens f.size id author.0 author.1 1 file

-- a file is that of a found block with this payload
abbrev pub GivesFound : Finding → Id → Author → List ℕ → Option (List ℕ) → Type 0
GivesFound f id author payload file = judged_as f id author file ≡ good payload

-- a file that is taken, and whose payload isn't the one that was found
abbrev pub is_twin : Verdict → List ℕ → Bool
is_twin (good payload) found = not (bytes_eq payload found)
is_twin (bad why) found = false

-- a file that isn't taken, or whose payload isn't the one that was found
abbrev pub is_other : Verdict → List ℕ → Bool
is_other (good payload) found = not (bytes_eq payload found)
is_other (bad why) found = true

-- a block size within its limits; each found block has a payload of its length, and none has the zero id
pub record IsKept (f : Finding) : Type 0 where
  pub least : MIN_BLOCK ≤ f.size
  pub most : f.size ≤ MAX_BLOCK
  pub sized : (id : Id) (author : Author) → author_in f.rows id ≡ Some author → length (payload_of f id) ≡ f.size - 78
  pub no_zero : author_in f.rows zero_id ≡ None
