-- Found blocks, each written anew with the payload that it was found with.
use Rattle.std.specs.Prelude.{◌≡◌, ◌⊎◌, ◌≤◌, ◌+◌, ℕ, Bool, true, false, List, [], ◌∷◌, ◌++◌, is_some}
use Rattle.std.specs.FinMap as fin
use Rattle.std.specs.declared.option.Option.{Option}
use Rattle.std.specs.declared.option.Option.TheVariants.{None, Some}
use Rattle.std.specs.declared.result.Result.TheVariants.{Ok}
use Rattle.rand_core.specs.Stream.{Stream, fill_bytes}
use Rattle.outside.specs.Honest.{count_told, last_change}
use Rattle.outside.specs.Trace.{Call, block, got, put}
use Rattle.anew.specs.Begun.{IsBegun, first_life}
use Rattle.anew.specs.Writing.{Renews}
use Rattle.found_blocks.specs.Finding.{Finding, is_twin, judged_as, payload_of}
use Rattle.found_blocks.specs.Reads.{IsRead, Loads, passes}
use Rattle.found_blocks.specs.Rows.{Author, author_in}
use Rattle.found_blocks.specs.block_versions.BlockRecords.{opened}
use Rattle.found_blocks.specs.block_versions.Held.{Held, own}
use Rattle.found_blocks.specs.block_versions.Reads.{Among}
use Rattle.found_blocks.specs.block_versions.Verdicts.{good}
use Rattle.found_blocks.specs.store_api.Content.{Id}
use Rattle.found_blocks.specs.store_api.Holdings.{has_id}

-- ---- one block

-- one get gave the block's file as it was found, and then its payload was written anew
pub record RenewsFound (f : Finding) (a b : Held) (id : Id) (old new : Option (List Call)) (stream left : Stream) : Type 0 where
  pub payload : List ℕ
  pub mid : Option (List Call)
  pub loads : Loads f f old mid id (Ok (Some payload))
  pub renews : Renews a b id payload (fill_bytes 16 stream).0 mid new
  pub draws : left ≡ (fill_bytes 16 stream).1

-- a block that is known was written anew before, and is left
pub record Rests (a b : Held) (old new : Option (List Call)) (stream left : Stream) : Type 0 where
  pub same : b ≡ a
  pub uncalled : new ≡ old
  pub undrawn : left ≡ stream

abbrev pub RenewsOnce : Bool → Finding → Held → Held → Id → Option (List Call) → Option (List Call) → Stream → Stream → Type 0
RenewsOnce true f a b id old new stream left = Rests a b old new stream left
RenewsOnce false f a b id old new stream left = RenewsFound f a b id old new stream left

-- ---- all of them

-- the block's last change is its record at version 1, of a payload that a call gave for it as it was found
pub record IsCopied (f : Finding) (h : Held) (id : Id) (calls : List Call) : Type 0 where
  pub author : Author
  pub found : author_in f.rows id ≡ Some author
  pub file : Option (List ℕ)
  pub payload : List ℕ
  pub came : Among calls (got (block id) (f.size + 1) file)
  pub judged : judged_as f id author file ≡ good payload
  pub bytes : List ℕ
  pub last : last_change (block id) calls ≡ Some (record { bytes = Some bytes; ok = true })
  pub opens : opened h.opens h.size id bytes ≡ Some (own h id 1 payload)

-- so is each known block, by calls that are told
abbrev pub AreCopied : Finding → Held → Option (List Call) → Type 0
AreCopied f h None = Unit {0}
AreCopied f h (Some calls) = (id : Id) → is_some (fin.get h.state.lives id) ≡ true → IsCopied f h id calls

-- the block's last change is its record at version 1, of the payload that was found
pub record IsFaithful (f : Finding) (h : Held) (id : Id) (calls : List Call) : Type 0 where
  pub bytes : List ℕ
  pub last : last_change (block id) calls ≡ Some (record { bytes = Some bytes; ok = true })
  pub opens : opened h.opens h.size id bytes ≡ Some (own h id 1 (payload_of f id))

-- so is each known block, by calls that are told
abbrev pub AreFaithful : Finding → Held → Option (List Call) → Type 0
AreFaithful f h None = Unit {0}
AreFaithful f h (Some calls) = (id : Id) → is_some (fin.get h.state.lives id) ≡ true → IsFaithful f h id calls

-- how many files came that open to the client and the version of a found block, with another payload than was found
abbrev pub twins : Finding → Option (List Call) → ℕ
twins f calls = count_told (passes is_twin f) calls

-- These blocks were written anew, and nothing waits: the state knows just them.
pub record RenewsAll (f : Finding) (a b : Held) (ids : List Id) (old new : Option (List Call)) : Type 0 where
  pub beside : b ≡ record a { list = []; state = record a.state { lives = b.state.lives } }
  pub known : (id : Id) → has_id ids id ≡ true → fin.get b.state.lives id ≡ Some first_life
  pub only : (id : Id) → is_some (fin.get b.state.lives id) ≡ true → has_id ids id ≡ true
  pub copied : AreCopied f b new
  -- where no twin came meanwhile, with the payloads that were found
  pub faithful : twins f new ≤ twins f old → AreFaithful f b new
  pub begun : (file : List ℕ) (before : Option (List Call)) → a.state.least ≡ 2 → IsBegun a file before old → IsBegun b file before new

-- ---- how the calls go on, whatever is answered

-- a file was put under a found block's name
pub record PutsFound (f : Finding) (call : Call) : Type 0 where
  pub id : Id
  pub author : Author
  pub bytes : List ℕ
  pub ok : Bool
  pub found : author_in f.rows id ≡ Some author
  pub is : call ≡ put (block id) bytes ok

-- each of the calls asked for a found block or put one
abbrev pub AllRenewing : Finding → List Call → Type 0
AllRenewing f [] = Unit {0}
AllRenewing f (call ∷ calls) = (IsRead f call ⊎ PutsFound f call) × AllRenewing f calls

-- the trace went on by such calls alone
abbrev pub WentOnRenewing : Finding → Option (List Call) → Option (List Call) → Type 0
WentOnRenewing f None new = new ≡ None
WentOnRenewing f (Some old) new = (calls : List Call) × (new ≡ Some (calls ++ old)) × AllRenewing f calls
