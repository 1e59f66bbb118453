-- Where the ids of new blocks come from: the generator of a seed, which draws 16 bytes for each.
use Rattle.std.specs.Prelude.{◌≡◌, true, false, ℕ, List, [], ◌∷◌, ◌++◌, is_some}
use Rattle.std.specs.FinMap.{get}
use Rattle.rand_chacha.specs.ChaCha.{ChaCha, next_word, of_seed}
use Rattle.rand_core.specs.Steps.{stream_of, steps_u32}
use Rattle.rand_core.specs.Stream.{Stream, fill_bytes}
use Rattle.store_api.specs.Content.{Id, Changes}
use Rattle.store_api.specs.Draws.{IsLater}
use Rattle.store_api.specs.Holdings.{has_id, is_free}
use Rattle.store_api.specs.Passing.{PassedOver}

-- what the generator ChaCha20 answers from here on
abbrev pub stream_left : ChaCha → Stream
stream_left c = stream_of (steps_u32 (next_word 10)) c

-- what that of a seed of 32 bytes answers
abbrev pub chacha20 : List ℕ → Stream
chacha20 seed = stream_left (of_seed seed)

-- Each of these ids, the newest first, is the next free one from a fill of 16 bytes on, fill behind fill: passed over are only ids that are zero, used, or
-- among the older ones. Other fills may lie before the first.
abbrev pub AreIdsOf : List Id → List Id → Stream → Stream → Type 0
AreIdsOf used [] stream left = IsLater stream left
AreIdsOf used (id ∷ older) stream left =
    (before : Stream) × AreIdsOf used older stream before × PassedOver (is_free (older ++ used)) (fill_bytes 16 before).0 id × (left ≡ (fill_bytes 16 before).1)

-- each id that the changes have and that wasn't used was drawn by the generator of this seed, which left this
pub record ComeOfSeed (seed : List ℕ) (left : Stream) (used : List Id) (changes : Changes) : Type 0 where
  pub drawn : List Id
  pub come : AreIdsOf used drawn (chacha20 seed) left
  pub all : (id : Id) → is_some (get changes id) ≡ true → has_id used id ≡ false → has_id drawn id ≡ true

-- a seed, and what its generator answers from here on
pub record Drawn : Type 0 where
  pub seed : List ℕ
  pub left : Stream
