-- The files of a batch, sealed one after another.
use Rattle.std.specs.Prelude.{◌≡◌, ℕ, ◌+◌, false, List, [], ◌∷◌, length}
use Rattle.std.specs.FinMap as fin
use Rattle.std.specs.declared.option.Option.{Option}
use Rattle.std.specs.declared.option.Option.TheVariants.{None, Some}
use Rattle.rand_core.specs.Stream.{Stream, fill_bytes}
use Rattle.outside.specs.Trace.{At, block}
use Rattle.outside.specs.Changes.{set_changes}
use Rattle.block_versions.specs.local_state.declared.life.Life.{Life}
use Rattle.store_api.specs.Content.{Id}
use Rattle.block_versions.specs.local_state.Known.{is_last}
use Rattle.integrity_store.specs.Applied.{IsRaised}
use Rattle.integrity_store.specs.Draws.{iv_in}
use Rattle.block_versions.specs.Held.{Held}
use Rattle.integrity_store.specs.Raising.{BatchEntry}

-- ---- one entry

-- a payload has its length, and the version of its id can rise
pub record MaySealAt (h : Held) (payload : List ℕ) (life : Option Life) : Type 0 where
  pub sized : length payload + 78 ≡ h.size
  pub not_last : is_last life ≡ false

abbrev pub MaySeal : Held → BatchEntry → Type 0
MaySeal h (id, Some payload) = MaySealAt h payload (fin.get h.state.lives id)
MaySeal h (id, None) = Unit {0}

-- the IV of a file that is made next
abbrev pub drawn_iv : Stream → List ℕ
drawn_iv stream = (fill_bytes 16 stream).0

-- the file of an id's record at its next version, with the IV that is drawn
pub record IsFileFor (h : Held) (id payload : List ℕ) (stream : Stream) (file : List ℕ) : Type 0 where
  pub opens : IsRaised h h id payload file
  pub iv : iv_in file ≡ drawn_iv stream

-- what waits for an entry: the file of its payload, or its removal
abbrev pub IsMadeOf : Held → Id → Option (List ℕ) → Stream → Option (List ℕ) → Type 0
IsMadeOf h id (Some payload) stream change = (file : List ℕ) × (change ≡ Some file) × IsFileFor h id payload stream file
IsMadeOf h id None stream change = change ≡ None

-- a payload takes one draw
abbrev pub stream_after : Option (List ℕ) → Stream → Stream
stream_after (Some payload) stream = (fill_bytes 16 stream).1
stream_after None stream = stream

-- ---- all entries, in order

abbrev pub AreMadeOf : Held → List BatchEntry → Stream → List (At × Option (List ℕ)) → Stream → Type 0
AreMadeOf h [] stream [] left = left ≡ stream
AreMadeOf h [] stream (change ∷ changes) left = ⊥
AreMadeOf h (e ∷ es) stream [] left = ⊥
AreMadeOf h (e ∷ es) stream (change ∷ changes) left =
    (change.0 ≡ block e.0) × IsMadeOf h e.0 e.1 stream change.1 × AreMadeOf h es (stream_after e.1 stream) changes left

-- what was made of the entries waits, and all else is the same
pub record IsListed (a b : Held) (es : List BatchEntry) (stream left : Stream) : Type 0 where
  pub changes : List (At × Option (List ℕ))
  pub made : AreMadeOf a es stream changes left
  pub held : b ≡ record a { list = set_changes changes a.list }
