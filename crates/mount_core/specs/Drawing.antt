-- What a line takes of the stream of chance, for the batch that it applies and for the new ids in it: a before, b after.
use Rattle.std.specs.Prelude.{◌≡◌, ◌⊎◌, ℕ, true, List, is_some}
use Rattle.std.specs.FinMap.{get}
use Rattle.record_saver.specs.store_outcome.Meanings.{Meanings}
use Rattle.rand_core.specs.Stream.{Stream, fill_bytes}
use Rattle.record_saver.specs.Saving.{Wrote}
use Rattle.record_saver.specs.store_api.Content.{Id, Changes}
use Rattle.record_saver.specs.store_api.Draws.{IsLater}
use Rattle.record_saver.specs.store_api.Durables.{Durables}
use Rattle.record_saver.specs.store_api.Holdings.{Holdings, has_id}
use Rattle.record_saver.specs.store_api.Ids.{ComeOfSeed}

-- the changes' new ids come of this seed
abbrev pub NamesOfSeed : {S : Type 0} → Holdings S → List ℕ → S → Changes → Type 0
NamesOfSeed H seed s changes = (left : Stream) × ComeOfSeed seed left (H.used s) changes

-- they have no new id
abbrev pub NamesKnown : {S : Type 0} → Holdings S → S → Changes → Type 0
NamesKnown H s changes = (id : Id) → is_some (get changes id) ≡ true → has_id (H.used s) id ≡ true

-- Blocks were loaded, and then one batch was applied, whose ids are named so: what it drew is said of it, and nothing else was drawn.
pub record DrawsBatch {S : Type 0} (M : Meanings S) (named : S → Changes → Type 0) (applied : S → S → Changes → Type 0) (drawn : S → S → Changes → Stream → Stream → Type 0) (a b : S) (stream left : Stream) : Type 0 where
  pub last : S
  pub loaded : M.loaded a last
  pub changes : Changes
  pub names : named last changes
  pub makes : applied last b changes
  pub draws : drawn last b changes stream left

-- blocks were only loaded, and some fills were taken; or one batch was applied
abbrev pub DrawsOnce : {S : Type 0} → Meanings S → (S → Changes → Type 0) → (S → S → Changes → Type 0) → (S → S → Changes → Stream → Stream → Type 0) → S → S → Stream → Stream → Type 0
DrawsOnce M named applied drawn a b stream left = (M.loaded a b × IsLater stream left) ⊎ DrawsBatch M named applied drawn a b stream left

-- the same, but that a batch comes behind a fill of 32 bytes, which is the seed of its new ids
abbrev pub DrawsSeeded : {S : Type 0} → Meanings S → Holdings S → (S → S → Changes → Type 0) → (S → S → Changes → Stream → Stream → Type 0) → S → S → Stream → Stream → Type 0
DrawsSeeded M H applied drawn a b stream left =
    (M.loaded a b × IsLater stream left) ⊎ DrawsBatch M (NamesOfSeed H (fill_bytes 32 stream).0) applied drawn a b (fill_bytes 32 stream).1 left

-- A sync may have come first: it wrote what waited, or a front part of it, used no new id, and drew nothing.
pub record LineDraws {S : Type 0} (M : Meanings S) (H : Holdings S) (D : Durables S) (applied : S → S → Changes → Type 0) (drawn : S → S → Changes → Stream → Stream → Type 0) (a b : S) (stream left : Stream) : Type 0 where
  pub synced : S
  pub wrote : (synced ≡ a) ⊎ Wrote D a synced
  pub used : H.used synced ≡ H.used a
  pub once : DrawsSeeded M H applied drawn synced b stream left
