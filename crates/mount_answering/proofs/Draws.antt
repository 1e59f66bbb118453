-- What a line draws, from what its steps do.
use Rattle.std.proofs.Common.{◌≡◌, ◌⊎◌, ℕ, List, ap, subst, inl, inr}
use Rattle.mount_core.specs.store_outcome.Meanings.{Meanings, Lawful}
use Rattle.rand_core.specs.Stream.{Stream, fill_bytes}
use Rattle.mount_core.specs.record_saver.Saving.{Wrote}
use Rattle.mount_core.specs.store_api.Content.{Changes}
use Rattle.mount_core.specs.store_api.Durables.{Durables}
use Rattle.mount_core.specs.store_api.Holdings.{Holdings}
use Rattle.mount_core.proofs.store_api_lemmas.Draws.{later_same, later_chained, later_filled}
use Rattle.mount_core.specs.Drawing.{DrawsBatch, DrawsOnce, DrawsSeeded, LineDraws, NamesOfSeed}

module _ {S : Type 0} (M : Meanings S) (H : Holdings S) (D : Durables S) (lawful : Lawful M) (applied : S → S → Changes → Type 0) (drawn : S → S → Changes → Stream → Stream → Type 0) where
  -- blocks were loaded before it
  pub draws_on : (named : S → Changes → Type 0) (a m b : S) (stream left : Stream) → M.loaded a m → DrawsOnce M named applied drawn m b stream left → DrawsOnce M named applied drawn a b stream left
  draws_on named a m b stream left loaded (inl none) = inl (lawful.onward a m b loaded none.0, none.1)
  draws_on named a m b stream left loaded (inr batch) =
      inr (record { last = batch.last; loaded = lawful.onward a m batch.last loaded batch.loaded; changes = batch.changes; names = batch.names; makes = batch.makes; draws = batch.draws })

  -- a seed was drawn before it, by what a fill's contract says
  pub draws_seeded : (a b : S) (seed : List ℕ) (stream between left : Stream) → (seed, between) ≡ fill_bytes 32 stream → DrawsOnce M (NamesOfSeed H seed) applied drawn a b between left
      → DrawsSeeded M H applied drawn a b stream left
  draws_seeded a b seed stream between left filled (inl none) = inl (none.0, later_chained stream between left (later_filled 32 seed stream between filled) none.1)
  draws_seeded a b seed stream between left filled (inr batch) = inr (subst (λ (x : List ℕ × Stream). DrawsBatch M (NamesOfSeed H x.0) applied drawn a b x.1 left) filled batch)

  -- a sync alone, or nothing
  pub line_synced : (a b : S) (stream : Stream) → (b ≡ a) ⊎ Wrote D a b → H.used b ≡ H.used a → LineDraws M H D applied drawn a b stream stream
  line_synced a b stream wrote used = record { synced = b; wrote = wrote; used = used; once = inl (lawful.same b, later_same stream) }
