-- What a replacement of the configuration's file writes.
use Rattle.std.specs.Prelude.{◌≡◌, ◌⊎◌, ℕ, List}
use Rattle.mount_core.specs.Keeping.{HasConfigWaiting}
use Rattle.mount_core.specs.record_saver.Saving.{World, Wrote}

-- nothing waits anew and no call was made; or of a store that is this one, but that these bytes wait as the configuration's file, what waits was written up to a call that
-- failed, or all of it, or none
abbrev pub ReplaceWrites : {S : Type 0} → {K : Type 0} → World S K → S → List ℕ → S → Type 0
ReplaceWrites {S = S} W store bytes after =
    ((W.durables.list after ≡ W.durables.list store) × (W.durables.trace after ≡ W.durables.trace store))
    ⊎ ((waiting : S) × HasConfigWaiting W store bytes waiting × W.meanings.intact waiting × ((after ≡ waiting) ⊎ Wrote W.durables waiting after))
