-- From which format on the record that is kept has a store take block files.
use Rattle.std.specs.Prelude.{◌≡◌, ◌⊎◌, ℕ, List}
use Rattle.std.specs.declared.option.Option.{Option}
use Rattle.record_saver.specs.store_api.Durables.{Durables, Records}
use Rattle.record_saver.specs.Saving.{World, IsRecordOf}
use Rattle.mount_core.specs.Standing.{IsKeptMarked}

-- what is kept is marked, or a record of a store with this least format
abbrev pub KeepsLeast : {S : Type 0} → Durables S → Records → ℕ → Option (List ℕ) → Type 0
KeepsLeast {S = S} D R least kept = IsKeptMarked R kept ⊎ ((store : S) × (D.least store ≡ least) × IsRecordOf D store kept)

-- what is kept at first has this store's least format, and so what is kept at last
abbrev pub StaysLeast : {S : Type 0} → {K : Type 0} → World S K → S → Option (List ℕ) → Option (List ℕ) → Type 0
StaysLeast W store first last = KeepsLeast W.durables W.records (W.durables.least store) first → KeepsLeast W.durables W.records (W.durables.least store) last
