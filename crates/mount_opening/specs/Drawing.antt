-- What a making draws and writes: of the store at first, and of what was kept, it leaves a store and what is kept.
use Rattle.std.specs.Prelude.{◌≡◌, ◌⊎◌, ℕ, List}
use Rattle.std.specs.FinMap as fin
use Rattle.std.specs.declared.option.Option.{Option}
use Rattle.std.specs.declared.option.Option.TheVariants.{Some}
use Rattle.mount_core.specs.record_saver.Saving.{World, Wrote}
use Rattle.mount_core.specs.Keeping.{IsSameOrRecord}
use Rattle.mount_core.specs.store_api.Content.{Id, Changes}
use Rattle.mount_core.specs.store_api.Lists.{with_config}
use Rattle.rand_core.specs.Stream.{Stream}

-- no batch was applied: from a store of the same calls and ids on blocks were only loaded, and nothing is kept anew
pub record MakesNone {S : Type 0} {K : Type 0} (W : World S K) (before after : S) (was kept : Option (List ℕ)) : Type 0 where
  pub from : S
  pub trace : W.durables.trace from ≡ W.durables.trace before
  pub used : W.holdings.used from ≡ W.holdings.used before
  pub loaded : W.meanings.loaded from after
  pub same : kept ≡ was

-- The configuration's bytes waited, and a batch put the root's block alone: what it drew is said of it, and nothing else was drawn. Then what waited was written up to a call
-- that failed, or all of it, or none; and what is kept is what was, or a record of the store with its list or with an empty one.
pub record MakesRoot {S : Type 0} {K : Type 0} (W : World S K) (applied : S → S → Changes → Type 0) (drawn : S → S → Changes → Stream → Stream → Type 0) (before after : S) (config : List ℕ) (root : Id) (was kept : Option (List ℕ)) (stream left : Stream) : Type 0 where
  pub waiting : S
  pub used : W.holdings.used waiting ≡ W.holdings.used before
  pub list : W.durables.list waiting ≡ with_config config (W.durables.list before)
  pub trace : W.durables.trace waiting ≡ W.durables.trace before
  pub payload : List ℕ
  pub changes : Changes
  pub one : changes ≡ fin.insert fin.empty root (Some payload)
  pub filled : S
  pub intact : W.meanings.intact filled
  pub makes : applied waiting filled changes
  pub draws : drawn waiting filled changes stream left
  pub wrote : (after ≡ filled) ⊎ Wrote W.durables filled after
  pub keeps : IsSameOrRecord W.durables filled was kept

-- the one or the other
abbrev pub MakesDrawn : {S : Type 0} → {K : Type 0} → World S K → (S → S → Changes → Type 0) → (S → S → Changes → Stream → Stream → Type 0) → S → K → List ℕ → Id → S → K → Stream → Stream → Type 0
MakesDrawn W applied drawn before old config root after keeper stream left =
    MakesNone W before after (W.keeper.kept old) (W.keeper.kept keeper)
    ⊎ MakesRoot W applied drawn before after config root (W.keeper.kept old) (W.keeper.kept keeper) stream left
