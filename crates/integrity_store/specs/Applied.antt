-- What a batch of changes makes of a store's state and of what waits.
use Rattle.std.specs.Prelude.{◌≡◌, ℕ, true, false, List}
use Rattle.std.specs.FinMap as fin
use Rattle.std.specs.Option.{option_map}
use Rattle.std.specs.declared.option.Option.{Option}
use Rattle.std.specs.declared.option.Option.TheVariants.{None, Some}
use Rattle.outside.specs.Trace.{Call, config}
use Rattle.outside.specs.Changes.{change_at}
use Rattle.block_versions.specs.local_state.declared.life.Life.{Life}
use Rattle.block_versions.specs.local_state.Known.{raised_version}
use Rattle.store_api.specs.Content.{Changes}
use Rattle.block_id.specs.declared.format.Format.TheVariants.{WithId}
use Rattle.block_id.specs.Formats.{format_in}
use Rattle.block_versions.specs.BlockRecords.{opened}
use Rattle.block_versions.specs.Held.{Held, waiting, own}

-- the life of an id after a batch that says nothing of it, gives it a payload, or removes it
abbrev pub life_after : Option (Option (List ℕ)) → Option Life → Option Life
life_after None life = life
life_after (Some (Some payload)) life = Some (record { version = raised_version life; live = true })
life_after (Some None) life = option_map (λ m. record { version = m.version; live = false }) life

-- a file of this id's record, at the version that follows the one in a, in the newest format
pub record IsRaised (a b : Held) (id payload file : List ℕ) : Type 0 where
  pub opens : opened b.opens b.size id file ≡ Some (own b id (raised_version (fin.get a.state.lives id)) payload)
  pub format : format_in file ≡ Some WithId

-- what waits for an id after a batch that says nothing of it, gives it a payload, or removes it
abbrev pub WaitsAfter : Held → Held → List ℕ → Option (Option (List ℕ)) → Type 0
WaitsAfter a b id None = waiting b id ≡ waiting a id
WaitsAfter a b id (Some (Some payload)) = (file : List ℕ) × (waiting b id ≡ Some (Some file)) × IsRaised a b id payload file
WaitsAfter a b id (Some None) = waiting b id ≡ Some None

-- a batch took the first to the second, and no call was made
pub record Applied (a b : Held) (old new : Option (List Call)) (changes : Changes) : Type 0 where
  pub trace : new ≡ old
  pub size : b.size ≡ a.size
  pub opens : b.opens ≡ a.opens
  pub state : b.state ≡ record a.state { lives = b.state.lives }
  pub lives : (id : List ℕ) → fin.get b.state.lives id ≡ life_after (fin.get changes id) (fin.get a.state.lives id)
  pub waits : (id : List ℕ) → WaitsAfter a b id (fin.get changes id)
  pub config : change_at config b.list ≡ change_at config a.list

abbrev pub applied_by : {S : Type 0} → (S → Held) → (S → Option (List Call)) → S → S → Changes → Type 0
applied_by held trace a b changes = Applied (held a) (held b) (trace a) (trace b) changes
