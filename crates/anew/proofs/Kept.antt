-- What the record of a new client stands for.
use Rattle.std.proofs.Common.{◌≡◌, ℕ, List, [], true, false, take, refl, sym, ◌∙◌, ap, subst}
use Rattle.std.specs.declared.option.Option.{Option}
use Rattle.std.specs.declared.option.Option.TheVariants.{None, Some}
use Rattle.block_id.specs.Formats.{magic}
use Rattle.outside.specs.Trace.{Call, adds, config, put}
use Rattle.integrity_store.specs.sealed_store.BlockFiles.{OpensAlike}
use Rattle.integrity_store.specs.block_versions.Held.{Held, wanted}
use Rattle.integrity_store.specs.block_versions.Soundness.{SoundBy}
use Rattle.integrity_store.specs.block_versions.Standing.{Stands, identity_of}
use Rattle.integrity_store.specs.block_versions.local_state.Record.{HasRecord, IsRecord, record_bytes}
use Rattle.integrity_store.specs.block_versions.local_state.declared.state.Form.TheVariants.{Newer}
use Rattle.std.specs.FinMap as fin
use Rattle.anew.specs.Begun.{BegunAnew, HasNewClient, IsBegun}
use Rattle.anew.proofs.Sound.{sound_anew}
use Rattle.anew.proofs.Steps.{begun_first}

-- the record that is written
pub its_record : (h : Held) → HasRecord h.state h.list → IsRecord h.state h.list (record_bytes h.state h.list)
its_record h has = record { has = has; form = Newer; allows = tt; is = refl }

pub sound_by : (h : Held) (file : List ℕ) (before now : Option (List Call)) → OpensAlike h.opens → (take 14 file ≡ magic → ⊥) → HasNewClient h before → IsBegun h file before now → SoundBy h now
sound_by h file None now alike no_block client begun = absurd client
sound_by h file (Some before) now alike no_block client begun = subst (SoundBy h) (sym begun.1) (sound_anew h file before begun.0 alike no_block client begun.2)

pub stands_anew : (h : Held) (file : List ℕ) (before now : Option (List Call)) → OpensAlike h.opens → (take 14 file ≡ magic → ⊥) → HasRecord h.state h.list → h.state.marked ≡ false
    → HasNewClient h before → IsBegun h file before now → Stands (identity_of h) (record_bytes h.state h.list) now (wanted h now)
stands_anew h file before now alike no_block has unmarked client begun =
    record { held = h; same = refl; unmarked = unmarked; is_record = its_record h has; sound = sound_by h file before now alike no_block client begun; wants = λ id. refl }

-- the first call was that of the configuration
pub begun_config : (h : Held) (file : List ℕ) (before now : Option (List Call)) → h.list ≡ [] → h.state.lives ≡ fin.empty → now ≡ adds before (put config file true) → IsBegun h file before now
begun_config h file None now none new is = tt
begun_config h file (Some before) now none new is = (_, is, begun_first h file before none new)
