-- What a store of blocks means, by what it holds and by the calls on its directory.
use Rattle.std.specs.Prelude.{◌≡◌, ◌≤◌, ℕ, ◌-◌, List, take, is_some}
use Rattle.std.specs.declared.option.Option.{Option}
use Rattle.std.specs.declared.option.Option.TheVariants.{None, Some}
use Rattle.std.specs.FinMap as fin
use Rattle.block_id.specs.declared.sizes.TheConstants.{MIN_BLOCK, MAX_BLOCK}
use Rattle.outside.specs.Trace.{config, Call}
use Rattle.outside.specs.Changes.{change_at}
use Rattle.outside.specs.Honest.{is_lie, count_told}
use Rattle.store_api.specs.store_outcome.Meanings.{Meanings}
use Rattle.local_state.specs.declared.life.Life.{Life}
use Rattle.local_state.specs.Known.{is_last}
use Rattle.local_state.specs.Record.{HasRecord}
use Rattle.store_api.specs.Holdings.{Holdings}
use Rattle.sealed_store.specs.BlockFiles.{OpensAlike}
use Rattle.block_id.specs.Formats.{magic}
use Rattle.block_versions.specs.Forgeries.{forged}
use Rattle.block_versions.specs.Held.{Held, wanted}
use Rattle.block_versions.specs.Reads.{FoundSince, GaveWrong, WentOnByReads}
use Rattle.block_versions.specs.Soundness.{SoundBy}

-- bytes that wait as the configuration don't begin as a block's file does
abbrev pub IsNoBlock : Option (Option (List ℕ)) → Type 0
IsNoBlock None = Unit {0}
IsNoBlock (Some None) = Unit {0}
IsNoBlock (Some (Some bytes)) = take 14 bytes ≡ magic → ⊥

-- a block size within its limits, a state and a list that have a record, and no block's file that waits as the configuration
pub record IsWhole (h : Held) : Type 0 where
  pub least : MIN_BLOCK ≤ h.size
  pub most : h.size ≤ MAX_BLOCK
  pub has_record : HasRecord h.state h.list
  pub config : IsNoBlock (change_at config h.list)
  -- whatever extra bytes a sealed text opens with, it opens to one plaintext
  pub alike : OpensAlike h.opens

-- only reads of live blocks were made, and all else is the same
pub record OnlyRead (a b : Held) (old new : Option (List Call)) (was now : ℕ) : Type 0 where
  pub held : b ≡ a
  pub trace : WentOnByReads a old new
  pub faults : was ≤ now

-- the known version, and 0 of an id that isn't used
abbrev pub version_in : Option Life → ℕ
version_in None = 0
version_in (Some life) = life.version

-- what a store means, by the views of what it holds, of its trace and of its faults
abbrev pub meanings_by : {S : Type 0} → (S → Held) → (S → Option (List Call)) → (S → ℕ) → (S → Type 0) → Meanings S
meanings_by held trace faults own = record {
  intact = λ s. IsWhole (held s) × own s;
  sound = λ s. SoundBy (held s) (trace s);
  forgeries = λ s. count_told (forged (held s).opens (held s).size) (trace s);
  lies = λ s. count_told is_lie (trace s);
  faults = faults;
  loaded = λ a b. OnlyRead (held a) (held b) (trace a) (trace b) (faults a) (faults b);
  met = λ a b. FoundSince (held a) (trace a) (trace b);
  gave = λ a b. GaveWrong (held a) (trace a) (trace b);
}

-- what a store of blocks holds, by the same views
abbrev pub holdings_by : {S : Type 0} → (S → Held) → (S → Option (List Call)) → Holdings S
holdings_by held trace = record {
  content = λ s. wanted (held s) (trace s);
  told = λ s. is_some (trace s);
  used = λ s. fin.keys (held s).state.lives;
  spent = λ s id. is_last (fin.get (held s).state.lives id);
  version = λ s id. version_in (fin.get (held s).state.lives id);
  payload = λ s. (held s).size - 78;
}
