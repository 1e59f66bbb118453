-- The outcome of a load.
use Rattle.std.specs.Prelude.{◌≡◌, ◌≤◌, ℕ, Bool, true, false, List, Vec, Result, is_some, if◌then◌else◌}
use Rattle.std.proofs.Common.{refl, sym, ap, subst}
use Rattle.std.specs.declared.alloc.Global.{Global}
use Rattle.std.specs.declared.option.Option.{Option}
use Rattle.std.specs.declared.option.Option.TheVariants.{None, Some}
use Rattle.std.specs.declared.result.Result.TheVariants.{Ok, Err}
use Rattle.std.specs.Option.{option_map_or}
use Rattle.block_id.specs.declared.fail.Fail.{Fail}
use Rattle.outside.specs.Trace.{Call}
use Rattle.outside.specs.Honest.{count_told}
use Rattle.outside.specs.View.{bytes_of}
use Rattle.store_api.specs.store_outcome.Meanings.{HasCause, UnlessFault}
use Rattle.store_api.specs.store_outcome.Outcome.{Outcome}
use Rattle.local_state.specs.declared.life.Life.{Life}
use Rattle.store_api.specs.Holdings.{Stays}
use Rattle.local_state.specs.Known.{version_if_live}
use Rattle.block_versions.specs.BlockRecords.{payload_in}
use Rattle.block_versions.specs.Held.{Held, live_version, wanted, where_live, file_of, told_or_none}
use Rattle.block_versions.specs.Soundness.{SoundBy}
use Rattle.block_versions.specs.Forgeries.{forged}
use Rattle.block_versions.specs.ReadLaws.{went_sound}
use Rattle.block_versions.specs.Loads.{Fetched}
use Rattle.block_versions.proofs.Fetches.{fetched_went, fetched_met, fetched_none_wrong, fetched_tells, fetched_of_blocks, fetched_value}
use Rattle.block_versions.specs.Stores.{OnlyRead, meanings_by, holdings_by}
use Rattle.block_versions.specs.StoreLaws.{settled_by}

module _ {S : Type 0} (held : S → Held) (trace : S → Option (List Call)) (faults : S → ℕ) (own : S → Type 0) (a b : S) (id : List ℕ) where
  pub only_read : (version : ℕ) (r : Result (List ℕ) Fail) → held b ≡ held a → faults a ≤ faults b → live_version (held a) id ≡ Some version
      → Fetched (held a) (trace a) (trace b) id version r → OnlyRead (held a) (held b) (trace a) (trace b) (faults a) (faults b)
  only_read version r same later live f = record { held = same; trace = fetched_went (held a) (trace a) (trace b) id version r live f; faults = later }

  pub still_sound : (version : ℕ) (r : Result (List ℕ) Fail) → held b ≡ held a → live_version (held a) id ≡ Some version
      → Fetched (held a) (trace a) (trace b) id version r → SoundBy (held a) (trace a) → SoundBy (held b) (trace b)
  still_sound version r same live f s =
      subst (λ h. SoundBy h (trace b)) (sym same) (went_sound (held a) (held a) (trace a) (trace b) (fetched_went (held a) (trace a) (trace b) id version r live f) s)

  pub stays : (version : ℕ) (r : Result (List ℕ) Fail) → held b ≡ held a → faults a ≤ faults b → live_version (held a) id ≡ Some version
      → Fetched (held a) (trace a) (trace b) id version r → Stays (holdings_by held trace) a b
  stays version r same later live f = settled_by held trace faults a b (only_read version r same later live f)

  pub loaded_ok : (version : ℕ) (payload : Vec ℕ Global) → (meanings_by held trace faults own).intact b → held b ≡ held a → faults a ≤ faults b → live_version (held a) id ≡ Some version
      → faults b ≡ faults a → Fetched (held a) (trace a) (trace b) id version (Ok payload.items)
      → Outcome (meanings_by held trace faults own) {T = Option (Vec ℕ Global)} Unit a b (Ok (Some payload)) (λ _ answer. bytes_of answer ≡ wanted (held a) (trace a) id)
  loaded_ok version payload intact same later live quiet f = record {
    intact = intact;
    loaded = only_read version (Ok payload.items) same later live f;
    sound = λ s few. still_sound version (Ok payload.items) same live f s;
    met = tt;
    fault = tt;
    quiet = quiet;
    noticed = fetched_none_wrong (held a) (trace a) (trace b) id version payload.items live f;
    value = λ n s few. fetched_value (held a) (trace a) (trace b) id version payload.items live f s
        (subst (λ h. count_told (forged h.opens h.size) (trace b) ≤ count_told (forged (held a).opens (held a).size) (trace a)) same few);
    structure = λ n s few. tt;
  }

  pub loaded_err : (version : ℕ) (e : Fail) → (meanings_by held trace faults own).intact b → held b ≡ held a → faults a ≤ faults b → live_version (held a) id ≡ Some version
      → HasCause e (faults a) (faults b) → UnlessFault e (faults b ≡ faults a) → Fetched (held a) (trace a) (trace b) id version (Err e)
      → Outcome (meanings_by held trace faults own) {T = Option (Vec ℕ Global)} Unit a b (Err e) (λ _ answer. bytes_of answer ≡ wanted (held a) (trace a) id)
  loaded_err version e intact same later live cause quiet f = record {
    intact = intact;
    loaded = only_read version (Err e) same later live f;
    sound = λ s few. still_sound version (Err e) same live f s;
    met = fetched_met (held a) (trace a) (trace b) id version e live f;
    fault = cause;
    quiet = quiet;
    noticed = fetched_tells (held a) (trace a) (trace b) id version e live f;
    value = λ n s few. tt;
    structure = λ n s few. fetched_of_blocks (held a) (trace a) (trace b) id version e f;
  }

  pub is_wanted : (version : ℕ) → live_version (held a) id ≡ Some version → is_some (wanted (held a) (trace a) id) ≡ true
  is_wanted version live = ap (λ v. is_some (where_live v (payload_in (held a).opens (held a).size id (file_of (held a) (told_or_none (trace a)) id)))) live

live_if : (live : Bool) (version : ℕ) (payload : List ℕ) → live ≡ is_some (where_live (if live then Some version else None) payload)
live_if true version payload = refl
live_if false version payload = refl

-- a block is in the content where it lives
pub live_wanted : (o : Option Life) (payload : List ℕ) → option_map_or (λ m. m.live) o false ≡ is_some (where_live (version_if_live o) payload)
live_wanted None payload = refl
live_wanted (Some life) payload = live_if life.live life.version payload
