-- What a store of found blocks means and holds, by what was found and by the calls on its directory.
use Rattle.std.specs.Prelude.{◌≡◌, ◌≤◌, ℕ, ◌-◌, true, false, List, is_some}
use Rattle.std.specs.declared.option.Option.{Option}
use Rattle.outside.specs.Trace.{Call}
use Rattle.outside.specs.Honest.{count_told}
use Rattle.store_api.specs.store_outcome.Meanings.{Meanings}
use Rattle.store_api.specs.Holdings.{Holdings}
use Rattle.store_api.specs.Loads.{LoadAnswer}
use Rattle.found_blocks.specs.Rows.{ids_in}
use Rattle.found_blocks.specs.Finding.{Finding, IsKept, content_of, is_other, is_twin}
use Rattle.found_blocks.specs.Reads.{FoundSince, GaveWrong, Loads, WentOnByReads, passes}

-- only reads of found blocks were made, and all else is the same
pub record OnlyRead (a b : Finding) (old new : Option (List Call)) (was now : ℕ) : Type 0 where
  pub same : b ≡ a
  pub trace : WentOnByReads a old new
  pub faults : was ≤ now

-- Sound is a directory that tells its calls. A forgery is a twin: a file that opens to the client and the version of a found block, with another payload
-- than was found. A lie is a twin or a file that isn't taken: not what was found.
abbrev pub meanings_by : {S : Type 0} → (S → Finding) → (S → Option (List Call)) → (S → ℕ) → (S → Type 0) → Meanings S
meanings_by found trace faults own = record {
  intact = λ s. IsKept (found s) × own s;
  sound = λ s. is_some (trace s) ≡ true;
  forgeries = λ s. count_told (passes is_twin (found s)) (trace s);
  lies = λ s. count_told (passes is_other (found s)) (trace s);
  faults = faults;
  loaded = λ a b. OnlyRead (found a) (found b) (trace a) (trace b) (faults a) (faults b);
  met = λ a b. FoundSince (found a) (trace a) (trace b);
  gave = λ a b. GaveWrong (found a) (trace a) (trace b);
}

-- the found blocks; none can get another payload
abbrev pub holdings_by : {S : Type 0} → (S → Finding) → Holdings S
holdings_by found = record {
  content = λ s. content_of (found s);
  told = λ s. true;
  used = λ s. ids_in (found s).rows;
  spent = λ s id. false;
  version = λ s id. 0;
  payload = λ s. (found s).size - 78;
}

abbrev pub loads_by : {S : Type 0} → (S → Finding) → (S → Option (List Call)) → S → S → List ℕ → LoadAnswer → Type 0
loads_by found trace a b id answer = Loads (found a) (found b) (trace a) (trace b) id answer
