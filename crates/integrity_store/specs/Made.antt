-- What a store means that was just made of sealed files and of what a client knows of them.
use Rattle.std.specs.Prelude.{◌≡◌, ℕ, ◌-◌, Bool, List}
use Rattle.std.specs.declared.option.Option.{Option}
use Rattle.std.specs.FinMap as fin
use Rattle.outside.specs.Trace.{Call}
use Rattle.block_versions.specs.store_outcome.Meanings.{Meanings}
use Rattle.local_state.specs.Record.{record_bytes, IsRecord}
use Rattle.store_api.specs.Content.{Id, Content, SameContent}
use Rattle.store_api.specs.Durables.{Durables, Records}
use Rattle.store_api.specs.Holdings.{Holdings}
use Rattle.block_versions.specs.Held.{Held}
use Rattle.block_versions.specs.Soundness.{IsUntouched}
use Rattle.block_versions.specs.Standing.{identity_of, listed}
use Rattle.block_versions.specs.Stores.{version_in}

-- its ids, versions and sizes, its identity, list, calls and faults are those of what it was made of
pub record IsMadeOf {S : Type 0} (M : Meanings S) (H : Holdings S) (D : Durables S) (h : Held) (calls : Option (List Call)) (failed : ℕ) (s : S) : Type 0 where
  pub used : H.used s ≡ fin.keys h.state.lives
  pub version : (id : Id) → H.version s id ≡ version_in (fin.get h.state.lives id)
  pub payload : H.payload s ≡ h.size - 78
  pub identity : D.identity s ≡ identity_of h
  pub least : D.least s ≡ h.state.least
  pub list : D.list s ≡ h.list
  pub trace : D.trace s ≡ calls
  pub faults : M.faults s ≡ failed

-- its records are those of the state, with the list or with an empty one: what it writes, and what else is read so
pub record IsRecordedAs {S : Type 0} (D : Durables S) (h : Held) (s : S) : Type 0 where
  pub written : (with_list : Bool) → D.local_record_of s with_list ≡ record_bytes h.state (listed with_list h.list)
  pub is_record : (with_list : Bool) (kept : List ℕ) → IsRecord h.state (listed with_list h.list) kept → D.is_record s with_list kept

-- it is sound where no block is known and nothing was changed, and where a kept record stands for its content
pub record IsSoundAs {S : Type 0} (M : Meanings S) (H : Holdings S) (D : Durables S) (R : Records) (h : Held) (s : S) : Type 0 where
  pub fresh : h.state.lives ≡ fin.empty → IsUntouched (D.trace s) → M.sound s
  pub opened : (content : Content) (kept : List ℕ) → IsRecord h.state h.list kept → R.stands (D.identity s) kept (D.trace s) content → M.sound s × SameContent content (H.content s)
