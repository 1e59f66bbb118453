-- What the calls of a store whose changes wait leave of it: a is the store before the call, b after it.
use Rattle.std.specs.Prelude.{◌≡◌, ℕ, true, false, List, [], Result, OnOk, OnErr}
use Rattle.block_id.specs.declared.fail.Memory.{Memory}
use Rattle.outside.specs.declared.vault.GetFail.{GetFail}
use Rattle.outside.specs.Writes.{after_writes, StopsAt}
use Rattle.store_outcome.specs.Meanings.{Meanings}
use Rattle.store_api.specs.Durables.{Durables, Records}
use Rattle.store_api.specs.Holdings.{Holdings}
use Rattle.store_api.specs.Lists.{with_config}

-- ---- any of them

-- it stays intact and sound, and nothing was forged or lied about on the way
pub record StaysMeant {S : Type 0} (M : Meanings S) (a b : S) : Type 0 where
  pub intact : M.intact b
  pub sound : M.sound a → M.sound b
  pub forgeries : M.forgeries b ≡ M.forgeries a
  pub lies : M.lies b ≡ M.lies a

-- ---- the list is written out

-- the calls, in order: what isn't done at the first error stays in the list
pub record WritesList {S : Type 0} (D : Durables S) (a b : S) (result : Result Unit GetFail) : Type 0 where
  pub identity : D.identity b ≡ D.identity a
  pub least : D.least b ≡ D.least a
  pub ok : OnOk result (D.list b ≡ [])
  pub writes : OnOk result (D.trace b ≡ after_writes (D.list a) (D.trace a))
  pub stops : OnErr result (StopsAt (D.list a) (D.trace a) (D.trace b) (D.list b))

-- what any record of before means after so many of them
pub record WrittenRecords {S : Type 0} (M : Meanings S) (H : Holdings S) (D : Durables S) (R : Records) (a b : S) : Type 0 where
  pub empty : D.local_record_of b false ≡ D.local_record_of a false
  pub empty_record : (kept : List ℕ) → D.is_record a false kept → D.is_record b false kept
  pub stands : (kept : List ℕ) → M.sound a → (D.identity a).marked ≡ false → D.is_record a true kept → R.stands (D.identity a) kept (D.trace b) (H.content a)
  pub kept_configures : (kept bytes : List ℕ) → D.is_record a true kept → R.configures kept (D.trace a) bytes → R.configures kept (D.trace b) bytes
  pub configures : H.told a ≡ true → (kept bytes : List ℕ) → D.is_record a true kept → R.configures kept (D.trace a) bytes → R.configures (D.local_record_of b true) (D.trace b) bytes

-- ---- the configuration's file is to hold these bytes

-- they wait, and no call was made; with no memory for them the store was loaded at most
pub record ListsConfig {S : Type 0} (M : Meanings S) (D : Durables S) (bytes : List ℕ) (a b : S) (result : Result Unit Memory) : Type 0 where
  pub identity : D.identity b ≡ D.identity a
  pub least : D.least b ≡ D.least a
  pub trace : D.trace b ≡ D.trace a
  pub ok : OnOk result (D.list b ≡ with_config bytes (D.list a))
  pub err : OnErr result (M.loaded a b)

-- the record with the list says so, and the one with an empty list is as before
pub record ConfigRecords {S : Type 0} (D : Durables S) (R : Records) (bytes : List ℕ) (a b : S) (result : Result Unit Memory) : Type 0 where
  pub empty : D.local_record_of b false ≡ D.local_record_of a false
  pub empty_record : (kept : List ℕ) → D.is_record a false kept → D.is_record b false kept
  pub configures : OnOk result (R.configures (D.local_record_of b true) (D.trace b) bytes)

-- ---- the least format is set

-- it is the only change, and the record with the list says the same of the configuration's file
pub record SetsLeast {S : Type 0} (D : Durables S) (R : Records) (to : ℕ) (a b : S) : Type 0 where
  pub least : D.least b ≡ to
  pub identity : D.identity b ≡ D.identity a
  pub list : D.list b ≡ D.list a
  pub trace : D.trace b ≡ D.trace a
  pub configures : (kept bytes : List ℕ) → D.is_record a true kept → R.configures kept (D.trace a) bytes → R.configures (D.local_record_of b true) (D.trace b) bytes
