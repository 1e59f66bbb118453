-- What a client has put that nobody was before, where each block is written anew under its number.
use Rattle.std.specs.Prelude.{◌≡◌, ◌⊎◌, ℕ, Bool, true, List, []}
use Rattle.std.specs.FinMap as fin
use Rattle.std.specs.declared.option.Option.{Option}
use Rattle.std.specs.declared.option.Option.TheVariants.{None, Some}
use Rattle.outside.specs.Trace.{config, block, Call, put}
use Rattle.outside.specs.Honest.{LastChange, last_change}
use Rattle.integrity_store.specs.block_versions.BlockRecords.{Record, opened}
use Rattle.integrity_store.specs.block_versions.Forgeries.{was_put}
use Rattle.integrity_store.specs.block_versions.Held.{Held, own}
use Rattle.integrity_store.specs.block_versions.Reads.{Among}
use Rattle.integrity_store.specs.block_versions.Soundness.{IsFresh, IsSealed}
use Rattle.integrity_store.specs.block_versions.local_state.declared.life.Life.{Life}

-- a file of this block that opens to a record of it, by whichever client
pub record IsBlockFile (opens : List ℕ → List ℕ → Option (List ℕ)) (size : ℕ) (id bytes : List ℕ) : Type 0 where
  pub found : Record
  pub opens_to : opened opens size id bytes ≡ Some found
  pub own_id : found.id ≡ id

-- By these calls the client's number is new: no file that was put opens to a record of that client, and under a block's name nothing but files of it was put.
pub record IsNewClient (opens : List ℕ → List ℕ → Option (List ℕ)) (size client : ℕ) (calls : List Call) : Type 0 where
  pub unused : (id bytes : List ℕ) (r : Record) → was_put bytes calls ≡ true → opened opens size id bytes ≡ Some r → r.client ≡ client → ⊥
  pub sealed : (id bytes : List ℕ) (ok : Bool) → Among calls (put (block id) bytes ok) → IsBlockFile opens size id bytes

-- the life of a block that was put once
abbrev pub first_life : Life
first_life = record { version = 1; live = true }

-- a live block's file that the client put last, as its record at version 1
pub record IsAnew (h : Held) (trace : List Call) (bytes : List ℕ) : Type 0 where
  pub id : List ℕ
  pub payload : List ℕ
  pub live : fin.get h.state.lives id ≡ Some first_life
  pub last : last_change (block id) trace ≡ Some (record { bytes = Some bytes; ok = true })
  pub opens : opened h.opens h.size id bytes ≡ Some (own h id 1 payload)

-- Nothing waits. Each known block lives at version 1, and its fresh record was put last; beside that nothing was put since but the configuration's file, which holds these bytes.
pub record BegunAnew (h : Held) (file : List ℕ) (before trace : List Call) : Type 0 where
  pub none : h.list ≡ []
  pub new : (id : List ℕ) (life : Life) → fin.get h.state.lives id ≡ Some life → life ≡ first_life
  pub put_last : (id : List ℕ) (life : Life) → fin.get h.state.lives id ≡ Some life
      → (bytes payload : List ℕ) × (last_change (block id) trace ≡ Some (record { bytes = Some bytes; ok = true })) × IsFresh h id 1 bytes payload
  pub only : (bytes : List ℕ) → was_put bytes trace ≡ true → (was_put bytes before ≡ true) ⊎ ((bytes ≡ file) ⊎ IsAnew h trace bytes)
  pub sealed : (id bytes : List ℕ) (ok : Bool) → Among trace (put (block id) bytes ok) → Among before (put (block id) bytes ok) ⊎ IsSealed h id bytes
  pub configured : last_change config trace ≡ Some (record { bytes = Some file; ok = true })

-- the same, of a directory that tells its calls
abbrev pub IsBegun : Held → List ℕ → Option (List Call) → Option (List Call) → Type 0
IsBegun h file None now = Unit {0}
IsBegun h file (Some before) now = (trace : List Call) × (now ≡ Some trace) × BegunAnew h file before trace

-- by these calls the number of whoever holds this is new, of a directory that tells its calls
abbrev pub HasNewClient : Held → Option (List Call) → Type 0
HasNewClient h None = ⊥
HasNewClient h (Some before) = IsNewClient h.opens h.size h.state.client before
