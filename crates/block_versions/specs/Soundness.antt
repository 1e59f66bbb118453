-- When what a store holds is sound over the calls on its directory.
use Rattle.std.specs.Prelude.{◌≡◌, ◌⊎◌, ◌≤◌, ℕ, Bool, true, List}
use Rattle.std.specs.declared.option.Option.{Option}
use Rattle.std.specs.declared.option.Option.TheVariants.{None, Some}
use Rattle.std.specs.FinMap as fin
use Rattle.outside.specs.Trace.{block, Call, put, At}
use Rattle.outside.specs.Honest.{LastChange, last_change}
use Rattle.local_state.specs.declared.life.Life.{Life}
use Rattle.local_state.specs.Known.{is_dead_in}
use Rattle.block_id.specs.Formats.{IsTaken}
use Rattle.block_versions.specs.BlockRecords.{Record, opened}
use Rattle.block_versions.specs.Forgeries.{was_put}
use Rattle.block_versions.specs.Held.{Held, live_version, own, waiting, wanted}
use Rattle.block_versions.specs.Reads.{Among}

-- a record of a used id, no version above the known one; at the known version of a live id it is what is wanted
pub record IsPast (h : Held) (trace : List Call) (r : Record) : Type 0 where
  pub life : Life
  pub used : fin.get h.state.lives r.id ≡ Some life
  pub version : r.version ≤ life.version
  pub payload : live_version h r.id ≡ Some r.version → wanted h (Some trace) r.id ≡ Some r.payload

-- a block's file that opens to its record at this version, in a format that is taken
pub record IsFresh (h : Held) (id : List ℕ) (version : ℕ) (bytes payload : List ℕ) : Type 0 where
  pub opens : opened h.opens h.size id bytes ≡ Some (own h id version payload)
  pub taken : IsTaken h.state.least bytes

-- the last change put the record of another client
pub record IsForeign (h : Held) (id : List ℕ) (last : Option LastChange) : Type 0 where
  pub bytes : List ℕ
  pub ok : Bool
  pub found : Record
  pub put : last ≡ Some (record { bytes = Some bytes; ok = ok })
  pub opens : opened h.opens h.size id bytes ≡ Some found
  pub other : found.client ≡ h.state.client → ⊥

-- these bytes open as this block's file to a record of it, by whichever client
pub record IsSealed (h : Held) (id bytes : List ℕ) : Type 0 where
  pub found : Record
  pub opens : opened h.opens h.size id bytes ≡ Some found
  pub own_id : found.id ≡ id

-- what waits or was put last is the record of the known version, whatever else the own client put is of the past, and under a block's name nothing but its
-- sealed records was put
pub record SoundAt (h : Held) (trace : List Call) : Type 0 where
  -- what waits for a live block is its record at its version
  pub waits : (id : List ℕ) (version : ℕ) (change : Option (List ℕ)) → live_version h id ≡ Some version → waiting h id ≡ Some change
      → (bytes payload : List ℕ) × (change ≡ Some bytes) × IsFresh h id version bytes payload
  -- a live block that doesn't wait was put last, as its record at its version
  pub stands : (id : List ℕ) (version : ℕ) → live_version h id ≡ Some version → waiting h id ≡ None
      → (bytes payload : List ℕ) × (last_change (block id) trace ≡ Some (record { bytes = Some bytes; ok = true })) × IsFresh h id version bytes payload
  -- a dead block whose removal doesn't wait was removed last, or another client put it
  pub buried : (id : List ℕ) → is_dead_in h.state.lives id ≡ true → waiting h id ≡ None
      → (last_change (block id) trace ≡ Some (record { bytes = None; ok = true })) ⊎ IsForeign h id (last_change (block id) trace)
  -- each file that was put and opens as some block's to a record of the own client is of the past
  pub past : (id bytes : List ℕ) (r : Record) → was_put bytes trace ≡ true → opened h.opens h.size id bytes ≡ Some r → r.client ≡ h.state.client → IsPast h trace r
  -- each file that was put under a block's name, with either answer, is a sealed record of that block
  pub sealed : (id bytes : List ℕ) (ok : Bool) → Among trace (put (block id) bytes ok) → IsSealed h id bytes

-- the same, of a directory that tells its calls
abbrev pub SoundBy : Held → Option (List Call) → Type 0
SoundBy h None = ⊥
SoundBy h (Some trace) = SoundAt h trace

-- nothing was put or removed, by a trace that is told
abbrev pub IsUntouched : Option (List Call) → Type 0
IsUntouched None = ⊥
IsUntouched (Some trace) = (name : At) → last_change name trace ≡ None
