-- The record of a client of a file system that several write, as bytes: form 2 under another digit, and the versions of the others behind it.
use Rattle.std.specs.Prelude.{◌≡◌, ℕ, List, ◌++◌, length, drop}
use Rattle.std.specs.Int.{w32, w64, to_le_bytes}
use Rattle.std.specs.List.{flat_map}
use Rattle.outside.specs.Plain.{shared_magic}
use Rattle.local_state.specs.Record.{PlainState, ListEntry, record_bytes, HasRecord}
use Rattle.local_state.specs.Versions.{Version}
use Rattle.clients_core.specs.Listed.{FitsOthers}

-- id, client, version
abbrev pub version_bytes : Version → List ℕ
version_bytes v = v.id ++ (to_le_bytes w32 v.client ++ to_le_bytes w64 v.version)

-- the number of them, and these
abbrev pub others_bytes : List Version → List ℕ
others_bytes vs = to_le_bytes w64 (length vs) ++ flat_map version_bytes vs

-- `cryfs.localstate;3` and a zero byte, what stands behind these in form 2, and the versions of the others
abbrev pub shared_bytes : PlainState → List ListEntry → List Version → List ℕ
shared_bytes s list vs = shared_magic ++ (drop 19 (record_bytes s list) ++ others_bytes vs)

-- a state, a list and versions of others that have such a record
pub record HasShared (s : PlainState) (list : List ListEntry) (vs : List Version) : Type 0 where
  pub front : HasRecord s list
  pub others : FitsOthers s.client vs

-- these bytes are it
pub record IsShared (s : PlainState) (list : List ListEntry) (vs : List Version) (bytes : List ℕ) : Type 0 where
  pub has : HasShared s list vs
  pub is : bytes ≡ shared_bytes s list vs
