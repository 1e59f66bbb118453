-- Versions of blocks by the clients that wrote them.
use Rattle.std.specs.Prelude.{ℕ, List}
use Rattle.local_state.specs.declared.triple.Triple.{Triple}

-- a version of the block with this id, by this client
pub record Version : Type 0 where
  pub id : List ℕ
  pub client : ℕ
  pub version : ℕ

abbrev pub version_of : Triple → Version
version_of t = record { id = t.id.0; client = t.client; version = t.version }
