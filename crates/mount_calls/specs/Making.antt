-- What the record of a new file system says.
use Rattle.std.specs.Prelude.{ℕ, List, Result, OnOk}
use Rattle.std.specs.declared.option.Option.{Option}
use Rattle.block_id.specs.declared.id.BlockId.{BlockId}
use Rattle.mount.specs.Making.{HasClient, HasSalt, KnowsOnly}
use Rattle.mount_calls.specs.Migrating.{KeepsNewest}
use Rattle.mount.specs.mount_stores.declared.error.OpenError.{OpenError}

-- where one was made: no block but the root's is known, the digest of the key has this salt, it is the record of client 1, has no mark, and takes the newest format alone
pub record FirstRecord (kept : Option (List ℕ)) (root key_salt : List ℕ) (made : Result BlockId OpenError) : Type 0 where
  pub versions : OnOk made (KnowsOnly kept root)
  pub salt : OnOk made (HasSalt kept key_salt)
  pub client : OnOk made (HasClient kept 1)
  pub newest : OnOk made (KeepsNewest kept)
