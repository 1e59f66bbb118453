-- A record that takes block files of the newest format alone.
use Rattle.std.proofs.Common.{ℕ, List, [], inr}
use Rattle.std.specs.declared.option.Option.{Option}
use Rattle.mount.specs.Formats.{TakesFrom}
use Rattle.mount_calls.specs.Migrating.{KeepsNewest}

pub newest_takes : (kept : Option (List ℕ)) → KeepsNewest kept → TakesFrom 2 kept
newest_takes kept k = inr (k.state, record { list = []; keeps = k.keeps }, k.least)
