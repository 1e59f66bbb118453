-- What is true of every directory, record and input that is honest by its type.
use Rattle.std.specs.Prelude.{◌≡◌, []}
use Rattle.std.specs.declared.option.Option.TheVariants.{None}
use Rattle.memory_outside.specs.Keepers.{KeeperState}
use Rattle.memory_outside.specs.MemoryStreams.{Feed}
use Rattle.memory_outside.specs.Vaults.{VaultState, IsUntampered}
use Rattle.outside.specs.Honest.{lies}

-- each get gave what was last written, no call failed, and none is made to
pub record IsHonestVault (v : VaultState) : Type 0 where
  pub truthful : lies v.trace ≡ 0
  pub faultless : v.faults ≡ 0
  pub untampered : IsUntampered v
  pub none_listed : v.failing ≡ []
  pub none_from : v.failing_from ≡ None
  pub none_strange : v.strange ≡ []

-- no call failed, and none is made to
pub record IsHonestKeeper (k : KeeperState) : Type 0 where
  pub faultless : k.faults ≡ 0
  pub none_listed : k.failing ≡ []
  pub no_loads_listed : k.failing_loads ≡ []
  pub none_from : k.failing_from ≡ None

-- no call failed, and none is made to
pub record IsHonestSource (s : Feed) : Type 0 where
  pub faultless : s.faults ≡ 0
  pub none_listed : s.fails ≡ []
