-- What is there once a file system was made in memory.
use Rattle.std.specs.Prelude.{◌≡◌, ◌⊎◌, List, ℕ, codes}
use Rattle.std.specs.declared.option.Option.TheVariants.{Some}
use Rattle.program_laws.specs.Premises.{Leaves}
use Rattle.cryfs_shell.specs.config_file.Settings.{Settings}
use Rattle.fs_model.specs.Tree.{empty_tree}
use Rattle.memory_outside.specs.Keepers.{KeeperState}
use Rattle.memory_outside.specs.Vaults.{VaultState}
use Rattle.cryfs_shell.specs.mount.Making.{KnowsOnly}
use Rattle.run_status.specs.declared.status.Status.{Status}
use Rattle.run_status.specs.declared.status.Status.TheVariants.{Memory, OutputFault}
use Rattle.session_laws.specs.Runs.{Outside}

-- the password of each file system that is made here
abbrev pub password : List ℕ
password = codes "password"

-- what is kept, the calls on the directory, and both counts of faults
abbrev pub outside_in : VaultState → KeeperState → Outside
outside_in v k = record { kept = k.kept; calls = Some v.trace; vault_faults = v.faults; keeper_faults = k.faults }

-- under the password the empty tree is kept, in a record that knows one block at its first version
pub record HoldsEmptyTree (v : VaultState) (k : KeeperState) : Type 0 where
  pub c : Settings
  pub leaves : Leaves password c empty_tree (outside_in v k)
  pub root : List ℕ
  pub young : KnowsOnly k.kept root

-- memory was refused, the program's or that of the text
abbrev pub IsWantOfMemory : Status → Type 0
IsWantOfMemory status = (status ≡ Memory) ⊎ (status ≡ OutputFault)
