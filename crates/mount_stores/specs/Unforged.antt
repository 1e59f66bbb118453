-- What opens under a password where the configuration is looked for.
use Rattle.std.specs.Prelude.{◌≡◌, ℕ, List, ◌∷◌, ◌++◌}
use Rattle.std.specs.declared.option.Option.{Option}
use Rattle.std.specs.declared.option.Option.TheVariants.{None, Some}
use Rattle.outside.specs.Changes.{FileChanges, change_at}
use Rattle.outside.specs.Trace.{Call, config, got}
use Rattle.record_saver.specs.local_state.Record.{PlainState}
use Rattle.scrypt_kdf.specs.Cost.{Cost}
use Rattle.config_file.specs.ConfigOf.{ConfigOf, opened}
use Rattle.config_file.specs.Settings.{Settings}
use Rattle.mount_stores.specs.Identities.{KeepsRecord}
use Rattle.mount_stores.specs.Opening.{IsOf}

-- whatever opens under the password, in the list of the record that is kept, or where none waits there given by the first call from the old trace to the new, is so, by that record's state
pub record EachConfig (IsSo : PlainState → Settings → Type 0) (password : List ℕ) (kept : Option (List ℕ)) (old new : Option (List Call)) : Type 0 where
  pub listed : (state : PlainState) (list : FileChanges) (bytes : List ℕ) (found : Settings) (cost : Cost) → KeepsRecord kept state list
      → change_at config list ≡ Some (Some bytes) → ConfigOf password bytes (opened found cost) → IsSo state found
  pub given : (state : PlainState) (list : FileChanges) (before calls : List Call) (max : ℕ) (bytes : List ℕ) (found : Settings) (cost : Cost) → KeepsRecord kept state list
      → change_at config list ≡ None → old ≡ Some before → new ≡ Some (calls ++ got config max (Some bytes) ∷ before) → ConfigOf password bytes (opened found cost) → IsSo state found

-- whatever opens and is of the record's file system and key is this one; anything else is refused
abbrev pub IsUnforgedConfig : List ℕ → Option (List ℕ) → Option (List Call) → Option (List Call) → Settings → Type 0
IsUnforgedConfig password kept old new c = EachConfig (λ state found. IsOf state found → found ≡ c) password kept old new

-- no other configuration opens at all
abbrev pub IsOnlyConfig : List ℕ → Option (List ℕ) → Option (List Call) → Option (List Call) → Settings → Type 0
IsOnlyConfig password kept old new c = EachConfig (λ state found. found ≡ c) password kept old new
