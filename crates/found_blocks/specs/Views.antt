-- The parts of a store of found blocks as plain data.
use Rattle.std.specs.Prelude.{◌≡◌, ℕ, List, []}
use Rattle.std.specs.declared.option.Option.{Option}
use Rattle.block_versions.specs.sealed_store.Stores.{IsIntact, Sealed, block_size_of, cipher_of, key_of}
use Rattle.found_blocks.specs.declared.store.FoundStore.{FoundStore}
use Rattle.found_blocks.specs.Finding.{Finding, given_of}

-- what was found, by what a cipher opens
abbrev pub finding_by : {V C : Type 0} → (C → List ℕ → List ℕ → List ℕ → Option (List ℕ)) → FoundStore V C → Finding
finding_by opens s = record {
  size = block_size_of s.sealed;
  opens = opens (cipher_of s.sealed) (key_of s.sealed);
  rows = s.rows;
  given = given_of s.given.events;
}

-- nothing waits to be written, and vectors have this size
pub record IsIdle {V C : Type 0} (sealed : Sealed V C) (iv_size : ℕ) : Type 0 where
  pub intact : IsIntact (block_size_of sealed) iv_size
  pub list : sealed.vault.list ≡ []
