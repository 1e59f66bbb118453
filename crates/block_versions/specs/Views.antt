-- The parts of a store as plain data.
use Rattle.std.specs.Prelude.{ℕ, List}
use Rattle.std.specs.declared.option.Option.{Option}
use Rattle.local_state.specs.declared.state.State.{State}
use Rattle.local_state.specs.Record.{plain_state}
use Rattle.sealed_store.specs.Stores.{Sealed, block_size_of, key_of, cipher_of}
use Rattle.block_versions.specs.Held.{Held}

-- the size of a block and the list of a sealed store, what its sealed texts open to by its cipher and key, and a state
abbrev pub held_of : {V C : Type 0} → (C → List ℕ → List ℕ → List ℕ → Option (List ℕ)) → Sealed V C → State → Held
held_of opens sealed state = record { size = block_size_of sealed; opens = opens (cipher_of sealed) (key_of sealed); state = plain_state state; list = sealed.vault.list }
