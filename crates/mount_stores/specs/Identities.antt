-- What a store is opened as, and a record that nothing waits in.
use Rattle.std.specs.Prelude.{◌≡◌, ℕ, false, List, [], ◌++◌}
use Rattle.std.specs.declared.option.Option.{Option}
use Rattle.std.specs.declared.option.Option.TheVariants.{Some}
use Rattle.sha2.specs.Sha256.{sha256}
use Rattle.outside.specs.Changes.{FileChanges}
use Rattle.config_file.specs.aes_gcm.Gcm.{opened_of}
use Rattle.record_saver.specs.local_state.Record.{PlainState, IsRecord}
use Rattle.block_cache.specs.store_api.Durables.{Identity}
use Rattle.config_file.specs.Settings.{Settings}

-- what a record alone says of who holds a file system: the salt of the key's digest, and the number of the client
pub record Holder : Type 0 where
  pub key_salt : List ℕ
  pub client : ℕ

abbrev pub holder_of : PlainState → Holder
holder_of state = record { key_salt = state.key_salt; client = state.client }

-- who makes a file system is its client 1
abbrev pub first_holder : List ℕ → Holder
first_holder salt = record { key_salt = salt; client = 1 }

-- what a store of this configuration is opened as by this holder
abbrev pub identity_for : Settings → Holder → Identity
identity_for c holder = record {
  marked = false;
  fs_id = c.fs_id;
  key_salt = holder.key_salt;
  key_digest = sha256 (holder.key_salt ++ c.key);
  client = holder.client;
  size = c.block_size;
  opens = opened_of c.key;
}

-- a record of this state with this list is kept, in any form that it may have
pub record KeepsRecord (was : Option (List ℕ)) (state : PlainState) (list : FileChanges) : Type 0 where
  pub bytes : List ℕ
  pub kept : was ≡ Some bytes
  pub is_record : IsRecord state list bytes

-- a record with an empty list is kept
pub record HasEmptyList (was : Option (List ℕ)) : Type 0 where
  pub state : PlainState
  pub keeps : KeepsRecord was state []
