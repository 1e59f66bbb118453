-- What a kept record and the calls on the directory stand for.
use Rattle.std.specs.Prelude.{◌≡◌, ℕ, Bool, true, false, List, []}
use Rattle.std.specs.declared.option.Option.{Option}
use Rattle.std.specs.declared.option.Option.TheVariants.{Some}
use Rattle.outside.specs.Trace.{Call}
use Rattle.outside.specs.Changes.{FileChanges}
use Rattle.local_state.specs.Record.{PlainState, ListEntry, record_bytes, IsRecord}
use Rattle.store_api.specs.Content.{Content, SameContent}
use Rattle.store_api.specs.Durables.{Identity, Durables, Records, IsConfigured}
use Rattle.block_versions.specs.Held.{Held, wanted}
use Rattle.block_versions.specs.Soundness.{SoundBy}
use Rattle.block_id.specs.declared.format.Format.TheVariants.{WithId}
use Rattle.block_id.specs.Formats.{format_in}

-- what a store that holds this was opened as
abbrev pub identity_of : Held → Identity
identity_of h = record {
  marked = h.state.marked;
  fs_id = h.state.fs_id;
  key_salt = h.state.key_salt;
  key_digest = h.state.key_digest;
  client = h.state.client;
  size = h.size;
  opens = h.opens;
}

-- Of what is held under this identity, with no violation marked, the kept bytes are the record; with the trace it is sound,
-- and the content is what it calls for.
pub record Stands (identity : Identity) (kept : List ℕ) (trace : Option (List Call)) (content : Content) : Type 0 where
  pub held : Held
  pub same : identity_of held ≡ identity
  pub unmarked : held.state.marked ≡ false
  pub is_record : IsRecord held.state held.list kept
  pub sound : SoundBy held trace
  pub wants : SameContent content (wanted held trace)

-- a record with its mark set
pub record IsMarked (kept : List ℕ) : Type 0 where
  pub state : PlainState
  pub list : List ListEntry
  pub is_marked : state.marked ≡ true
  pub is_record : IsRecord state list kept

-- The kept bytes are a record, by whose list and the trace the configuration's file holds these bytes.
pub record Configures (kept : List ℕ) (trace : Option (List Call)) (bytes : List ℕ) : Type 0 where
  pub state : PlainState
  pub list : List ListEntry
  pub is_record : IsRecord state list kept
  pub configured : IsConfigured list trace bytes

-- the list, or an empty one
abbrev pub listed : Bool → FileChanges → FileChanges
listed true list = list
listed false list = []

abbrev pub durables_by : {S : Type 0} → (S → Held) → (S → Option (List Call)) → Durables S
durables_by held trace = record {
  identity = λ s. identity_of (held s);
  trace = trace;
  list = λ s. (held s).list;
  is_record = λ s with_list bytes. IsRecord (held s).state (listed with_list (held s).list) bytes;
  local_record_of = λ s with_list. record_bytes (held s).state (listed with_list (held s).list);
  least = λ s. (held s).state.least;
  is_new = λ bytes. format_in bytes ≡ Some WithId;
}

abbrev pub records : Records
records = record { stands = Stands; marked = IsMarked; configures = Configures }
