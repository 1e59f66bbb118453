-- What a store holds, and the content that it calls for, by the calls on its directory: the newest call stands first.
use Rattle.std.specs.Prelude.{ℕ, List, []}
use Rattle.std.specs.declared.option.Option.{Option}
use Rattle.std.specs.declared.option.Option.TheVariants.{None, Some}
use Rattle.std.specs.FinMap as fin
use Rattle.outside.specs.Trace.{block, Call}
use Rattle.outside.specs.Changes.{FileChanges, change_at}
use Rattle.outside.specs.Honest.{LastChange, last_change}
use Rattle.local_state.specs.Known.{version_if_live}
use Rattle.local_state.specs.Record.{PlainState}
use Rattle.store_api.specs.Content.{Content}
use Rattle.block_versions.specs.BlockRecords.{Record, payload_in}

-- the size of a block, what a sealed text opens to with some extra bytes, the state, and the unwritten list
pub record Held : Type 0 where
  pub size : ℕ
  pub opens : List ℕ → List ℕ → Option (List ℕ)
  pub state : PlainState
  pub list : FileChanges

-- the version of a live id
abbrev pub live_version : Held → List ℕ → Option ℕ
live_version h id = version_if_live (fin.get h.state.lives id)

-- the record of this id at this version, by the own client
abbrev pub own : Held → List ℕ → ℕ → List ℕ → Record
own h id version payload = record { id = id; client = h.state.client; version = version; payload = payload }

-- what waits for this block
abbrev pub waiting : Held → List ℕ → Option (Option (List ℕ))
waiting h id = change_at (block id) h.list

-- the bytes that a last change left
abbrev pub bytes_in : Option LastChange → Option (List ℕ)
bytes_in None = None
bytes_in (Some change) = change.bytes

-- what waits, else what was there last
abbrev pub waiting_or : Option (Option (List ℕ)) → Option (List ℕ) → Option (List ℕ)
waiting_or None last = last
waiting_or (Some change) last = change

-- the bytes of a block's file: those that wait, else those of its last change
abbrev pub file_of : Held → List Call → List ℕ → Option (List ℕ)
file_of h trace id = waiting_or (waiting h id) (bytes_in (last_change (block id) trace))

-- the payload, where there is a version
abbrev pub where_live : Option ℕ → List ℕ → Option (List ℕ)
where_live None payload = None
where_live (Some version) payload = Some payload

-- the calls of a directory that tells them
abbrev pub told_or_none : Option (List Call) → List Call
told_or_none None = []
told_or_none (Some trace) = trace

-- each live id with the payload of its file
abbrev pub wanted : Held → Option (List Call) → Content
wanted h trace id = where_live (live_version h id) (payload_in h.opens h.size id (file_of h (told_or_none trace) id))
