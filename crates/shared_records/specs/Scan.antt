-- A record of several clients, read without a map of its blocks: what stands behind each part, or nothing.
use Rattle.std.specs.Prelude.{ℕ, zero, suc, ◌-◌, Bool, true, false, not, ◌&&◌, ◌==◌, List, [], ◌∷◌, ◌++◌, length, drop, Option, Some, None, nat_eq, nat_lt, if◌then◌else◌}
use Rattle.std.specs.Int.{w32, w64}
use Rattle.std.specs.List.{starts_with}
use Rattle.std.specs.Str.{bytes_eq}
use Rattle.byte_fields.specs.Fields.{front_at, number_at}
use Rattle.outside.specs.Plain.{shared_magic}
use Rattle.outside.specs.Trace.{At, config, block}
use Rattle.local_state.specs.declared.life.Life.{Life}
use Rattle.local_state.specs.Known.{zero_id}
use Rattle.local_state.specs.Reading.{◌>>=◌, flag_at, least_in, known_at, name_at, change_at}
use Rattle.local_state.specs.Record.{comes_after, has_bytes}
use Rattle.clients_core.specs.Listed.{comes_by}
use Rattle.local_state.specs.Versions.{Version}

-- ---- what stands before the known blocks

-- the own client, and what stands behind it
unfoldable pub client_at : List ℕ → Option (ℕ × List ℕ)
client_at bytes = do
  marked ← flag_at bytes
  least ← least_in marked.1
  fs_id ← front_at 16 least.1
  key_salt ← front_at 32 fs_id.1
  key_digest ← front_at 32 key_salt.1
  client ← number_at w32 key_digest.1
  if nat_lt 0 client.0 then Some client else None

-- ---- rows of known blocks

-- what stands after so many rows
unfoldable pub rows_at : ℕ → List ℕ → List ℕ → Option (List ℕ)
rows_at zero previous bytes = Some bytes
rows_at (suc n) previous bytes = known_at previous bytes >>= (λ e. rows_at n e.0.0 e.1)

-- what so many rows say of an id, of which this was said before
unfoldable pub life_in : ℕ → List ℕ → List ℕ → List ℕ → Option Life → Option Life
life_in zero previous bytes id found = found
life_in (suc n) previous bytes id found = known_at previous bytes >>= (λ e. life_in n e.0.0 e.1 id (if bytes_eq e.0.0 id then Some e.0.1 else found))

abbrev pub is_live_life : Option Life → Bool
is_live_life None = false
is_live_life (Some life) = life.live

abbrev pub is_dead_life : Option Life → Bool
is_dead_life None = false
is_dead_life (Some life) = not life.live

-- what may be written, by what is said of each id
abbrev pub may_by : (List ℕ → Option Life) → At → Bool → Bool
may_by said config bytes = bytes
may_by said (block id) true = is_live_life (said id)
may_by said (block id) false = is_dead_life (said id)

-- ---- the list

-- what stands after so many list entries
unfoldable pub entries_past : (List ℕ → Option Life) → ℕ → Option At → List ℕ → Option (List ℕ)
entries_past said zero previous bytes = Some bytes
entries_past said (suc n) previous bytes =
    name_at bytes >>= (λ name. change_at name.1
    >>= (λ change. if comes_after previous name.0 && may_by said name.0 (has_bytes change.0) then entries_past said n (Some name.0) change.1 else None))

-- the own client, and what stands behind the list
unfoldable pub front_past : List ℕ → Option (ℕ × List ℕ)
front_past bytes = do
  client ← client_at bytes
  n ← number_at w64 client.1
  list ← rows_at n.0 zero_id n.1
  m ← number_at w64 list
  rest ← entries_past (λ id. life_in n.0 zero_id n.1 id None) m.0 None m.1
  Some (client.0, rest)

-- ---- versions of other clients

unfoldable pub version_at : List ℕ → Option (Version × List ℕ)
version_at bytes = do
  id ← front_at 16 bytes
  client ← number_at w32 id.1
  version ← number_at w64 client.1
  Some (record { id = id.0; client = client.0; version = version.0 }, version.1)

-- what stands after so many versions of others than this client
unfoldable pub others_past : ℕ → ℕ → Option Version → List ℕ → Option (List ℕ)
others_past own zero previous bytes = Some bytes
others_past own (suc n) previous bytes = version_at bytes >>= (λ v. if comes_by previous v.0 && not (v.0.client == own) then others_past own n (Some v.0) v.1 else None)

-- there is an end, and nothing stands behind it
abbrev pub is_end : Option (List ℕ) → Bool
is_end None = false
is_end (Some rest) = length rest == 0

-- whether the bytes are so many of them as they say, and no more
unfoldable pub are_others : ℕ → List ℕ → Bool
are_others own bytes = is_end (number_at w64 bytes >>= (λ n. others_past own n.0 None n.1))

-- so many versions behind those before
unfoldable pub versions_at : ℕ → List Version → List ℕ → Option (List Version × List ℕ)
versions_at zero before bytes = Some (before, bytes)
versions_at (suc n) before bytes = version_at bytes >>= (λ v. versions_at n (before ++ v.0 ∷ []) v.1)

-- as many as the bytes say
unfoldable pub versions_in : List ℕ → Option (List Version)
versions_in bytes = number_at w64 bytes >>= (λ n. versions_at n.0 [] n.1 >>= (λ x. Some x.0))

-- ---- the whole

-- where the versions of others begin in a record of several clients
unfoldable pub split_at : List ℕ → Option ℕ
split_at bytes =
    if starts_with nat_eq bytes shared_magic
    then (front_past (drop 19 bytes) >>= (λ front. if are_others front.0 front.1 then Some (length bytes - length front.1) else None))
    else None
