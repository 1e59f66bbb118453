-- The record in a block's file.
use Rattle.std.specs.Prelude.{◌≡◌, ◌<◌, ℕ, ◌+◌, ◌-◌, ◌^◌, ◌&&◌, List, ◌++◌, Option, Some, None, option_and_then, if◌then◌else◌, ◌==◌, nat_lt, length, replicate}
use Rattle.std.specs.Int.{w16, w32, w64, to_le_bytes}
use Rattle.byte_fields.specs.Fields.{front_at, number_at}
use Rattle.sealed_store.specs.declared.sealed_store.TheConstants.{SEAL_LEN}
use Rattle.sealed_store.specs.BlockFiles.{opens_file}
use Rattle.block_versions.specs.declared.block_record.Head.{Head}
use Rattle.block_versions.specs.declared.block_record.TheConstants.{RECORD_FORMAT, OVERHEAD}

-- an id as 16 bytes, the number of the client that wrote it, the version, and the payload
pub record Record : Type 0 where
  pub id : List ℕ
  pub client : ℕ
  pub version : ℕ
  pub payload : List ℕ

-- the record of what stands before a payload, and the payload
abbrev pub with_payload : Head → List ℕ → Record
with_payload head payload = record { id = head.id.0; client = head.client; version = head.version; payload = payload }

-- ---- as bytes

-- the format's number as two bytes, the id, the client as four bytes, the version as eight, and the payload
abbrev pub text_of : Record → List ℕ
text_of r = to_le_bytes w16 RECORD_FORMAT ++ (r.id ++ (to_le_bytes w32 r.client ++ (to_le_bytes w64 r.version ++ r.payload)))

-- what may be the record of a file of this size
pub record FitsFile (size : ℕ) (r : Record) : Type 0 where
  pub id : length r.id ≡ 16
  pub client : 0 < r.client
  pub client_fits : r.client < 2 ^ 32
  pub version : 0 < r.version
  pub version_fits : r.version < 2 ^ 64
  pub payload : length r.payload + OVERHEAD ≡ size

infixl 10 ◌>>=◌
abbrev pub ◌>>=◌ : {A B : Type 0} → Option A → (A → Option B) → Option B
o >>= f = option_and_then f o

-- the record that bytes are read as: its fields from left to right, of the format, with a client and a version; what is left is its payload
unfoldable pub record_from : List ℕ → Option Record
record_from bytes = do
  format ← number_at w16 bytes
  id ← front_at 16 format.1
  client ← number_at w32 id.1
  version ← number_at w64 client.1
  if format.0 == RECORD_FORMAT && nat_lt 0 client.0 && nat_lt 0 version.0
      then Some (record { id = id.0; client = client.0; version = version.0; payload = version.1 }) else None

-- the record that a plaintext is, where a block's file has this size
unfoldable pub record_of : ℕ → List ℕ → Option Record
record_of size bytes = if length bytes + SEAL_LEN == size then record_from bytes else None

-- ---- in a file

-- the record that a plaintext is, where there is one
abbrev pub record_in : ℕ → Option (List ℕ) → Option Record
record_in size None = None
record_in size (Some bytes) = record_of size bytes

-- the record that a file of this block opens to
abbrev pub opened : (List ℕ → List ℕ → Option (List ℕ)) → ℕ → List ℕ → List ℕ → Option Record
opened opens size id bytes = record_in size (opens_file opens size id bytes)

-- the payload of a record, or as many zeros where there is none
abbrev pub payload_of : ℕ → Option Record → List ℕ
payload_of size None = replicate (size - OVERHEAD) 0
payload_of size (Some r) = r.payload

-- the payload of a file of this block, or zeros where there is none or it doesn't open to a record
abbrev pub payload_in : (List ℕ → List ℕ → Option (List ℕ)) → ℕ → List ℕ → Option (List ℕ) → List ℕ
payload_in opens size id None = payload_of size None
payload_in opens size id (Some bytes) = payload_of size (opened opens size id bytes)
