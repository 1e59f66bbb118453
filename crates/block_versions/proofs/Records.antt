-- A record that is written is read again, and what is read was written so.
use Rattle.std.proofs.Common.{◌≡◌, ℕ, ◌+◌, ◌≤◌, true, List, [], ◌++◌, length, drop, refl, sym, ap, subst, ◌∙◌, append_assoc, arith}
use Rattle.std.specs.Prelude.{◌&&◌, ◌==◌, nat_lt, Option, Some, None, if◌then◌else◌}
use Rattle.std.specs.Int.{w16, w32, w64, to_le_bytes}
use Rattle.std.proofs.lemmas.Bool.{and_from, and_parts, eq-eqb, eqb-true, lt-ltb, ltb-true}
use Rattle.std.proofs.lemmas.List.{length-append}
use Rattle.byte_fields.specs.Fields.{IsBytes, front_at, number_at}
use Rattle.byte_fields.proofs.Fields.{bound, front_again, front_takes, number_again, number_takes, wide16, wide32, wide64}
use Rattle.block_versions.specs.declared.block_record.Head.{Head}
use Rattle.block_versions.specs.BlockRecords.{Record, FitsFile, ◌>>=◌, record_from, record_of, text_of, with_payload}
use Rattle.block_versions.specs.RecordLaws.{from-payload, if_some, record-fits}

pub length-text : (r : Record) → length r.id ≡ 16 → length (text_of r) ≡ 30 + length r.payload
length-text r wide =
    let version = to_le_bytes w64 r.version ++ r.payload in
    let client = to_le_bytes w32 r.client ++ version in
    omega (
      arith,
      wide,
      length-append (to_le_bytes w16 1) (r.id ++ client),
      length-append r.id client,
      length-append (to_le_bytes w32 r.client) version,
      length-append (to_le_bytes w64 r.version) r.payload,
      wide16.len 1,
      wide32.len r.client,
      wide64.len r.version,
    )

-- five parts that were appended to nothing
pub joined : (none a b c d e first second third fourth fifth : List ℕ) → none ≡ [] → first ≡ none ++ a → second ≡ first ++ b → third ≡ second ++ c → fourth ≡ third ++ d → fifth ≡ fourth ++ e
    → fifth ≡ a ++ (b ++ (c ++ (d ++ e)))
joined none a b c d e first second third fourth fifth p0 p1 p2 p3 p4 p5 =
    p5 ∙ ap (λ x. x ++ e) (p4 ∙ ap (λ x. x ++ d) (p3 ∙ ap (λ x. x ++ c) (p2 ∙ ap (λ x. x ++ b) (p1 ∙ ap (λ x. x ++ a) p0))))
    ∙ simp append_assoc

-- ---- what is behind each field

abbrev pub made : ℕ → List ℕ → ℕ → ℕ × List ℕ → Option Record
made format id client version =
    if format == 1 && nat_lt 0 client && nat_lt 0 version.0 then Some (record { id = id; client = client; version = version.0; payload = version.1 }) else None

abbrev pub after_client : ℕ → List ℕ → ℕ × List ℕ → Option Record
after_client format id client = number_at w64 client.1 >>= made format id client.0

abbrev pub after_id : ℕ → List ℕ × List ℕ → Option Record
after_id format id = number_at w32 id.1 >>= after_client format id.0

abbrev pub after_format : ℕ × List ℕ → Option Record
after_format format = front_at 16 format.1 >>= after_id format.0

-- ---- written, and read again

from_again : (size : ℕ) (r : Record) → FitsFile size r → record_from (text_of r) ≡ Some r
unfolding record_from
from_again size r f =
    let version = to_le_bytes w64 r.version ++ r.payload in
    let client = to_le_bytes w32 r.client ++ version in
    let passes : (1 == 1 && nat_lt 0 r.client && nat_lt 0 r.version) ≡ true = and_from _ _ (and_from _ _ refl (lt-ltb 0 r.client f.client)) (lt-ltb 0 r.version f.version) in
    ap (λ o. o >>= after_format) (number_again wide16 1 (r.id ++ client) (omega arith))
    ∙ ap (λ o. o >>= after_id 1) (front_again 16 r.id client f.id)
    ∙ ap (λ o. o >>= after_client 1 r.id) (number_again wide32 r.client version f.client_fits)
    ∙ ap (λ o. o >>= made 1 r.id r.client) (number_again wide64 r.version r.payload f.version_fits)
    ∙ ap (λ b. if b then Some r else None) passes

-- a plaintext that fills its file is read as any bytes
pub of_whole : (size : ℕ) (bytes : List ℕ) → length bytes + 48 ≡ size → record_of size bytes ≡ record_from bytes
unfolding record_of
of_whole size bytes len = ap (λ b. if b then record_from bytes else None) (eq-eqb (length bytes + 48) size len)

pub record_again : (size : ℕ) (r : Record) → FitsFile size r → record_of size (text_of r) ≡ Some r
record_again size r f = of_whole size (text_of r) (omega (arith, length-text r f.id, f.payload)) ∙ from_again size r f

-- ---- read, and so written

fields_took : (size : ℕ) (bytes : List ℕ) (format : ℕ × List ℕ) (id : List ℕ × List ℕ) (client version : ℕ × List ℕ) (r : Record) → IsBytes bytes → length bytes + 48 ≡ size
    → number_at w16 bytes ≡ Some format → front_at 16 format.1 ≡ Some id → number_at w32 id.1 ≡ Some client → number_at w64 client.1 ≡ Some version
    → made format.0 id.0 client.0 version ≡ Some r → FitsFile size r × (bytes ≡ text_of r)
fields_took size bytes format id client version r fits len is_format is_id is_client is_version e =
    let first = number_takes wide16 bytes format fits is_format in
    let second = front_takes 16 format.1 id first.0.rest_fits is_id in
    let third = number_takes wide32 id.1 client second.0.rest_fits is_client in
    let fourth = number_takes wide64 client.1 version third.0.rest_fits is_version in
    let last = if_some _ _ r e in
    let tests = and_parts _ _ last.0 in
    let more = and_parts _ _ tests.0 in
    let one : format.0 ≡ 1 = eqb-true _ _ more.0 in
    let found : Record = record { id = id.0; client = client.0; version = version.0; payload = version.1 } in
    let text : bytes ≡ text_of found =
    first.0.parts ∙ ap (λ n. to_le_bytes w16 n ++ format.1) one ∙ ap (λ x. to_le_bytes w16 1 ++ x) (second.0.parts ∙ ap (λ x. id.0 ++ x) (third.0.parts ∙ ap (λ x. to_le_bytes w32 client.0 ++ x) fourth.0.parts)) in
    let whole : FitsFile size found = record {
      id = second.1;
      client = ltb-true _ _ more.1;
      client_fits = third.1;
      version = ltb-true _ _ tests.1;
      version_fits = fourth.1;
      payload = omega (arith, len, ap length text, length-text found second.1);
    } in
    subst (λ (s : Record). FitsFile size s × (bytes ≡ text_of s)) last.1 (whole, text)

from_took : (size : ℕ) (bytes : List ℕ) (r : Record) → IsBytes bytes → length bytes + 48 ≡ size → record_from bytes ≡ Some r → FitsFile size r × (bytes ≡ text_of r)
unfolding record_from
from_took size bytes r fits len e =
    let format = bound (number_at w16 bytes) after_format r e in
    let id = bound (front_at 16 format.0.1) (after_id format.0.0) r format.2 in
    let client = bound (number_at w32 id.0.1) (after_client format.0.0 id.0.0) r id.2 in
    let version = bound (number_at w64 client.0.1) (made format.0.0 id.0.0 client.0.0) r client.2 in
    fields_took size bytes format.0 id.0 client.0 version.0 r fits len format.1 id.1 client.1 version.1 version.2

pub record_took : (size : ℕ) (bytes : List ℕ) (r : Record) → IsBytes bytes → record_of size bytes ≡ Some r → FitsFile size r × (bytes ≡ text_of r)
record_took size bytes r fits e = let whole = record-fits size bytes r e in from_took size bytes r fits whole.0 whole.1

-- ---- the head alone

-- a payload that was taken off is what stands behind the head
pub head_alone : (bytes payload : List ℕ) (head : Head) → Some (with_payload head payload) ≡ record_from bytes
    → (Some (with_payload head (drop 30 bytes)) ≡ record_from bytes) × (30 ≤ length bytes)
head_alone bytes payload head e =
    let behind = from-payload bytes (with_payload head payload) (sym e) in
    (ap (λ p. Some (with_payload head p)) (sym behind.1) ∙ e, behind.0)
