-- A file that opens to a record: how long it is, and how long its payload.
use Rattle.std.specs.Prelude.{◌≡◌, ◌≤◌, ℕ, ◌+◌, Bool, true, false, List, Option, Some, None, is_some, if◌then◌else◌, ◌-◌, ◌==◌, take, drop, length, nat_lt}
use Rattle.std.specs.Int.{Width, w16, w32, w64, byte_len, from_le_bytes}
use Rattle.std.proofs.Common.{refl, ◌∙◌, sym, ap, subst, arith, length-drop}
use Rattle.std.proofs.lemmas.Bool.{ltb-false}
use Rattle.std.proofs.lemmas.Bool.Decides.{Decides-eqb}
use Rattle.std.proofs.lemmas.List.{drop-drop, length-replicate, take_all}
use Rattle.std.proofs.lemmas.Option.{same_Some}
use Rattle.byte_fields.specs.Fields.{front_at, number_at}
use Rattle.byte_fields.proofs.Fields.{bound, some_behind}
use Rattle.sealed_store.specs.declared.sealed_store.TheConstants.{SEAL_LEN}
use Rattle.block_id.specs.declared.format.Format.{Format}
use Rattle.block_id.specs.Formats.{extra_of, format_in}
use Rattle.sealed_store.specs.BlockFiles.{OpensAlike, opened_as, opens_file}
use Rattle.block_versions.specs.declared.block_record.TheConstants.{HEAD_LEN, OVERHEAD}
use Rattle.block_versions.specs.BlockRecords.{Record, opened, payload_of, record_from, record_in, record_of}

true_is_false : true ≡ false → ⊥
true_is_false e = cc

-- nothing is no value
pub none_is_some : {A B : Type 0} {x : A} → None ≡ Some x → B
none_is_some {B = B} e = absurd (true_is_false (ap is_some (sym e)))

pub if_true : {A : Type 0} (b : Bool) (o : Option A) (p : A) → (if b then o else None) ≡ Some p → (b ≡ true) × (o ≡ Some p)
if_true true o p e = (refl, e)
if_true false o p e = none_is_some e

-- a file that opens is as long as a block
pub opens-length : (opens : List ℕ → List ℕ → Option (List ℕ)) (size : ℕ) (id bytes plain : List ℕ) → opens_file opens size id bytes ≡ Some plain → length bytes ≡ size
opens-length opens size id bytes plain is = (Decides-eqb (length bytes) size).0 (if_true _ _ _ is).0

as_alike : (opens : List ℕ → List ℕ → Option (List ℕ)) (id other rest plain again : List ℕ) (f : Option Format) → OpensAlike opens
    → opened_as opens id rest f ≡ Some plain → opened_as opens other rest f ≡ Some again → plain ≡ again
as_alike opens id other rest plain again None alike e k = none_is_some e
as_alike opens id other rest plain again (Some f) alike e k = alike (extra_of f id) (extra_of f other) rest plain again e k

-- whatever block's file it is opened as, it opens to one plaintext
pub opens-alike : (opens : List ℕ → List ℕ → Option (List ℕ)) (size : ℕ) (id other bytes plain again : List ℕ) → OpensAlike opens
    → opens_file opens size id bytes ≡ Some plain → opens_file opens size other bytes ≡ Some again → plain ≡ again
opens-alike opens size id other bytes plain again alike e k =
    as_alike opens id other (drop 16 bytes) plain again (format_in bytes) alike (if_true _ _ _ e).1 (if_true _ _ _ k).1

plain_of : (size : ℕ) (o : Option (List ℕ)) (r : Record) → record_in size o ≡ Some r → (plain : List ℕ) × (o ≡ Some plain) × (record_of size plain ≡ Some r)
plain_of size None r e = none_is_some e
plain_of size (Some plain) r e = (plain, refl, e)

-- a file that opens to a record opens
pub opened-plain : (opens : List ℕ → List ℕ → Option (List ℕ)) (size : ℕ) (id bytes : List ℕ) (r : Record) → opened opens size id bytes ≡ Some r
    → (plain : List ℕ) × (opens_file opens size id bytes ≡ Some plain) × (record_of size plain ≡ Some r)
opened-plain opens size id bytes r e = plain_of size (opens_file opens size id bytes) r e

pub record_same : {a b : Record} → Some a ≡ Some b → a ≡ b
record_same e = cc

-- whatever block's file it is opened as, it opens to one record
pub opened-alike : (opens : List ℕ → List ℕ → Option (List ℕ)) (size : ℕ) (id other bytes : List ℕ) (r s : Record) → OpensAlike opens
    → opened opens size id bytes ≡ Some r → opened opens size other bytes ≡ Some s → r ≡ s
opened-alike opens size id other bytes r s alike e k =
    let p = opened-plain opens size id bytes r e in
    let q = opened-plain opens size other bytes s k in
    record_same (sym p.2 ∙ ap (record_of size) (opens-alike opens size id other bytes p.0 q.0 alike p.1 q.1) ∙ q.2)

-- ---- the parts of a record

-- these stand behind so many bytes
abbrev pub IsBehind : ℕ → List ℕ → List ℕ → Type 0
IsBehind n bytes rest = (n ≤ length bytes) × (rest ≡ drop n bytes)

behind_then : (n m : ℕ) (bytes rest after : List ℕ) → IsBehind n bytes rest → IsBehind m rest after → IsBehind (n + m) bytes after
behind_then n m bytes rest after p q = (omega (arith, p.0, q.0, ap length p.1, length-drop n bytes), q.1 ∙ ap (drop m) p.1 ∙ drop-drop m n bytes)

number_behind : (w : Width) (bytes : List ℕ) (x : ℕ × List ℕ) → number_at w bytes ≡ Some x → IsBehind (byte_len w) bytes x.1
unfolding number_at
number_behind w bytes x e =
    let found = some_behind (nat_lt (length bytes) (byte_len w)) (Some (from_le_bytes w (take (byte_len w) bytes), drop (byte_len w) bytes)) x e in
    (ltb-false _ _ found.0, ap (λ (y : ℕ × List ℕ). y.1) (sym (same_Some _ _ found.1)))

front_behind : (n : ℕ) (bytes : List ℕ) (x : List ℕ × List ℕ) → front_at n bytes ≡ Some x → IsBehind n bytes x.1
unfolding front_at
front_behind n bytes x e =
    let found = some_behind (nat_lt (length bytes) n) (Some (take n bytes, drop n bytes)) x e in
    (ltb-false _ _ found.0, ap (λ (y : List ℕ × List ℕ). y.1) (sym (same_Some _ _ found.1)))

pub if_some : (b : Bool) (r s : Record) → (if b then Some r else None) ≡ Some s → (b ≡ true) × (r ≡ s)
if_some true r s e = (refl, record_same e)
if_some false r s e = none_is_some e

-- the payload of a record is what stands behind its head
pub from-payload : (bytes : List ℕ) (r : Record) → record_from bytes ≡ Some r → IsBehind HEAD_LEN bytes r.payload
unfolding record_from
from-payload bytes r e =
    let format = bound (number_at w16 bytes) _ r e in
    let id = bound (front_at 16 format.0.1) _ r format.2 in
    let client = bound (number_at w32 id.0.1) _ r id.2 in
    let version = bound (number_at w64 client.0.1) _ r client.2 in
    let last = if_some _ _ r version.2 in
    let one = behind_then 2 16 bytes format.0.1 id.0.1 (number_behind w16 bytes format.0 format.1) (front_behind 16 format.0.1 id.0 id.1) in
    let two = behind_then 4 8 id.0.1 client.0.1 version.0.1 (number_behind w32 id.0.1 client.0 client.1) (number_behind w64 client.0.1 version.0 version.1) in
    let whole = behind_then 18 12 bytes id.0.1 version.0.1 one two in
    subst (λ (s : Record). IsBehind 30 bytes s.payload) last.1 whole

-- a record of a file is as long as the file has room for it
pub record-fits : (size : ℕ) (bytes : List ℕ) (r : Record) → record_of size bytes ≡ Some r → (length bytes + SEAL_LEN ≡ size) × (record_from bytes ≡ Some r)
unfolding record_of
record-fits size bytes r e =
    let found = if_true (length bytes + 48 == size) (record_from bytes) r e in
    ((Decides-eqb (length bytes + 48) size).0 found.0, found.1)

pub record-payload : (size : ℕ) (bytes : List ℕ) (r : Record) → record_of size bytes ≡ Some r → (length bytes + SEAL_LEN ≡ size) × IsBehind HEAD_LEN bytes r.payload
record-payload size bytes r e = let fits = record-fits size bytes r e in (fits.0, from-payload bytes r fits.1)

pub record-length : (size : ℕ) (bytes : List ℕ) (r : Record) → record_of size bytes ≡ Some r → length r.payload ≡ size - OVERHEAD
record-length size bytes r e =
    let (len, behind) = record-payload size bytes r e in
    omega (arith, len, behind.0, ap length behind.1, length-drop 30 bytes)

pub opened_len : (size : ℕ) (opens : List ℕ → List ℕ → Option (List ℕ)) (id bytes : List ℕ) (o : Option Record) → opened opens size id bytes ≡ o → length (payload_of size o) ≡ size - OVERHEAD
opened_len size opens id bytes None e = length-replicate (size - OVERHEAD) 0
opened_len size opens id bytes (Some r) e = let p = opened-plain opens size id bytes r e in record-length size p.0 r p.2

-- asked for with one byte more than a block has, it comes whole
pub cut_whole : (opens : List ℕ → List ℕ → Option (List ℕ)) (size : ℕ) (id bytes : List ℕ) (r : Record) → opened opens size id bytes ≡ Some r → take (size + 1) bytes ≡ bytes
cut_whole opens size id bytes r o =
    let p = opened-plain opens size id bytes r o in
    take_all (size + 1) bytes (omega (arith, opens-length opens size id bytes p.0 p.1))
