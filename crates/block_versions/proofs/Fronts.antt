-- A record's head and the front of its payload are read as the whole is, and judged so.
use Rattle.std.specs.Prelude.{◌≡◌, ◌≤◌, ℕ, ◌+◌, Bool, true, false, ◌==◌, ◌&&◌, List, Option, Some, None, option_and_then, if◌then◌else◌, length, take, drop, nat_lt}
use Rattle.std.specs.Int.{Width, w16, w32, w64, byte_len, from_le_bytes}
use Rattle.std.specs.Option.{option_map}
use Rattle.std.specs.Str.{bytes_eq}
use Rattle.std.proofs.Common.{refl, ◌∙◌, sym, ap, subst, arith, inl, inr}
use Rattle.std.proofs.lemmas.Bool.{cases_lt, le-ltb, lt-ltb}
use Rattle.std.proofs.lemmas.List.{drop-take, length-take, take-take, take_all}
use Rattle.block_id.specs.declared.fail.Why.TheVariants.{WrongId, ForeignClient, OldVersion, AheadVersion}
use Rattle.byte_fields.specs.Fields.{front_at, number_at}
use Rattle.sealed_store.specs.BlockFiles.{SeenFile, IsWhole, absent, bad_length, bad_prefix, front_seen, not_opened, old_format, plain}
use Rattle.block_versions.specs.BlockRecords.{Record, ◌>>=◌, record_from, record_of}
use Rattle.block_versions.proofs.Judging.{judged_good}
use Rattle.block_versions.specs.RecordLaws.{record-length}
use Rattle.block_versions.specs.Verdicts.{Verdict, bad, front_verdict, good, judged, judged_by, judged_record}
use Rattle.block_versions.proofs.Records.{after_client, after_format, after_id, made, of_whole}

-- ---- a field at the front

-- what is left behind a field, and no more than so much of it
abbrev cut_behind : {A : Type 0} → ℕ → A × List ℕ → A × List ℕ
cut_behind n x = (x.0, take n x.1)

same_test : (k n : ℕ) (bytes : List ℕ) → nat_lt (length (take (k + n) bytes)) k ≡ nat_lt (length bytes) k
same_test k n bytes = elim (cases_lt (length bytes) k) [
  | inl short ↦ lt-ltb (length (take (k + n) bytes)) k (omega (arith, short, length-take (k + n) bytes)) ∙ sym (lt-ltb (length bytes) k short)
  | inr long ↦ le-ltb (length (take (k + n) bytes)) k (omega (arith, long, length-take (k + n) bytes)) ∙ sym (le-ltb (length bytes) k long)
]

cut_field : {A : Type 0} (n : ℕ) (few : Bool) (field : A) (rest : List ℕ) → (if few then None else Some (field, take n rest)) ≡ option_map (cut_behind n) (if few then None else Some (field, rest))
cut_field n true field rest = refl
cut_field n false field rest = refl

-- any field of k bytes
field_front : {A : Type 0} (f : List ℕ → A) (k n : ℕ) (bytes : List ℕ)
    → (if nat_lt (length (take (k + n) bytes)) k then None else Some (f (take k (take (k + n) bytes)), drop k (take (k + n) bytes)))
    ≡ option_map (cut_behind n) (if nat_lt (length bytes) k then None else Some (f (take k bytes), drop k bytes))
field_front f k n bytes =
    (λ i. if same_test k n bytes i then None else Some (f (take-take k (k + n) bytes (omega arith) i), drop-take k n bytes i))
    ∙ cut_field n (nat_lt (length bytes) k) (f (take k bytes)) (drop k bytes)

number_front : (w : Width) (k n : ℕ) (bytes : List ℕ) → byte_len w ≡ k → number_at w (take (k + n) bytes) ≡ option_map (cut_behind n) (number_at w bytes)
unfolding number_at
number_front w k n bytes is = subst (λ k. number_at w (take (k + n) bytes) ≡ option_map (cut_behind n) (number_at w bytes)) is (field_front (from_le_bytes w) (byte_len w) n bytes)

some_front : (k n : ℕ) (bytes : List ℕ) → front_at k (take (k + n) bytes) ≡ option_map (cut_behind n) (front_at k bytes)
unfolding front_at
some_front k n bytes = field_front (λ l. l) k n bytes

-- ---- the record

-- of a record's payload its first bytes
abbrev pub front_record : ℕ → Record → Record
front_record n r = record { id = r.id; client = r.client; version = r.version; payload = take n r.payload }

-- one field after another
on_front : {A B : Type 0} (o : Option A) (g : A → A) (f : A → Option B) (later : A → Option B) (h : B → B) → ((x : A) → f (g x) ≡ option_map h (later x))
    → option_and_then f (option_map g o) ≡ option_map h (option_and_then later o)
on_front None g f later h same = refl
on_front (Some x) g f later h same = same x

made_front : (n : ℕ) (may : Bool) (r : Record) → (if may then Some (front_record n r) else None) ≡ option_map (front_record n) (if may then Some r else None)
made_front n true r = refl
made_front n false r = refl

version_front : (n format client : ℕ) (id : List ℕ) (version : ℕ × List ℕ) → made format id client (cut_behind n version) ≡ option_map (front_record n) (made format id client version)
version_front n format client id version =
    made_front n (format == 1 && nat_lt 0 client && nat_lt 0 version.0) (record { id = id; client = client; version = version.0; payload = version.1 })

client_front : (n format : ℕ) (id : List ℕ) (client : ℕ × List ℕ) → after_client format id (cut_behind (8 + n) client) ≡ option_map (front_record n) (after_client format id client)
client_front n format id client =
    ap (λ o. o >>= made format id client.0) (number_front w64 8 n client.1 refl)
    ∙ on_front (number_at w64 client.1) (cut_behind n) (made format id client.0) (made format id client.0) (front_record n) (version_front n format client.0 id)

id_front : (n format : ℕ) (id : List ℕ × List ℕ) → after_id format (cut_behind (4 + (8 + n)) id) ≡ option_map (front_record n) (after_id format id)
id_front n format id =
    ap (λ o. o >>= after_client format id.0) (number_front w32 4 (8 + n) id.1 refl)
    ∙ on_front (number_at w32 id.1) (cut_behind (8 + n)) (after_client format id.0) (after_client format id.0) (front_record n) (client_front n format id.0)

format_front : (n : ℕ) (format : ℕ × List ℕ) → after_format (cut_behind (16 + (4 + (8 + n))) format) ≡ option_map (front_record n) (after_format format)
format_front n format =
    ap (λ o. o >>= after_id format.0) (some_front 16 (4 + (8 + n)) format.1)
    ∙ on_front (front_at 16 format.1) (cut_behind (4 + (8 + n))) (after_id format.0) (after_id format.0) (front_record n) (id_front n format.0)

-- the head and the front of the payload are read as the record of that front
pub record_front : (n : ℕ) (bytes : List ℕ) → record_from (take (30 + n) bytes) ≡ option_map (front_record n) (record_from bytes)
unfolding record_from
record_front n bytes =
    let parts : 30 + n ≡ 2 + (16 + (4 + (8 + n))) = omega arith in
    ap (λ k. number_at w16 (take k bytes) >>= after_format) parts
    ∙ ap (λ o. o >>= after_format) (number_front w16 2 (16 + (4 + (8 + n))) bytes refl)
    ∙ on_front (number_at w16 bytes) (cut_behind (16 + (4 + (8 + n)))) after_format after_format (front_record n) (format_front n)

-- ---- the verdict

front_if : (n : ℕ) (b : Bool) (x y : Verdict) → (if b then front_verdict n x else front_verdict n y) ≡ front_verdict n (if b then x else y)
front_if n true x y = refl
front_if n false x y = refl

by_version : (n known : ℕ) (r : Record)
    → (if r.version == known then good (take n r.payload) else (if nat_lt r.version known then bad (OldVersion known r.version) else bad (AheadVersion known r.version)))
    ≡ front_verdict n (if r.version == known then good r.payload else (if nat_lt r.version known then bad (OldVersion known r.version) else bad (AheadVersion known r.version)))
by_version n known r =
    ap (λ v. if r.version == known then good (take n r.payload) else v) (front_if n (nat_lt r.version known) (bad (OldVersion known r.version)) (bad (AheadVersion known r.version)))
    ∙ front_if n (r.version == known) (good r.payload) (if nat_lt r.version known then bad (OldVersion known r.version) else bad (AheadVersion known r.version))

record_judged : (n : ℕ) (id : List ℕ) (client known : ℕ) (o : Option Record) → judged_record id client known (option_map (front_record n) o) ≡ front_verdict n (judged_record id client known o)
record_judged n id client known None = refl
record_judged n id client known (Some r) =
    let version = if r.version == known then good r.payload else (if nat_lt r.version known then bad (OldVersion known r.version) else bad (AheadVersion known r.version)) in
    let of_client = if r.client == client then version else bad (ForeignClient r.client) in
    ap (λ v. if bytes_eq r.id id then (if r.client == client then v else bad (ForeignClient r.client)) else bad (WrongId (record { 0 = r.id }))) (by_version n known r)
    ∙ ap (λ v. if bytes_eq r.id id then v else bad (WrongId (record { 0 = r.id }))) (front_if n (r.client == client) version (bad (ForeignClient r.client)))
    ∙ front_if n (bytes_eq r.id id) of_client (bad (WrongId (record { 0 = r.id })))

-- the front of a plaintext that fills its file is judged as the whole, of its payload the front
pub front_judged : (size n : ℕ) (id : List ℕ) (client known : ℕ) (whole : SeenFile) → IsWhole size whole
    → judged_by record_from id client known (front_seen (30 + n) whole) ≡ front_verdict n (judged size id client known whole)
front_judged size n id client known absent fits = refl
front_judged size n id client known bad_length fits = refl
front_judged size n id client known bad_prefix fits = refl
front_judged size n id client known old_format fits = refl
front_judged size n id client known not_opened fits = refl
front_judged size n id client known (plain bytes) fits =
    ap (judged_record id client known) (record_front n bytes) ∙ record_judged n id client known (record_from bytes)
    ∙ ap (λ o. front_verdict n (judged_record id client known o)) (sym (of_whole size bytes fits))

-- ---- a front that is whole

pub whole_seen : (size n : ℕ) (whole : SeenFile) → IsWhole size whole → size ≤ 78 + n → front_seen (30 + n) whole ≡ whole
whole_seen size n absent fits long = refl
whole_seen size n bad_length fits long = refl
whole_seen size n bad_prefix fits long = refl
whole_seen size n old_format fits long = refl
whole_seen size n not_opened fits long = refl
whole_seen size n (plain bytes) fits long = ap plain (take_all (30 + n) bytes (omega (arith, fits, long)))

record_whole : (size n : ℕ) (id bytes : List ℕ) (client known : ℕ) → size ≤ 78 + n
    → front_verdict n (judged_record id client known (record_of size bytes)) ≡ judged_record id client known (record_of size bytes)
record_whole size n id bytes client known long =
    elim (judged_record id client known (record_of size bytes)) as (λ v. judged_record id client known (record_of size bytes) ≡ v → front_verdict n v ≡ v) [
      | good payload ↦ λ e. ap good (take_all n payload (omega (arith, long, record-length size bytes _ (judged_good id client known (record_of size bytes) payload e))))
      | bad why ↦ λ e. refl
    ] refl

pub whole_judged : (size n : ℕ) (id : List ℕ) (client known : ℕ) (whole : SeenFile) → size ≤ 78 + n → front_verdict n (judged size id client known whole) ≡ judged size id client known whole
whole_judged size n id client known absent long = refl
whole_judged size n id client known bad_length long = refl
whole_judged size n id client known bad_prefix long = refl
whole_judged size n id client known old_format long = refl
whole_judged size n id client known not_opened long = refl
whole_judged size n id client known (plain bytes) long = record_whole size n id bytes client known long
