-- What a verdict says: a good file opens to the record, and none speaks of a structure.
use Rattle.std.specs.Prelude.{◌≡◌, ℕ, Bool, true, false, List, [], if◌then◌else◌, ◌-◌, ◌==◌, length, drop, nat_lt}
use Rattle.std.specs.Str.{bytes_eq}
use Rattle.std.specs.declared.option.Option.{Option}
use Rattle.std.specs.declared.option.Option.TheVariants.{None, Some}
use Rattle.std.proofs.Common.{refl, sym, ap}
use Rattle.std.proofs.lemmas.Bool.Decides.{Decides-eqb}
use Rattle.std.proofs.lemmas.Slice.Eq.{bytes_eq-Decides}
use Rattle.block_id.specs.declared.fail.Why.TheVariants.{WrongId, ForeignClient, OldVersion, AheadVersion, Structure}
use Rattle.block_id.specs.declared.format.Format.{Format}
use Rattle.block_id.specs.Formats.{extra_of, format_in, number_of}
use Rattle.sealed_store.specs.BlockFiles.{SeenFile, absent, bad_length, bad_prefix, old_format, not_opened, opened_as, plain, seen_as, seen_file_of_plain}
use Rattle.block_versions.specs.BlockRecords.{Record, opened, record_in, record_of}
use Rattle.block_versions.specs.RecordLaws.{opened-plain, record-length}
use Rattle.block_versions.specs.VerdictLaws.{bad_is_good}
use Rattle.block_versions.specs.Verdicts.{Verdict, bad, good, judged, judged_record, verdict}

false_is_true : false ≡ true → ⊥
false_is_true e = cc

payload_out : Verdict → List ℕ
payload_out (good p) = p
payload_out (bad why) = []

abbrev by_version : Record → ℕ → Verdict
by_version r known = if r.version == known then good r.payload else (if nat_lt r.version known then bad (OldVersion known r.version) else bad (AheadVersion known r.version))

abbrev by_client : Record → ℕ → ℕ → Verdict
by_client r client known = if r.client == client then by_version r known else bad (ForeignClient r.client)

by_version_good : (r : Record) (known : ℕ) (payload : List ℕ) → by_version r known ≡ good payload → (r.version ≡ known) × (r.payload ≡ payload)
unfolding payload_out
by_version_good r known payload is =
    elim (r.version == known) as (λ v. (r.version == known) ≡ v → (if v then good r.payload else (if nat_lt r.version known then bad (OldVersion known r.version) else bad (AheadVersion known r.version))) ≡ good payload
    → (r.version ≡ known) × (r.payload ≡ payload)) [
      | true ↦ λ same e. ((Decides-eqb r.version known).0 same, ap payload_out e)
      | false ↦ λ same e. absurd (elim (nat_lt r.version known) as (λ v. (if v then bad (OldVersion known r.version) else bad (AheadVersion known r.version)) ≡ good payload → ⊥) [
        | true ↦ λ e. bad_is_good e
        | false ↦ λ e. bad_is_good e
      ] e)
    ] refl is

by_client_good : (r : Record) (client known : ℕ) (payload : List ℕ) → by_client r client known ≡ good payload → (r.client ≡ client) × (r.version ≡ known) × (r.payload ≡ payload)
by_client_good r client known payload is =
    elim (r.client == client) as (λ v. (r.client == client) ≡ v → (if v then by_version r known else bad (ForeignClient r.client)) ≡ good payload
    → (r.client ≡ client) × (r.version ≡ known) × (r.payload ≡ payload)) [
      | true ↦ λ same e. let q = by_version_good r known payload e in ((Decides-eqb r.client client).0 same, q.0, q.1)
      | false ↦ λ same e. absurd (bad_is_good e)
    ] refl is

pub judged_good : (id : List ℕ) (client version : ℕ) (r : Option Record) (payload : List ℕ) → judged_record id client version r ≡ good payload
    → r ≡ Some (record { id = id; client = client; version = version; payload = payload })
judged_good id client version None payload is = absurd (bad_is_good is)
judged_good id client version (Some r) payload is =
    elim (bytes_eq r.id id) as (λ v. bytes_eq r.id id ≡ v → (if v then by_client r client version else bad (WrongId (record { 0 = r.id }))) ≡ good payload
    → Some r ≡ Some (record { id = id; client = client; version = version; payload = payload })) [
      | true ↦ λ same e. let p = (bytes_eq-Decides r.id id).0 same in let q = by_client_good r client version payload e in
          λ i. Some (record { id = p i; client = q.0 i; version = q.1 i; payload = q.2 i })
      | false ↦ λ same e. absurd (bad_is_good e)
    ] refl is

plain_judged : (size : ℕ) (id : List ℕ) (client known : ℕ) (o : Option (List ℕ)) (payload : List ℕ) → judged size id client known (seen_file_of_plain o) ≡ good payload
    → judged_record id client known (record_in size o) ≡ good payload
plain_judged size id client known (Some p) payload e = e
plain_judged size id client known None payload e = absurd (bad_is_good e)

old_judged : (size : ℕ) (id : List ℕ) (client known : ℕ) (b : Bool) (o : Option (List ℕ)) (payload : List ℕ) → judged size id client known (if b then old_format else seen_file_of_plain o) ≡ good payload
    → judged_record id client known (record_in size o) ≡ good payload
old_judged size id client known true o payload e = absurd (bad_is_good e)
old_judged size id client known false o payload e = plain_judged size id client known o payload e

as_judged : (opens : List ℕ → List ℕ → Option (List ℕ)) (size least : ℕ) (id rest : List ℕ) (client known : ℕ) (f : Option Format) (payload : List ℕ)
    → judged size id client known (seen_as opens least id rest f) ≡ good payload → judged_record id client known (record_in size (opened_as opens id rest f)) ≡ good payload
as_judged opens size least id rest client known None payload e = absurd (bad_is_good e)
as_judged opens size least id rest client known (Some f) payload e = old_judged size id client known (nat_lt (number_of f) least) (opens (extra_of f id) rest) payload e

seen_judged : (opens : List ℕ → List ℕ → Option (List ℕ)) (size least : ℕ) (id rest : List ℕ) (client known : ℕ) (a : Bool) (f : Option Format) (payload : List ℕ)
    → judged size id client known (if a then seen_as opens least id rest f else bad_length) ≡ good payload
    → judged_record id client known (record_in size (if a then opened_as opens id rest f else None)) ≡ good payload
seen_judged opens size least id rest client known true f payload e = as_judged opens size least id rest client known f payload e
seen_judged opens size least id rest client known false f payload e = absurd (bad_is_good e)

-- a good file opens to the id, the client, the version and the payload
pub good_opens : (opens : List ℕ → List ℕ → Option (List ℕ)) (size : ℕ) (id : List ℕ) (client version least : ℕ) (file : Option (List ℕ)) (payload : List ℕ) → verdict opens size id client version least file ≡ good payload
    → (bytes : List ℕ) × (file ≡ Some bytes) × (opened opens size id bytes ≡ Some (record { id = id; client = client; version = version; payload = payload }))
good_opens opens size id client version least None payload is = absurd (bad_is_good is)
good_opens opens size id client version least (Some bytes) payload is = (
  bytes,
  refl,
  judged_good id client version (opened opens size id bytes) payload
      (seen_judged opens size least id (drop 16 bytes) client version (length bytes == size) (format_in bytes) payload is),
)

pub came_len : (opens : List ℕ → List ℕ → Option (List ℕ)) (size : ℕ) (id : List ℕ) (client version least : ℕ) (file : Option (List ℕ)) (payload : List ℕ)
    → verdict opens size id client version least file ≡ good payload → length payload ≡ size - 78
came_len opens size id client version least file payload is =
    let (bytes, same, o) = good_opens opens size id client version least file payload is in
    let p = opened-plain opens size id bytes _ o in
    record-length size p.0 _ p.2

-- ---- no verdict speaks of a structure

by_version_structure : (r : Record) (known : ℕ) → by_version r known ≡ bad Structure → ⊥
by_version_structure r known is =
    elim (r.version == known) as (λ v. (if v then good r.payload else (if nat_lt r.version known then bad (OldVersion known r.version) else bad (AheadVersion known r.version))) ≡ bad Structure → ⊥) [
      | true ↦ λ e. bad_is_good (sym e)
      | false ↦ λ e. elim (nat_lt r.version known) as (λ v. (if v then bad (OldVersion known r.version) else bad (AheadVersion known r.version)) ≡ bad Structure → ⊥) [
        | true ↦ λ e. cc
        | false ↦ λ e. cc
      ] e
    ] is

by_client_structure : (r : Record) (client known : ℕ) → by_client r client known ≡ bad Structure → ⊥
by_client_structure r client known is =
    elim (r.client == client) as (λ v. (if v then by_version r known else bad (ForeignClient r.client)) ≡ bad Structure → ⊥) [
      | true ↦ λ e. by_version_structure r known e
      | false ↦ λ e. cc
    ] is

record_structure : (id : List ℕ) (client version : ℕ) (r : Option Record) → judged_record id client version r ≡ bad Structure → ⊥
record_structure id client version None e = cc
record_structure id client version (Some r) is =
    elim (bytes_eq r.id id) as (λ v. (if v then by_client r client version else bad (WrongId (record { 0 = r.id }))) ≡ bad Structure → ⊥) [
      | true ↦ λ e. by_client_structure r client version e
      | false ↦ λ e. cc
    ] is

pub judged_structure : (size : ℕ) (id : List ℕ) (client version : ℕ) (s : SeenFile) → judged size id client version s ≡ bad Structure → ⊥
judged_structure size id client version absent e = cc
judged_structure size id client version bad_length e = cc
judged_structure size id client version bad_prefix e = cc
judged_structure size id client version old_format e = cc
judged_structure size id client version not_opened e = cc
judged_structure size id client version (plain bytes) e = record_structure id client version (record_of size bytes) e
