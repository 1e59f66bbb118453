-- The record of its own id, client and version is good, and what is good isn't bad.
use Rattle.std.specs.Prelude.{◌≡◌, ℕ, Bool, true, false, ◌==◌, List, length, drop, is_some, nat_lt, if◌then◌else◌}
use Rattle.std.proofs.Common.{refl, ◌∙◌, ap}
use Rattle.std.proofs.lemmas.Bool.Decides.{Decides-eqb}
use Rattle.std.proofs.lemmas.Slice.Eq.{bytes_eq-Decides}
use Rattle.std.specs.declared.option.Option.{Option}
use Rattle.std.specs.declared.option.Option.TheVariants.{None, Some}
use Rattle.block_id.specs.declared.fail.Why.{Why}
use Rattle.block_id.specs.declared.format.Format.{Format}
use Rattle.block_id.specs.Formats.{IsTaken, extra_of, format_in, number_of}
use Rattle.sealed_store.specs.BlockFiles.{bad_length, old_format, opened_as, seen_as, seen_file_of_plain}
use Rattle.block_versions.specs.BlockRecords.{Record, opened, record_in}
use Rattle.block_versions.specs.Verdicts.{bad, good, judged, judged_record, verdict}

false_is_true : false ≡ true → ⊥
false_is_true e = cc

some_format : {a b : Format} → Some a ≡ Some b → a ≡ b
some_format e = cc

pub bad_is_good : {why : Why} {p : List ℕ} → bad why ≡ good p → ⊥
bad_is_good e = cc

judged_plain : (size : ℕ) (id : List ℕ) (client known : ℕ) (o : Option (List ℕ)) (r : Record) → record_in size o ≡ Some r → judged size id client known (seen_file_of_plain o) ≡ judged_record id client known (Some r)
judged_plain size id client known (Some p) r e = ap (judged_record id client known) e
judged_plain size id client known None r e = absurd (false_is_true (ap is_some e))

judged_as : (opens : List ℕ → List ℕ → Option (List ℕ)) (size least : ℕ) (id rest : List ℕ) (client known : ℕ) (f : Option Format) (g : Format) (r : Record) → f ≡ Some g → nat_lt (number_of g) least ≡ false
    → record_in size (opened_as opens id rest f) ≡ Some r → judged size id client known (seen_as opens least id rest f) ≡ judged_record id client known (Some r)
judged_as opens size least id rest client known None g r is taken e = absurd (false_is_true (ap is_some is))
judged_as opens size least id rest client known (Some f) g r is taken e =
    let same : nat_lt (number_of f) least ≡ false = ap (λ n. nat_lt (number_of n) least) (some_format is) ∙ taken in
    ap (λ b. judged size id client known (if b then old_format else seen_file_of_plain (opens (extra_of f id) rest))) same ∙ judged_plain size id client known (opens (extra_of f id) rest) r e

judged_seen : (opens : List ℕ → List ℕ → Option (List ℕ)) (size least : ℕ) (id rest : List ℕ) (client known : ℕ) (a : Bool) (f : Option Format) (g : Format) (r : Record) → f ≡ Some g → nat_lt (number_of g) least ≡ false
    → record_in size (if a then opened_as opens id rest f else None) ≡ Some r
    → judged size id client known (if a then seen_as opens least id rest f else bad_length) ≡ judged_record id client known (Some r)
judged_seen opens size least id rest client known true f g r is taken e = judged_as opens size least id rest client known f g r is taken e
judged_seen opens size least id rest client known false f g r is taken e = absurd (false_is_true (ap is_some e))

own_good : (id : List ℕ) (client version : ℕ) (payload : List ℕ) → judged_record id client version (Some (record { id = id; client = client; version = version; payload = payload })) ≡ good payload
own_good id client version payload = rw ((bytes_eq-Decides id id).1 refl, (Decides-eqb client client).1 refl, (Decides-eqb version version).1 refl) refl

-- a file that opens to the own record, of a format that is taken, is good
pub opened_good : (opens : List ℕ → List ℕ → Option (List ℕ)) (size : ℕ) (id : List ℕ) (client version least : ℕ) (bytes payload : List ℕ) → IsTaken least bytes
    → opened opens size id bytes ≡ Some (record { id = id; client = client; version = version; payload = payload })
    → verdict opens size id client version least (Some bytes) ≡ good payload
opened_good opens size id client version least bytes payload t o =
    judged_seen opens size least id (drop 16 bytes) client version (length bytes == size) (format_in bytes) t.format _ t.is t.taken o ∙ own_good id client version payload
