-- How long a record of several clients is, and where it splits.
use Rattle.std.proofs.Common.{◌≡◌, ℕ, ◌-◌, ◌+◌, ◌<◌, ◌≤◌, true, false, List, ◌++◌, length, take, drop, refl, sym, ap, ◌∙◌, arith}
use Rattle.std.specs.Prelude.{Some, None, nat_eq, if◌then◌else◌}
use Rattle.std.specs.List.{starts_with}
use Rattle.std.specs.Cmp.Lexicographic.{bytes_decides}
use Rattle.std.proofs.lemmas.List.{take-append-drop, take_all, length-drop}
use Rattle.outside.specs.Plain.{shared_magic}
use Rattle.local_state.specs.Reading.{◌>>=◌}
use Rattle.local_state.proofs.Fields.{bind_some, guard_some}
use Rattle.shared_records.specs.Scan.{are_others, front_past, split_at}

-- it is longer than what it begins with
pub split_long : (bytes : List ℕ) (n : ℕ) → split_at bytes ≡ Some n → 17 < length bytes
unfolding split_at
split_long bytes n e =
    elim (starts_with nat_eq bytes shared_magic) as (λ b. starts_with nat_eq bytes shared_magic ≡ b → (if b then (front_past (drop 19 bytes) >>= (λ front. if are_others front.0 front.1 then Some (length bytes - length front.1) else None)) else None) ≡ Some n → 17 < length bytes) [
      | true ↦ λ is e.
          let whole : bytes ≡ shared_magic ++ drop 19 bytes = sym (ap (λ (x : List ℕ). x ++ drop 19 bytes) ((bytes_decides shared_magic (take 19 bytes)).0 is) ∙ take-append-drop 19 bytes) in
          let long : length bytes ≡ length (shared_magic ++ drop 19 bytes) = ap length whole in
          omega (arith, long)
      | false ↦ λ is e. absurd (cc)
    ] refl e

-- it splits within it
pub split_within : (bytes : List ℕ) (n : ℕ) → split_at bytes ≡ Some n → n ≤ length bytes
unfolding split_at
split_within bytes n e =
    elim (starts_with nat_eq bytes shared_magic) as (λ b. (if b then (front_past (drop 19 bytes) >>= (λ front. if are_others front.0 front.1 then Some (length bytes - length front.1) else None)) else None) ≡ Some n → n ≤ length bytes) [
      | true ↦ λ e.
          let a = bind_some (front_past (drop 19 bytes)) (λ front. if are_others front.0 front.1 then Some (length bytes - length front.1) else None) n e in
          let g = guard_some (are_others a.0.0 a.0.1) (length bytes - length a.0.1) n a.2 in
          omega (arith, sym g.1)
      | false ↦ λ e. absurd (cc)
    ] e

-- a slice from a place on is what stands there
pub part_is : (bytes : List ℕ) (from : ℕ) → take (length bytes - from) (drop from bytes) ≡ drop from bytes
part_is bytes from = take_all (length bytes - from) (drop from bytes) (omega (arith, length-drop from bytes))
