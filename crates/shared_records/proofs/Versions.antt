-- Versions of others, read and written.
use Rattle.std.proofs.Common.{◌≡◌, ℕ, zero, suc, ◌-◌, ◌+◌, ◌^◌, ◌<◌, ◌≤◌, Bool, true, false, cond, List, [], ◌∷◌, ◌++◌, length, Option, Some, None, refl, sym, ap, subst, ◌∙◌, append_assoc, arith}
use Rattle.std.specs.Prelude.{◌&&◌, ◌==◌, not}
use Rattle.std.specs.Int.{w32, w64, to_le_bytes}
use Rattle.std.specs.List.{flat_map, AllByRecursion}
use Rattle.std.proofs.lemmas.Bool.{eqb-true, eqb-false, ne_eqb}
use Rattle.std.proofs.lemmas.List.{append-nil, nil_from_length}
use Rattle.std.proofs.lemmas.List.Concat.{flat_map-cons}
use Rattle.block_id.proofs.Conditions.{and_true}
use Rattle.byte_fields.specs.Fields.{IsBytes, front_at, number_at}
use Rattle.byte_fields.proofs.Fields.{Takes, Takes-then, front_takes, front_again, wide32, wide64, number_takes, number_again}
use Rattle.local_state.specs.Reading.{◌>>=◌}
use Rattle.local_state.specs.Versions.{Version}
use Rattle.local_state.proofs.Fields.{bind_some, some_is}
use Rattle.clients_core.specs.Listed.{comes_by, RiseBy, IsInRange, FitsOther, FitsOthers}
use Rattle.shared_records.specs.Scan.{version_at, others_past, is_end, are_others, versions_at, versions_in}
use Rattle.shared_records.specs.Shared.{version_bytes, others_bytes}

-- ---- one version

abbrev version_as : List ℕ → ℕ → ℕ → Version
version_as id client version = record { id = id; client = client; version = version }

abbrev after_client : List ℕ → ℕ × List ℕ → Option (Version × List ℕ)
after_client id client = number_at w64 client.1 >>= (λ version. Some (version_as id client.0 version.0, version.1))

abbrev after_id : List ℕ × List ℕ → Option (Version × List ℕ)
after_id id = number_at w32 id.1 >>= after_client id.0

version_takes : (bytes : List ℕ) (x : Version × List ℕ) → IsBytes bytes → version_at bytes ≡ Some x → Takes bytes (version_bytes x.0) x.1 × IsInRange x.0
unfolding version_at
version_takes bytes x small e =
    let a = bind_some (front_at 16 bytes) after_id x e in
    let b = bind_some (number_at w32 a.0.1) (after_client a.0.0) x a.2 in
    let c = bind_some (number_at w64 b.0.1) (λ version. Some (version_as a.0.0 b.0.0 version.0, version.1)) x b.2 in
    let ta = front_takes 16 bytes a.0 small a.1 in
    let tb = number_takes wide32 a.0.1 b.0 ta.0.rest_fits b.1 in
    let tc = number_takes wide64 b.0.1 c.0 tb.0.rest_fits c.1 in
    let both = Takes-then a.0.1 (to_le_bytes w32 b.0.0) b.0.1 (to_le_bytes w64 c.0.0) c.0.1 tb.0 tc.0 in
    let all = Takes-then bytes a.0.0 a.0.1 (to_le_bytes w32 b.0.0 ++ to_le_bytes w64 c.0.0) c.0.1 ta.0 both in
    let range : IsInRange (version_as a.0.0 b.0.0 c.0.0) = record { id = ta.1; client = tb.1; version = tc.1 } in
    subst (λ (y : Version × List ℕ). Takes bytes (version_bytes y.0) y.1 × IsInRange y.0) (some_is (version_as a.0.0 b.0.0 c.0.0, c.0.1) x c.2) (all, range)

version_again : (v : Version) (rest : List ℕ) → IsInRange v → version_at (version_bytes v ++ rest) ≡ Some (v, rest)
unfolding version_at
version_again v rest range =
    let regrouped : version_bytes v ++ rest ≡ v.id ++ (to_le_bytes w32 v.client ++ (to_le_bytes w64 v.version ++ rest)) =
    append_assoc v.id (to_le_bytes w32 v.client ++ to_le_bytes w64 v.version) rest ∙ ap (λ (x : List ℕ). v.id ++ x) (append_assoc (to_le_bytes w32 v.client) (to_le_bytes w64 v.version) rest) in
    ap (λ (x : List ℕ). front_at 16 x >>= after_id) regrouped
    ∙ rw (
      front_again 16 v.id (to_le_bytes w32 v.client ++ (to_le_bytes w64 v.version ++ rest)) range.id,
      number_again wide32 v.client (to_le_bytes w64 v.version ++ rest) range.client,
      number_again wide64 v.version rest range.version,
    ) refl

-- ---- so many, in order, and none of the own client

guard_then : {A : Type 0} (b : Bool) (o : Option A) (y : A) → cond b o None ≡ Some y → (b ≡ true) × (o ≡ Some y)
guard_then true o y e = (refl, e)
guard_then false o y e = absurd cc

not_true : (b : Bool) → not b ≡ true → b ≡ false
not_true true e = absurd cc
not_true false e = refl

and_so : (a b : Bool) → a ≡ true → b ≡ true → (a && b) ≡ true
and_so true b p q = q
and_so false b p q = absurd cc

abbrev next : ℕ → ℕ → Option Version → Version × List ℕ → Option (List ℕ)
next own n previous v = cond (comes_by previous v.0 && not (v.0.client == own)) (others_past own n (Some v.0) v.1) None

pub record OthersTaken (own n : ℕ) (previous : Option Version) (bytes rest : List ℕ) : Type 0 where
  pub vs : List Version
  pub takes : Takes bytes (flat_map version_bytes vs) rest
  pub count : length vs ≡ n
  pub each : AllByRecursion (FitsOther own) vs
  pub rise : RiseBy previous vs

others_take : (own n : ℕ) (previous : Option Version) (bytes rest : List ℕ) → IsBytes bytes → others_past own n previous bytes ≡ Some rest → OthersTaken own n previous bytes rest
unfolding others_past
others_take own zero previous bytes rest small e =
    subst (λ (r : List ℕ). OthersTaken own 0 previous bytes r) (some_is bytes rest e) (record { vs = []; takes = record { parts = refl; rest_fits = small }; count = refl; each = tt; rise = tt })
others_take own (suc n) previous bytes rest small e =
    let a = bind_some (version_at bytes) (next own n previous) rest e in
    let g = guard_then (comes_by previous a.0.0 && not (a.0.0.client == own)) (others_past own n (Some a.0.0) a.0.1) rest a.2 in
    let tests = and_true (comes_by previous a.0.0) (not (a.0.0.client == own)) g.0 in
    let t = version_takes bytes a.0 small a.1 in
    let m = others_take own n (Some a.0.0) a.0.1 rest t.0.rest_fits g.1 in
    let both = Takes-then bytes (version_bytes a.0.0) a.0.1 (flat_map version_bytes m.vs) rest t.0 m.takes in
    let fits : FitsOther own a.0.0 = record { range = t.1; foreign = eqb-false a.0.0.client own (not_true _ tests.1) } in
    record {
      vs = a.0.0 ∷ m.vs;
      takes = rw flat_map-cons both;
      count = ap suc m.count;
      each = (fits, m.each);
      rise = (tests.0, m.rise);
    }

regroup : (v : Version) (vs : List Version) (rest : List ℕ) → flat_map version_bytes (v ∷ vs) ++ rest ≡ version_bytes v ++ (flat_map version_bytes vs ++ rest)
regroup v vs rest = ap (λ (x : List ℕ). x ++ rest) (flat_map-cons version_bytes v vs) ∙ append_assoc (version_bytes v) (flat_map version_bytes vs) rest

others_again : (own : ℕ) (vs : List Version) (previous : Option Version) (rest : List ℕ) → AllByRecursion (FitsOther own) vs → RiseBy previous vs
    → others_past own (length vs) previous (flat_map version_bytes vs ++ rest) ≡ Some rest
unfolding others_past
others_again own [] previous rest each rise = refl
others_again own (v ∷ vs) previous rest each rise =
    let test = and_so (comes_by previous v) (not (v.client == own)) rise.0 (ap not (ne_eqb v.client own each.0.foreign)) in
    ap (λ (x : List ℕ). version_at x >>= next own (length vs) previous) (regroup v vs rest)
    ∙ ap (λ (o : Option (Version × List ℕ)). o >>= next own (length vs) previous) (version_again v (flat_map version_bytes vs ++ rest) each.0.range)
    ∙ ap (λ (b : Bool). cond b (others_past own (length vs) (Some v) (flat_map version_bytes vs ++ rest)) None) test
    ∙ others_again own vs (Some v) rest each.1 rise.1

-- ---- as many as the bytes say

ended : (o : Option (List ℕ)) → is_end o ≡ true → o ≡ Some []
ended None e = absurd cc
ended (Some rest) e = ap Some (nil_from_length rest (eqb-true (length rest) 0 e))

pub record AreTaken (own : ℕ) (bytes : List ℕ) : Type 0 where
  pub vs : List Version
  pub is : bytes ≡ others_bytes vs
  pub fits : FitsOthers own vs

pub others_taken : (own : ℕ) (bytes : List ℕ) → IsBytes bytes → are_others own bytes ≡ true → AreTaken own bytes
unfolding are_others
others_taken own bytes small e =
    let a = bind_some (number_at w64 bytes) (λ n. others_past own n.0 None n.1) [] (ended _ e) in
    let t = number_takes wide64 bytes a.0 small a.1 in
    let m = others_take own a.0.0 None a.0.1 [] t.0.rest_fits a.2 in
    let counted : length m.vs < 2 ^ 64 = omega (arith, m.count, t.1) in
    let both = Takes-then bytes (to_le_bytes w64 a.0.0) a.0.1 (flat_map version_bytes m.vs) [] t.0 m.takes in
    record {
      vs = m.vs;
      is = both.parts ∙ append-nil _ ∙ ap (λ (n : ℕ). to_le_bytes w64 n ++ flat_map version_bytes m.vs) (sym m.count);
      fits = record { each = m.each; order = m.rise; count = counted };
    }

counted_again : (vs : List Version) → length vs < 2 ^ 64 → number_at w64 (others_bytes vs) ≡ Some (length vs, flat_map version_bytes vs)
counted_again vs few = number_again wide64 (length vs) (flat_map version_bytes vs) few

pub are_again : (own : ℕ) (vs : List Version) → FitsOthers own vs → are_others own (others_bytes vs) ≡ true
unfolding are_others
are_again own vs fits =
    let whole : others_past own (length vs) None (flat_map version_bytes vs) ≡ Some [] =
    ap (others_past own (length vs) None) (sym (append-nil (flat_map version_bytes vs))) ∙ others_again own vs None [] fits.each fits.order in
    ap (λ (o : Option (ℕ × List ℕ)). is_end (o >>= (λ n. others_past own n.0 None n.1))) (counted_again vs fits.count) ∙ ap is_end whole

-- ---- as a list

versions_again : (own : ℕ) (vs before : List Version) (rest : List ℕ) → AllByRecursion (FitsOther own) vs → versions_at (length vs) before (flat_map version_bytes vs ++ rest) ≡ Some (before ++ vs, rest)
unfolding versions_at
versions_again own [] before rest each = ap (λ (l : List Version). Some (l, rest)) (sym (append-nil before))
versions_again own (v ∷ vs) before rest each =
    ap (λ (x : List ℕ). version_at x >>= (λ v. versions_at (length vs) (before ++ v.0 ∷ []) v.1)) (regroup v vs rest)
    ∙ ap (λ (o : Option (Version × List ℕ)). o >>= (λ v. versions_at (length vs) (before ++ v.0 ∷ []) v.1)) (version_again v (flat_map version_bytes vs ++ rest) each.0.range)
    ∙ versions_again own vs (before ++ v ∷ []) rest each.1
    ∙ ap (λ (l : List Version). Some (l, rest)) (append_assoc before (v ∷ []) vs)

pub listed_again : (own : ℕ) (vs : List Version) → FitsOthers own vs → versions_in (others_bytes vs) ≡ Some vs
unfolding versions_in
listed_again own vs fits =
    let whole : versions_at (length vs) [] (flat_map version_bytes vs) ≡ Some (vs, []) =
    ap (versions_at (length vs) []) (sym (append-nil (flat_map version_bytes vs))) ∙ versions_again own vs [] [] fits.each in
    ap (λ (o : Option (ℕ × List ℕ)). o >>= (λ n. versions_at n.0 [] n.1 >>= (λ x. Some x.0))) (counted_again vs fits.count)
    ∙ ap (λ (o : Option (List Version × List ℕ)). o >>= (λ x. Some x.0)) whole

-- ---- as the loop does

pub versions_go_on : (n i : ℕ) (before : List Version) (bytes : List ℕ) (v : Version) (after : List ℕ) (total : Option (List Version × List ℕ)) → i < n → version_at bytes ≡ Some (v, after)
    → versions_at (n - i) before bytes ≡ total → versions_at (n - (i + 1)) (before ++ v ∷ []) after ≡ total
unfolding versions_at
versions_go_on n i before bytes v after total lt read so_far =
    let k : n - i ≡ suc (n - (i + 1)) = omega (arith, lt) in
    sym (ap (λ (o : Option (Version × List ℕ)). o >>= (λ v. versions_at (n - (i + 1)) (before ++ v.0 ∷ []) v.1)) read) ∙ ap (λ (m : ℕ). versions_at m before bytes) (sym k) ∙ so_far

pub versions_fail : (n i : ℕ) (before : List Version) (bytes : List ℕ) (total : Option (List Version × List ℕ)) → i < n → version_at bytes ≡ None → versions_at (n - i) before bytes ≡ total → total ≡ None
unfolding versions_at
versions_fail n i before bytes total lt none so_far =
    let k : n - i ≡ suc (n - (i + 1)) = omega (arith, lt) in
    sym so_far ∙ ap (λ (m : ℕ). versions_at m before bytes) k ∙ ap (λ (o : Option (Version × List ℕ)). o >>= (λ v. versions_at (n - (i + 1)) (before ++ v.0 ∷ []) v.1)) none

pub versions_end : (n i : ℕ) (before : List Version) (bytes : List ℕ) (total : Option (List Version × List ℕ)) → n ≤ i → versions_at (n - i) before bytes ≡ total → total ≡ Some (before, bytes)
unfolding versions_at
versions_end n i before bytes total le so_far =
    let k : n - i ≡ 0 = omega (arith, le) in
    sym so_far ∙ ap (λ (m : ℕ). versions_at m before bytes) k
