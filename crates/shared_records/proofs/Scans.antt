-- Reading rows and list entries one after the other, as the loops do.
use Rattle.std.proofs.Common.{◌≡◌, ℕ, zero, suc, ◌-◌, ◌+◌, ◌≤◌, ◌<◌, Bool, true, false, cond, List, refl, sym, ap, subst, ◌∙◌, arith}
use Rattle.std.specs.Prelude.{Option, Some, None, ◌&&◌, nat_lt, if◌then◌else◌}
use Rattle.std.specs.Option.{is_some}
use Rattle.std.specs.Str.{bytes_eq}
use Rattle.std.specs.Ordering.{nat_cmp, is_lt}
use Rattle.std.specs.Cmp.Lexicographic.{slice_cmp}
use Rattle.std.proofs.lemmas.Slice.Eq.{bytes_eq-Decides}
use Rattle.byte_fields.specs.Fields.{front_at, number_at}
use Rattle.block_id.proofs.Conditions.{and_true}
use Rattle.local_state.specs.declared.life.Life.{Life}
use Rattle.local_state.specs.Reading.{◌>>=◌, flag_at, known_at}
use Rattle.std.specs.Int.{w64}
use Rattle.local_state.proofs.Fields.{bind_some, guard_some}
use Rattle.local_state.proofs.Loops.{below_then, not_below_itself}
use Rattle.shared_records.specs.Scan.{rows_at, life_in}

abbrev pub row : Type 0
row = (List ℕ × Life) × List ℕ

abbrev pub IsBelow : List ℕ → List ℕ → Type 0
IsBelow x y = is_lt (slice_cmp nat_cmp x y) ≡ true

abbrev pub IsNotBelow : List ℕ → List ℕ → Type 0
IsNotBelow x y = is_lt (slice_cmp nat_cmp x y) ≡ false

true_is_false : true ≡ false → ⊥
true_is_false e = cc

none_is_some : {A : Type 0} {a : A} → None ≡ Some a → ⊥
none_is_some e = cc

-- ---- orders

-- what comes after something isn't below it
pub not_below_after : (x y : List ℕ) → IsBelow x y → IsNotBelow y x
not_below_after x y below = elim (is_lt (slice_cmp nat_cmp y x)) as (λ b. is_lt (slice_cmp nat_cmp y x) ≡ b → b ≡ false) [
  | true ↦ λ e. absurd (true_is_false (sym (below_then x y x below e) ∙ not_below_itself x))
  | false ↦ λ e. refl
] refl

-- what is below another isn't what isn't below that
pub below_other : (found id x : List ℕ) → IsBelow found id → IsNotBelow x id → bytes_eq found x ≡ false
below_other found id x below above = elim (bytes_eq found x) as (λ b. bytes_eq found x ≡ b → b ≡ false) [
  | true ↦ λ e. absurd (true_is_false (sym below ∙ ap (λ (z : List ℕ). is_lt (slice_cmp nat_cmp z id)) ((bytes_eq-Decides found x).0 e) ∙ above))
  | false ↦ λ e. refl
] refl

-- what follows something that isn't below an id isn't below it, nor the id
after_still : (previous next id : List ℕ) → IsBelow previous next → IsNotBelow previous id → IsNotBelow next id
after_still previous next id below above = elim (is_lt (slice_cmp nat_cmp next id)) as (λ b. is_lt (slice_cmp nat_cmp next id) ≡ b → b ≡ false) [
  | true ↦ λ e. absurd (true_is_false (sym (below_then previous next id below e) ∙ above))
  | false ↦ λ e. refl
] refl

after_other : (previous next id : List ℕ) → IsBelow previous next → IsNotBelow previous id → bytes_eq next id ≡ false
after_other previous next id below above = elim (bytes_eq next id) as (λ b. bytes_eq next id ≡ b → b ≡ false) [
  | true ↦ λ e. absurd (true_is_false (sym below ∙ ap (λ (z : List ℕ). is_lt (slice_cmp nat_cmp previous z)) ((bytes_eq-Decides next id).0 e) ∙ above))
  | false ↦ λ e. refl
] refl

-- ---- rows

made : List ℕ → ℕ → Bool → List ℕ × Life
made id version live = (id, record { version = version; live = live })

-- the id of a row comes after the one before it
pub row_after : (previous bytes : List ℕ) (e : row) → known_at previous bytes ≡ Some e → IsBelow previous e.0.0
unfolding known_at made
row_after previous bytes e h =
    let a = bind_some (front_at 16 bytes) (λ id. number_at w64 id.1 >>= λ version. flag_at version.1 >>= λ live.
    cond (is_lt (slice_cmp nat_cmp previous id.0) && nat_lt 0 version.0) (Some (made id.0 version.0 live.0, live.1)) None) e h in
    let b = bind_some (number_at w64 a.0.1) (λ version. flag_at version.1 >>= λ live.
    cond (is_lt (slice_cmp nat_cmp previous a.0.0) && nat_lt 0 version.0) (Some (made a.0.0 version.0 live.0, live.1)) None) e a.2 in
    let c = bind_some (flag_at b.0.1) (λ live. cond (is_lt (slice_cmp nat_cmp previous a.0.0) && nat_lt 0 b.0.0) (Some (made a.0.0 b.0.0 live.0, live.1)) None) e b.2 in
    let g = guard_some (is_lt (slice_cmp nat_cmp previous a.0.0) && nat_lt 0 b.0.0) (made a.0.0 b.0.0 c.0.0, c.0.1) e c.2 in
    let tests = and_true _ _ g.0 in
    subst (λ (y : row). IsBelow previous y.0.0) g.1 tests.0

-- a row, and the rows behind it
pub row_first : (n : ℕ) (previous bytes : List ℕ) (e : row) → known_at previous bytes ≡ Some e → rows_at (suc n) previous bytes ≡ rows_at n e.0.0 e.1
unfolding rows_at
row_first n previous bytes e h = ap (λ (o : Option row). o >>= (λ e. rows_at n e.0.0 e.1)) h

pub life_first : (n : ℕ) (previous bytes : List ℕ) (e : row) (id : List ℕ) (found : Option Life) → known_at previous bytes ≡ Some e
    → life_in (suc n) previous bytes id found ≡ life_in n e.0.0 e.1 id (if bytes_eq e.0.0 id then Some e.0.1 else found)
unfolding life_in
life_first n previous bytes e id found h = ap (λ (o : Option row). o >>= (λ e. life_in n e.0.0 e.1 id (if bytes_eq e.0.0 id then Some e.0.1 else found))) h

pub life_none : (n : ℕ) (previous bytes id : List ℕ) (found : Option Life) → known_at previous bytes ≡ None → life_in (suc n) previous bytes id found ≡ None
unfolding life_in
life_none n previous bytes id found h = ap (λ (o : Option row). o >>= (λ e. life_in n e.0.0 e.1 id (if bytes_eq e.0.0 id then Some e.0.1 else found))) h

rows_none : (n : ℕ) (previous bytes : List ℕ) → known_at previous bytes ≡ None → rows_at (suc n) previous bytes ≡ None
unfolding rows_at
rows_none n previous bytes h = ap (λ (o : Option row). o >>= (λ e. rows_at n e.0.0 e.1)) h

abbrev pub AreRows : ℕ → List ℕ → List ℕ → Type 0
AreRows n previous bytes = is_some (rows_at n previous bytes) ≡ true

-- the rows behind one that isn't below an id say nothing of it
pub passed : (n : ℕ) (previous bytes id : List ℕ) (found : Option Life) → AreRows n previous bytes → IsNotBelow previous id → life_in n previous bytes id found ≡ found
unfolding life_in
passed zero previous bytes id found rows above = refl
passed (suc n) previous bytes id found rows above =
    elim (known_at previous bytes) as (λ o. known_at previous bytes ≡ o → life_in (suc n) previous bytes id found ≡ found) [
      | None ↦ λ h. absurd (true_is_false (sym rows ∙ ap is_some (rows_none n previous bytes h)))
      | Some e ↦ λ h.
          let after = row_after previous bytes e h in
          life_first n previous bytes e id found h
          ∙ ap (λ (b : Bool). life_in n e.0.0 e.1 id (if b then Some e.0.1 else found)) (after_other previous e.0.0 id after above)
          ∙ passed n e.0.0 e.1 id found (ap is_some (sym (row_first n previous bytes e h)) ∙ rows) (after_still previous e.0.0 id after above)
    ] refl

-- ---- as the loops do

pub rows_start : (n : ℕ) (previous bytes : List ℕ) → rows_at (n - 0) previous bytes ≡ rows_at n previous bytes
rows_start n previous bytes = let all : n - 0 ≡ n = omega arith in ap (λ (k : ℕ). rows_at k previous bytes) all

pub rows_go_on : (n i : ℕ) (previous bytes : List ℕ) (e : List ℕ × Life) (after : List ℕ) (total : Option (List ℕ)) → i < n → known_at previous bytes ≡ Some (e, after)
    → rows_at (n - i) previous bytes ≡ total → rows_at (n - (i + 1)) e.0 after ≡ total
rows_go_on n i previous bytes e after total lt h so_far =
    let k : n - i ≡ suc (n - (i + 1)) = omega (arith, lt) in
    sym (row_first (n - (i + 1)) previous bytes (e, after) h) ∙ ap (λ (m : ℕ). rows_at m previous bytes) (sym k) ∙ so_far

pub rows_fail : (n i : ℕ) (previous bytes : List ℕ) (total : Option (List ℕ)) → i < n → known_at previous bytes ≡ None → rows_at (n - i) previous bytes ≡ total → total ≡ None
rows_fail n i previous bytes total lt h so_far =
    let k : n - i ≡ suc (n - (i + 1)) = omega (arith, lt) in
    sym so_far ∙ ap (λ (m : ℕ). rows_at m previous bytes) k ∙ rows_none (n - (i + 1)) previous bytes h

pub rows_finish : (n i : ℕ) (previous bytes : List ℕ) (total : Option (List ℕ)) → n ≤ i → rows_at (n - i) previous bytes ≡ total → total ≡ Some bytes
unfolding rows_at
rows_finish n i previous bytes total le so_far =
    let k : n - i ≡ 0 = omega (arith, le) in
    sym so_far ∙ ap (λ (m : ℕ). rows_at m previous bytes) k
