-- A place among rows that moves on, and what the rows from there on say.
use Rattle.std.proofs.Common.{◌≡◌, ℕ, suc, ◌-◌, ◌<◌, Bool, List, refl, sym, ap, subst, ◌∙◌, arith}
use Rattle.std.specs.Prelude.{Some, None, if◌then◌else◌}
use Rattle.std.specs.Option.{is_some}
use Rattle.std.specs.Str.{bytes_eq}
use Rattle.local_state.specs.Reading.{known_at}
use Rattle.shared_records.specs.Scan.{life_in}
use Rattle.shared_records.proofs.Scans.{AreRows, IsBelow, IsNotBelow, below_other, life_first, life_none, not_below_after, passed, row, row_first}

-- the rows from there on say of an id, and of what comes later, what the first rows say
pub record IsPlace (n : ℕ) (previous bytes : List ℕ) (left : ℕ) (at here : List ℕ) (id : List ℕ) : Type 0 where
  pub rows : AreRows left at here
  pub same : (x : List ℕ) → IsNotBelow x id → life_in left at here x None ≡ life_in n previous bytes x None

pub first_place : (n : ℕ) (previous bytes id : List ℕ) → AreRows n previous bytes → IsPlace n previous bytes n previous bytes id
first_place n previous bytes id rows = record { rows = rows; same = λ x above. refl }

-- a row below the id is passed over
pub next_place : (n : ℕ) (previous bytes : List ℕ) (left : ℕ) (at here : List ℕ) (id : List ℕ) (e : row) → 0 < left → known_at at here ≡ Some e → IsBelow e.0.0 id → IsPlace n previous bytes left at here id
    → IsPlace n previous bytes (left - 1) e.0.0 e.1 id
next_place n previous bytes left at here id e some h below p =
    let k : left ≡ suc (left - 1) = omega (arith, some) in
    let here_rows : AreRows (suc (left - 1)) at here = subst (λ (m : ℕ). AreRows m at here) k p.rows in
    record {
      rows = ap is_some (sym (row_first (left - 1) at here e h)) ∙ here_rows;
      same = λ x above.
          sym (ap (λ (b : Bool). life_in (left - 1) e.0.0 e.1 x (if b then Some e.0.1 else None)) (below_other e.0.0 id x below above))
          ∙ sym (life_first (left - 1) at here e x None h)
          ∙ ap (λ (m : ℕ). life_in m at here x None) (sym k)
          ∙ p.same x above;
    }

-- what the rows say of the id, by the row that isn't below it
pub found_life : (n : ℕ) (previous bytes : List ℕ) (left : ℕ) (at here : List ℕ) (id : List ℕ) (e : row) → 0 < left → known_at at here ≡ Some e → IsNotBelow e.0.0 id → IsNotBelow id id → IsPlace n previous bytes left at here id
    → (if bytes_eq e.0.0 id then Some e.0.1 else None) ≡ life_in n previous bytes id None
found_life n previous bytes left at here id e some h above itself p =
    let k : left ≡ suc (left - 1) = omega (arith, some) in
    let here_rows : AreRows (suc (left - 1)) at here = subst (λ (m : ℕ). AreRows m at here) k p.rows in
    let rest : AreRows (left - 1) e.0.0 e.1 = ap is_some (sym (row_first (left - 1) at here e h)) ∙ here_rows in
    sym (passed (left - 1) e.0.0 e.1 id (if bytes_eq e.0.0 id then Some e.0.1 else None) rest above)
    ∙ sym (life_first (left - 1) at here e id None h)
    ∙ ap (λ (m : ℕ). life_in m at here id None) (sym k)
    ∙ p.same id itself

-- no row is left
pub ended_life : (n : ℕ) (previous bytes : List ℕ) (left : ℕ) (at here : List ℕ) (id : List ℕ) → left ≡ 0 → IsNotBelow id id → IsPlace n previous bytes left at here id → None ≡ life_in n previous bytes id None
unfolding life_in
ended_life n previous bytes left at here id none itself p = ap (λ (m : ℕ). life_in m at here id None) (sym none) ∙ p.same id itself

-- or none can be read
pub broken_life : (n : ℕ) (previous bytes : List ℕ) (left : ℕ) (at here : List ℕ) (id : List ℕ) → 0 < left → known_at at here ≡ None → IsNotBelow id id → IsPlace n previous bytes left at here id → None ≡ life_in n previous bytes id None
broken_life n previous bytes left at here id some h itself p =
    let k : left ≡ suc (left - 1) = omega (arith, some) in
    sym (life_none (left - 1) at here id None h) ∙ ap (λ (m : ℕ). life_in m at here id None) (sym k) ∙ p.same id itself

-- of what comes later the place says the same
pub later_same : (n : ℕ) (previous bytes : List ℕ) (left : ℕ) (at here : List ℕ) (id : List ℕ) → IsPlace n previous bytes left at here id → (x : List ℕ) → IsBelow id x → life_in left at here x None ≡ life_in n previous bytes x None
later_same n previous bytes left at here id p x below = p.same x (not_below_after id x below)
