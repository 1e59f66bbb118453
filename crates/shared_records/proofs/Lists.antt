-- List entries and versions one after the other, as the loops do.
use Rattle.std.proofs.Common.{◌≡◌, ℕ, suc, ◌-◌, ◌+◌, ◌<◌, Bool, true, false, List, refl, sym, ap, ◌∙◌, arith}
use Rattle.std.specs.Prelude.{Option, Some, None, ◌&&◌, ◌==◌, not, if◌then◌else◌}
use Rattle.outside.specs.Trace.{At, config, block}
use Rattle.local_state.specs.declared.life.Life.{Life}
use Rattle.local_state.specs.Reading.{◌>>=◌, name_at, change_at}
use Rattle.local_state.specs.Record.{comes_after, has_bytes}
use Rattle.local_state.specs.Versions.{Version}
use Rattle.local_state.proofs.Loops.{below_then}
use Rattle.shared_records.specs.Scan.{life_in, may_by, entries_past, version_at, others_past}
use Rattle.clients_core.specs.Listed.{comes_by}
use Rattle.std.specs.Option.{option_map}
use Rattle.std.proofs.lemmas.Option.{same_Some}
use Rattle.shared_records.proofs.Scans.{AreRows}

-- ---- names

-- what comes after a name comes after what that comes after
pub comes_on : (previous : Option At) (name next : At) → comes_after previous name ≡ true → comes_after (Some name) next ≡ true → comes_after previous next ≡ true
comes_on None name next one two = refl
comes_on (Some config) config next one two = absurd (cc)
comes_on (Some config) (block id) config one two = absurd (cc)
comes_on (Some config) (block id) (block x) one two = refl
comes_on (Some (block other)) config next one two = absurd (cc)
comes_on (Some (block other)) (block id) config one two = absurd (cc)
comes_on (Some (block other)) (block id) (block x) one two = below_then other id x one two

-- the rows from a place on say of each id whose name may come what is said of it
pub record SaysAhead (said : List ℕ → Option Life) (previous : Option At) (left : ℕ) (at here : List ℕ) : Type 0 where
  pub rows : AreRows left at here
  pub says : (x : List ℕ) → comes_after previous (block x) ≡ true → life_in left at here x None ≡ said x

pub says_first : (n : ℕ) (previous bytes : List ℕ) → AreRows n previous bytes → SaysAhead (λ x. life_in n previous bytes x None) None n previous bytes
says_first n previous bytes rows = record { rows = rows; says = λ x may. refl }

pub says_next : (said : List ℕ → Option Life) (previous : Option At) (name : At) (left : ℕ) (at here : List ℕ) (less : ℕ) (next there : List ℕ) → comes_after previous name ≡ true → SaysAhead said previous left at here → AreRows less next there
    → ((x : List ℕ) → comes_after (Some name) (block x) ≡ true → life_in less next there x None ≡ life_in left at here x None) → SaysAhead said (Some name) less next there
says_next said previous name left at here less next there comes s rows later = record { rows = rows; says = λ x may. later x may ∙ s.says x (comes_on previous name (block x) comes may) }

-- so it says of the next name what may be written
pub may_ahead : (said : List ℕ → Option Life) (previous : Option At) (name : At) (has : Bool) (left : ℕ) (at here : List ℕ) → comes_after previous name ≡ true → SaysAhead said previous left at here
    → may_by (λ x. life_in left at here x None) name has ≡ may_by said name has
may_ahead said previous config has left at here comes s = refl
may_ahead said previous (block id) true left at here comes s = ap (λ (o : Option Life). may_by (λ x. o) (block id) true) (s.says id comes)
may_ahead said previous (block id) false left at here comes s = ap (λ (o : Option Life). may_by (λ x. o) (block id) false) (s.says id comes)

-- ---- the list

pub entries_first : (said : List ℕ → Option Life) (n : ℕ) (previous : Option At) (bytes : List ℕ) (name : At × List ℕ) (change : Option (List ℕ) × List ℕ) → name_at bytes ≡ Some name → change_at name.1 ≡ Some change
    → entries_past said (suc n) previous bytes ≡ (if comes_after previous name.0 && may_by said name.0 (has_bytes change.0) then entries_past said n (Some name.0) change.1 else None)
unfolding entries_past
entries_first said n previous bytes name change named changed =
    ap (λ (o : Option (At × List ℕ)). o >>= (λ name. change_at name.1 >>= (λ change. if comes_after previous name.0 && may_by said name.0 (has_bytes change.0) then entries_past said n (Some name.0) change.1 else None))) named
    ∙ ap (λ (o : Option (Option (List ℕ) × List ℕ)). o >>= (λ change. if comes_after previous name.0 && may_by said name.0 (has_bytes change.0) then entries_past said n (Some name.0) change.1 else None)) changed

and_so : (a b : Bool) → a ≡ true → b ≡ true → (a && b) ≡ true
and_so true b p q = q
and_so false b p q = absurd (cc)

same_first : {A B : Type 0} (x y : A × B) → Some x ≡ Some y → x.0 ≡ y.0
same_first x y e = ap (λ p. p.0) (same_Some x y e)

same_second : {A B : Type 0} (x y : A × B) → Some x ≡ Some y → x.1 ≡ y.1
same_second x y e = ap (λ p. p.1) (same_Some x y e)

pub entries_go_on : (said : List ℕ → Option Life) (n i : ℕ) (previous : Option At) (bytes : List ℕ) (name : At) (behind : List ℕ) (has : Bool) (after : List ℕ) (total : Option (List ℕ)) → i < n → name_at bytes ≡ Some (name, behind)
    → option_map {U = Bool × List ℕ} (λ c. (has_bytes c.0, c.1)) (change_at behind) ≡ Some (has, after) → comes_after previous name ≡ true → may_by said name has ≡ true → entries_past said (n - i) previous bytes ≡ total
    → entries_past said (n - (i + 1)) (Some name) after ≡ total
entries_go_on said n i previous bytes name behind has after total lt named mapped comes may so_far =
    let k : n - i ≡ suc (n - (i + 1)) = omega (arith, lt) in
    elim (change_at behind) as (λ o. change_at behind ≡ o → option_map {U = Bool × List ℕ} (λ c. (has_bytes c.0, c.1)) o ≡ Some (has, after) → entries_past said (n - (i + 1)) (Some name) after ≡ total) [
      | None ↦ λ e m. absurd (cc)
      | Some change ↦ λ e m.
          let first = same_first (has_bytes change.0, change.1) (has, after) m in
          let second = same_second (has_bytes change.0, change.1) (has, after) m in
          let test = and_so (comes_after previous name) (may_by said name (has_bytes change.0)) comes (ap (may_by said name) first ∙ may) in
          ap (λ (b : List ℕ). entries_past said (n - (i + 1)) (Some name) b) (sym second)
          ∙ sym (ap (λ (b : Bool). if b then entries_past said (n - (i + 1)) (Some name) change.1 else None) test)
          ∙ sym (entries_first said (n - (i + 1)) previous bytes (name, behind) change named e)
          ∙ ap (λ (m : ℕ). entries_past said m previous bytes) (sym k)
          ∙ so_far
    ] refl mapped

-- ---- versions of others

pub others_go_on : (own n i : ℕ) (previous : Option Version) (bytes : List ℕ) (v : Version) (after : List ℕ) (total : Option (List ℕ)) → i < n → version_at bytes ≡ Some (v, after) → comes_by previous v ≡ true → (v.client == own) ≡ false
    → others_past own (n - i) previous bytes ≡ total → others_past own (n - (i + 1)) (Some v) after ≡ total
unfolding others_past
others_go_on own n i previous bytes v after total lt read comes other so_far =
    let k : n - i ≡ suc (n - (i + 1)) = omega (arith, lt) in
    let test = and_so (comes_by previous v) (not (v.client == own)) comes (ap not other) in
    sym (ap (λ (b : Bool). if b then others_past own (n - (i + 1)) (Some v) after else None) test)
    ∙ sym (ap (λ (o : Option (Version × List ℕ)). o >>= (λ v. if comes_by previous v.0 && not (v.0.client == own) then others_past own (n - (i + 1)) (Some v.0) v.1 else None)) read)
    ∙ ap (λ (m : ℕ). others_past own m previous bytes) (sym k)
    ∙ so_far
