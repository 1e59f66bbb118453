-- What a judgement says of the numbers.
use Rattle.std.proofs.Common.{◌≡◌, ℕ, ◌<◌, ◌≤◌, Bool, true, false, cond, refl, sym, ap, ◌∙◌, inl, inr, arith}
use Rattle.std.specs.Prelude.{not, ◌&&◌, ◌==◌, nat_lt, IfSome}
use Rattle.std.specs.declared.option.Option.{Option}
use Rattle.std.specs.declared.option.Option.TheVariants.{None, Some}
use Rattle.std.proofs.lemmas.Bool.{ltb-true, ltb-false, le-ltb, eqb-true, eqb-false, and_cases, and_parts}
use Rattle.local_state.specs.declared.life.Life.{Life}
use Rattle.clients_core.specs.declared.stale.Stale.{Stale}
use Rattle.clients_core.specs.declared.stale.Stale.TheVariants.{Lower, Ahead, Replaced, Deleted}
use Rattle.clients_core.specs.Judging.{known_in, is_dead, judge_own, judge_other}

some_none : {A : Type 0} {x : A} → Some x ≡ None → ⊥
some_none e = cc

-- the tests of a chain that came to nothing
second_none : {A : Type 0} (a b : Bool) (x y : A) → cond a (Some x) (cond b (Some y) None) ≡ None → b ≡ false
second_none true b x y e = absurd (some_none e)
second_none false true x y e = absurd (some_none e)
second_none false false x y e = refl

first_none : {A : Type 0} (a : Bool) (x : A) (rest : Option A) → cond a (Some x) rest ≡ None → a ≡ false
first_none true x rest e = absurd (some_none e)
first_none false x rest e = refl

rest_none : {A : Type 0} (a : Bool) (x : A) (rest : Option A) → cond a (Some x) rest ≡ None → rest ≡ None
rest_none true x rest e = absurd (some_none e)
rest_none false x rest e = e

pub own_good : (life : Option Life) (found : ℕ) → judge_own life found ≡ None → known_in life ≡ found
own_good life found e =
    let rest = rest_none (is_dead life && found == known_in life) Deleted _ e in
    let above = ltb-false found (known_in life) (first_none (nat_lt found (known_in life)) (Lower (known_in life) found) _ rest) in
    let below = ltb-false (known_in life) found (second_none (nat_lt found (known_in life)) (nat_lt (known_in life) found) (Lower (known_in life) found) (Ahead (known_in life) found) rest) in
    omega (arith, above, below)

pub other_good : (own : ℕ) (life : Option Life) (noted found : ℕ) → 0 < found → judge_other own life noted found ≡ None → noted < found
other_good own life noted found positive e =
    let least : noted ≤ found = ltb-false found noted (first_none (nat_lt found noted) (Lower noted found) _ e) in
    let differs : (found == noted && nat_lt 0 noted) ≡ false = second_none (nat_lt found noted) (found == noted && nat_lt 0 noted) (Lower noted found) (Replaced own (known_in life)) e in
    elim (and_cases (found == noted) (nat_lt 0 noted) differs) [
      | inl other ↦ let apart = eqb-false found noted other in omega (arith, least, apart)
      | inr zero ↦ let none = ltb-false 0 noted zero in omega (arith, none, positive)
    ]

false_is_true : false ≡ true → ⊥
false_is_true e = cc

none_some : {A : Type 0} {x : A} → None ≡ Some x → ⊥
none_some e = cc

-- a live block's known version is good
known_good : (life : Option Life) → IfSome life (λ l. l.live ≡ true) → judge_own life (known_in life) ≡ None
known_good None alive = refl
known_good (Some life) alive =
    let dead : not life.live ≡ false = ap not alive in
    let equal = le-ltb life.version life.version (omega arith) in
    λ i. cond (dead i && life.version == life.version) (Some Deleted)
    (cond (equal i) (Some (Lower life.version life.version)) (cond (equal i) (Some (Ahead life.version life.version)) None))

pub own_bad : (life : Option Life) (found : ℕ) (s : Stale) → IfSome life (λ l. l.live ≡ true) → judge_own life found ≡ Some s → found ≡ known_in life → ⊥
own_bad life found s alive e same = none_some (sym (known_good life alive) ∙ ap (judge_own life) (sym same) ∙ e)

other_bad_by : (a b : Bool) (x y s : Stale) (found noted : ℕ) → (a ≡ true → found ≤ noted) → (b ≡ true → found ≤ noted) → cond a (Some x) (cond b (Some y) None) ≡ Some s → found ≤ noted
other_bad_by true b x y s found noted f g e = f refl
other_bad_by false true x y s found noted f g e = g refl
other_bad_by false false x y s found noted f g e = absurd (none_some e)

pub other_bad : (own : ℕ) (life : Option Life) (noted found : ℕ) (s : Stale) → judge_other own life noted found ≡ Some s → found ≤ noted
other_bad own life noted found s e =
    other_bad_by (nat_lt found noted) (found == noted && nat_lt 0 noted) (Lower noted found) (Replaced own (known_in life)) s found noted
    (λ a. let less = ltb-true found noted a in omega (arith, less))
    (λ b. let same = eqb-true found noted (and_parts _ _ b).0 in omega (arith, same)) e
