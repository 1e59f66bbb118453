-- One text after another.
use Rattle.std.proofs.Common.{◌≡◌, ℕ, ◌+◌, ◌<◌, ◌≤◌, List, ◌++◌, length, Result, Ok, Err, refl, sym, ap, ◌∙◌, append_assoc, length-append, le_trans, arith}
use Rattle.std.proofs.lemmas.Result.{on_ok_weaker, on_err_weaker}
use Rattle.std.proofs.Common.{take, drop, get_or, [], ◌∷◌, append-nil}
use Rattle.std.proofs.lemmas.List.{take_more, drop_more, take_all, flat_map_more, take-append-drop}
use Rattle.std.proofs.lemmas.List.Concat.{flat_map-append}
use Rattle.std.specs.List.{flat_map}
use Rattle.std.specs.Prelude.{IsErr}
use Rattle.std.specs.Vec.{vec_capacity}
use Rattle.std.specs.declared.vec.Vec.{Vec}
use Rattle.script_text.specs.Appending.{Appends}

-- the second text after the first
pub then_all : {A E F : Type 0} (a b c : Vec ℕ A) (r : Result (Unit {0}) E) (s : Result (Unit {0}) F) (x y : List ℕ) (u : Unit {0}) → r ≡ Ok u → Appends a b r x → Appends b c s y → Appends a c s (x ++ y)
then_all a b c (Ok v) s x y u ran first second =
    let joined : b.items ≡ a.items ++ x = first.ok in
    let whole = length-append x y in
    let so_far = length-append a.items x in
    let l = ap length joined in
    let m = first.capacity in
    record {
      ok = on_ok_weaker s (λ e. e ∙ ap (λ z. z ++ y) joined ∙ append_assoc a.items x y) second.ok;
      err = on_err_weaker s (λ part. (x ++ part.0, part.1 ∙ ap (λ z. z ++ part.0) joined ∙ append_assoc a.items x part.0)) second.err;
      capacity = le_trans first.capacity second.capacity;
      full = on_err_weaker s (λ short. omega arith) second.full;
    }
then_all a b c (Err e) s x y u ran first second = absurd (cc ran)

-- a text that ends early, by a `?`
pub stopped : {A E F : Type 0} (a b : Vec ℕ A) (r : Result (Unit {0}) E) (s : Result (Unit {0}) F) (x y : List ℕ) (e : E) → r ≡ Err e → IsErr s → Appends a b r x → Appends a b s (x ++ y)
stopped a b (Ok v) s x y e ran bad first = absurd (cc ran)
stopped a b (Err d) (Ok v) x y e ran bad first = absurd (cc bad)
stopped a b (Err d) (Err g) x y e ran bad first =
    record { ok = tt; err = first.err; capacity = first.capacity; full = omega (arith, length-append x y, first.full) }

-- a text for which there was no room
pub refused : {A E : Type 0} (a b : Vec ℕ A) (r : Result (Unit {0}) E) (text : List ℕ) (e : E) → r ≡ Err e → b.items ≡ a.items → vec_capacity a ≤ vec_capacity b
    → vec_capacity a < length a.items + length text → Appends a b r text
refused a b (Ok v) text e ran same grown short = absurd (cc ran)
refused a b (Err d) text e ran same grown short = record { ok = tt; err = ([], same ∙ sym (append-nil a.items)); capacity = grown; full = short }

-- the texts of the first i elements were appended
abbrev pub Grown : {X A : Type 0} → (X → List ℕ) → List X → ℕ → Vec ℕ A → Vec ℕ A → Type 0
Grown f xs i a b = (b.items ≡ a.items ++ flat_map f (take i xs)) × (vec_capacity a ≤ vec_capacity b)

-- the text of one element more
pub grown_more : {X A E : Type 0} (f : X → List ℕ) (xs : List X) (i : ℕ) (x : X) (a b c : Vec ℕ A) (r : Result (Unit {0}) E) (u : Unit {0})
    → i < length xs → x ≡ get_or xs i x → r ≡ Ok u → Grown f xs i a b → Appends b c r (f x) → Grown f xs (i + 1) a c
grown_more f xs i x a b c (Ok v) u within at ran so_far more =
    let next : take (i + 1) xs ≡ take i xs ++ x ∷ [] = take_more xs i x within ∙ ap (λ y. take i xs ++ y ∷ []) (sym at) in (
      more.ok ∙ ap (λ z. z ++ f x) so_far.0 ∙ flat_map_more f a.items (take i xs) x ∙ ap (λ z. a.items ++ flat_map f z) (sym next),
      le_trans so_far.1 more.capacity,
    )
grown_more f xs i x a b c (Err e) u within at ran so_far more = absurd (cc ran)

-- an element whose text wasn't appended whole
pub grown_stops : {X A E F : Type 0} (f : X → List ℕ) (xs : List X) (i : ℕ) (x : X) (a b c : Vec ℕ A) (r : Result (Unit {0}) E) (s : Result (Unit {0}) F) (e : E)
    → i < length xs → x ≡ get_or xs i x → r ≡ Err e → IsErr s → Grown f xs i a b → Appends b c r (f x) → Appends a c s (flat_map f xs)
grown_stops {E = E} f xs i x a b c r s e within at ran bad so_far more =
    let rest = flat_map f (drop (i + 1) xs) in
    let first : Appends {E = E} a b (Ok tt) (flat_map f (take i xs)) = record { ok = so_far.0; err = tt; capacity = so_far.1; full = tt } in
    let second : Appends b c s (f x ++ rest) = stopped b c r s (f x) rest e ran bad more in
    let whole : flat_map f xs ≡ flat_map f (take i xs) ++ (f x ++ rest) =
    ap (flat_map f) (sym (take-append-drop i xs)) ∙ flat_map-append f (take i xs) (drop i xs)
    ∙ ap (λ z. flat_map f (take i xs) ++ flat_map f z) (drop_more xs i x within ∙ ap (λ y. y ∷ drop (i + 1) xs) (sym at)) in
    rw whole (then_all a b c (Ok tt) s (flat_map f (take i xs)) (f x ++ rest) tt refl first second)

-- all of them
pub grown_all : {X A E : Type 0} (f : X → List ℕ) (xs : List X) (i : ℕ) (a b : Vec ℕ A) → length xs ≤ i → Grown f xs i a b → Appends {E = E} a b (Ok tt) (flat_map f xs)
grown_all f xs i a b past so_far = record { ok = so_far.0 ∙ ap (λ z. a.items ++ flat_map f z) (take_all i xs past); err = tt; capacity = so_far.1; full = tt }
