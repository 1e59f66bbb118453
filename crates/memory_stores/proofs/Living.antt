-- The ids of entries that have a payload rise where those of the entries do, and are those in the content.
use Rattle.std.proofs.Common.{◌≡◌, ◌∙◌, ℕ, Bool, true, false, cond, ◌&&◌, ◌||◌, List, [], ◌∷◌, map, T, refl, sym, ap, subst, is_some, Result, Ok, Err}
use Rattle.std.specs.Prelude.{filter, IfOk}
use Rattle.std.specs.Ordering.{is_lt, is_eq}
use Rattle.std.specs.Cmp.Lexicographic.{nat_list_cmp_total}
use Rattle.std.specs.FinMap as fin
use Rattle.std.specs.FinMap.{find, is_sorted}
use Rattle.std.specs.FinMap.Entries.{below_all}
use Rattle.std.specs.Global.{Vec}
use Rattle.std.specs.declared.cmp.Ordering.{Ordering}
use Rattle.std.specs.declared.cmp.Ordering.TheVariants.{Less, Equal, Greater}
use Rattle.std.specs.declared.option.Option.{Option}
use Rattle.std.specs.declared.option.Option.TheVariants.{None, Some}
use Rattle.block_id.specs.declared.fail.Memory.{Memory}
use Rattle.block_id.specs.declared.id.BlockId.{BlockId}
use Rattle.store_api.specs.declared.batch.BatchChange.{BatchChange}
use Rattle.store_api.specs.Entries.{change_view, entries_of}
use Rattle.store_api.specs.Content.{Id, Changes, id_cmp, same_id, or_else}
use Rattle.store_api.specs.Holdings.{has_id}
use Rattle.memory_stores.specs.Rows.{living_in, AreRising, AreLiving}

abbrev Entry : Type 0
Entry = BlockId × BatchChange

abbrev marked : List BlockId → List (Id × ℕ)
marked ids = map (λ id. (id.0, 0)) ids

both : (a b : Bool) → T a → T b → T (a && b)
both true b p q = q
both false b p q = p

first : (a b : Bool) → T (a && b) → T a
first true b p = tt
first false b p = p

second : (a b : Bool) → T (a && b) → T b
second true b p = p
second false b p = absurd p

-- what stands below all entries stands below those with a payload
below_one : (b : Bool) (x : Id) (e : Entry) (ids : List BlockId) → T (is_lt (id_cmp x e.0.0)) → T (below_all id_cmp x (marked ids)) → T (below_all id_cmp x (marked (cond b (e.0 ∷ ids) ids)))
below_one true x e ids p h = both _ _ p h
below_one false x e ids p h = h

picked : (b : Bool) (e : Entry) (es : List Entry) → map (λ (x : Entry). x.0) (cond b (e ∷ es) es) ≡ cond b (e.0 ∷ map (λ x. x.0) es) (map (λ x. x.0) es)
picked true e es = refl
picked false e es = refl

living_first : (e : Entry) (es : List Entry) → living_in (e ∷ es) ≡ cond (is_some (change_view e.1)) (e.0 ∷ living_in es) (living_in es)
living_first e es = picked (is_some (change_view e.1)) e (filter (λ x. is_some (change_view x.1)) es)

below : (x : Id) (es : List Entry) → T (below_all id_cmp x (entries_of es)) → T (below_all id_cmp x (marked (living_in es)))
below x [] h = tt
below x (e ∷ es) h =
    subst (λ ids. T (below_all id_cmp x (marked ids))) (sym (living_first e es))
    (below_one (is_some (change_view e.1)) x e (living_in es) (first _ _ h) (below x es (second _ _ h)))

rising_one : (b : Bool) (e : Entry) (ids : List BlockId) → T (below_all id_cmp e.0.0 (marked ids)) → AreRising ids → AreRising (cond b (e.0 ∷ ids) ids)
rising_one true e ids p h = both _ _ p h
rising_one false e ids p h = h

pub living_rise : (es : List Entry) → T (is_sorted id_cmp (entries_of es)) → AreRising (living_in es)
living_rise [] h = tt
living_rise (e ∷ es) h =
    subst AreRising (sym (living_first e es))
    (rising_one (is_some (change_view e.1)) e (living_in es) (below e.0.0 es (first _ _ h)) (living_rise es (second _ _ h)))

abbrev bytes_in : List BlockId → List Id
bytes_in ids = map (λ x. x.0) ids

-- an id below all isn't among them
absent_one : (o : Ordering) (b : Bool) → T (is_lt o) → b ≡ false → (is_eq o || b) ≡ false
absent_one Less b p h = h
absent_one Equal b p h = absurd p
absent_one Greater b p h = absurd p

absent : (q : Id) (ids : List BlockId) → T (below_all id_cmp q (marked ids)) → has_id (bytes_in ids) q ≡ false
absent q [] h = refl
absent q (x ∷ ids) h = absent_one (id_cmp q x.0) (has_id (bytes_in ids) q) (first _ _ h) (absent q ids (second _ _ h))

tied_below : (o : Ordering) (q x : Id) (ids : List BlockId) → id_cmp q x ≡ o → T (is_eq o) → T (below_all id_cmp x (marked ids)) → T (below_all id_cmp q (marked ids))
tied_below o q x [] e t h = tt
tied_below Less q x (y ∷ ids) e t h = absurd t
tied_below Greater q x (y ∷ ids) e t h = absurd t
tied_below Equal q x (y ∷ ids) e t h =
    both _ _ (subst (λ r. T (is_lt r)) (sym (nat_list_cmp_total.congr q x y.0 e)) (first _ _ h)) (tied_below Equal q x ids e t (second _ _ h))

-- whether an id is among them where the first entry is of this id, or of another
found_one : (tied : Bool) (q : Id) (change : Option (List ℕ)) (x : BlockId) (ids : List BlockId) (rest : Option (Option (List ℕ))) → same_id q x.0 ≡ tied
    → (T tied → has_id (bytes_in ids) q ≡ false) → has_id (bytes_in ids) q ≡ is_some (or_else rest None)
    → has_id (bytes_in (cond (is_some change) (x ∷ ids) ids)) q ≡ is_some (or_else (cond tied (Some change) rest) None)
found_one true q None x ids rest is none h = none tt
found_one true q (Some bytes) x ids rest is none h = ap (λ b. b || has_id (bytes_in ids) q) is
found_one false q None x ids rest is none h = h
found_one false q (Some bytes) x ids rest is none h = ap (λ b. b || has_id (bytes_in ids) q) is ∙ h

pub living_found : (es : List Entry) → T (is_sorted id_cmp (entries_of es)) → (q : Id) → has_id (bytes_in (living_in es)) q ≡ is_some (or_else (find id_cmp q (entries_of es)) None)
living_found [] h q = refl
living_found (e ∷ es) h q =
    ap (λ ids. has_id (bytes_in ids) q) (living_first e es)
    ∙ found_one (same_id q e.0.0) q (change_view e.1) e.0 (living_in es) (find id_cmp q (entries_of es)) refl
    (λ t. absent q (living_in es) (tied_below (id_cmp q e.0.0) q e.0.0 (living_in es) refl t (below e.0.0 es (first _ _ h))))
    (living_found es (second _ _ h) q)

-- the same of a table's entries
pub rising : (rows : Changes) (es : List Entry) → entries_of es ≡ fin.entries rows → AreRising (living_in es)
rising rows es is = living_rise es (subst (λ xs. T (is_sorted id_cmp xs)) (sym is) (fin.entries_sorted rows))

pub all_living : (rows : Changes) (es : List Entry) → entries_of es ≡ fin.entries rows → AreLiving rows (living_in es)
all_living rows es is q =
    living_found es (subst (λ xs. T (is_sorted id_cmp xs)) (sym is) (fin.entries_sorted rows)) q
    ∙ ap (λ xs. is_some (or_else (find id_cmp q xs) None)) is
    ∙ ap (λ found. is_some (or_else found None)) (sym (fin.get-entries rows q))

pub if_rising : (rows : Changes) (es : List Entry) (r : Result (Vec BlockId) Memory) → entries_of es ≡ fin.entries rows → IfOk r (λ ids. ids.items ≡ living_in es) → IfOk r (λ ids. AreRising ids.items)
if_rising rows es (Ok ids) is h = subst AreRising (sym h) (rising rows es is)
if_rising rows es (Err e) is h = tt

pub if_all : (rows : Changes) (es : List Entry) (r : Result (Vec BlockId) Memory) → entries_of es ≡ fin.entries rows → IfOk r (λ ids. ids.items ≡ living_in es) → IfOk r (λ ids. AreLiving rows ids.items)
if_all rows es (Ok ids) is h = subst (AreLiving rows) (sym h) (all_living rows es is)
if_all rows es (Err e) is h = tt
