-- The known blocks of a record, read and written.
use Rattle.std.proofs.Common.{◌≡◌, ◌≢◌, ℕ, zero, suc, ◌^◌, ◌<◌, Bool, true, false, cond, List, [], ◌∷◌, ◌++◌, length, replicate, Option, Some, None, refl, sym, ap, subst, ◌∙◌, append_assoc, arith, T}
use Rattle.std.specs.Prelude.{◌&&◌, IfSome, nat_lt}
use Rattle.std.specs.declared.cmp.Ordering.{Ordering}
use Rattle.std.specs.declared.cmp.Ordering.TheVariants.{Less, Equal, Greater}
use Rattle.std.specs.Int.{w64, to_le_bytes}
use Rattle.std.specs.List.{flat_map, AllByRecursion}
use Rattle.std.specs.Ordering.{nat_cmp, is_lt, is_eq, eq_by_cmp, ordering_then, ordering_reverse}
use Rattle.std.specs.Cmp.{tied_itself, Equal-is}
use Rattle.std.specs.Cmp.Lexicographic.{slice_cmp, nat_list_cmp_total}
use Rattle.std.specs.FinMap as fin
use Rattle.std.specs.FinMap.{entries-insert, entries_sorted, same_entries_map, len-entries, len-empty, get-entries, slice_cmp-IsAntisymmetric, nat_cmp-IsAntisymmetric}
use Rattle.std.specs.FinMap.Entries.{find, put, by_order, is_sorted, below_all}
use Rattle.std.specs.Cmp.{nat_cmp_is}
use Rattle.std.proofs.lemmas.Bool.{ltb-true}
use Rattle.std.proofs.lemmas.Grind.{common_steps}
use Rattle.std.proofs.lemmas.List.{append-nil, nil_from_length}
use Rattle.std.proofs.lemmas.List.Concat.{flat_map-cons}
use Rattle.block_id.proofs.Conditions.{true_of, left, right}
use Rattle.block_id.proofs.Orders.{less_is}
use Rattle.local_state.specs.declared.life.Life.{Life}
use Rattle.local_state.specs.Known.{Lives, zero_id, FitsLife, FitLives, IsNext}
use Rattle.local_state.specs.Record.{flag, life_bytes, known_bytes, lives_bytes}
use Rattle.byte_fields.specs.Fields.{IsBytes, front_at, number_at}
use Rattle.byte_fields.proofs.Fields.{Takes, Takes-then, front_takes, front_again, wide64, number_takes, number_again}
use Rattle.local_state.specs.Reading.{◌>>=◌, flag_at, known_at, lives_at, table_at}
use Rattle.local_state.proofs.Fitting.{fit_set, fit_empty}
use Rattle.local_state.proofs.Loops.{below_then, AboveZero, above_zero, above_next, next_fits}
use Rattle.local_state.proofs.Fields.{bind_some, guard_some, some_is, flag_takes, flag_again}
use Rattle.block_id.proofs.Conditions.{and_true}

-- ---- one known block

made : List ℕ → ℕ → Bool → List ℕ × Life
made id version live = (id, record { version = version; live = live })

and_so : (a b : Bool) → a ≡ true → b ≡ true → (a && b) ≡ true
and_so true b p q = q
and_so false b p q = absurd cc

pub known_takes : (previous bytes : List ℕ) (x : (List ℕ × Life) × List ℕ) → IsBytes bytes → known_at previous bytes ≡ Some x → Takes bytes (life_bytes x.0) x.1 × IsNext previous x.0.0 x.0.1
unfolding known_at made
known_takes previous bytes x fits e =
    let a = bind_some (front_at 16 bytes) (λ id. number_at w64 id.1 >>= λ version. flag_at version.1 >>= λ live.
    cond (is_lt (slice_cmp nat_cmp previous id.0) && nat_lt 0 version.0) (Some (made id.0 version.0 live.0, live.1)) None) x e in
    let b = bind_some (number_at w64 a.0.1) (λ version. flag_at version.1 >>= λ live.
    cond (is_lt (slice_cmp nat_cmp previous a.0.0) && nat_lt 0 version.0) (Some (made a.0.0 version.0 live.0, live.1)) None) x a.2 in
    let c = bind_some (flag_at b.0.1) (λ live. cond (is_lt (slice_cmp nat_cmp previous a.0.0) && nat_lt 0 b.0.0) (Some (made a.0.0 b.0.0 live.0, live.1)) None) x b.2 in
    let g = guard_some (is_lt (slice_cmp nat_cmp previous a.0.0) && nat_lt 0 b.0.0) (made a.0.0 b.0.0 c.0.0, c.0.1) x c.2 in
    let tests = and_true _ _ g.0 in
    let t0 = front_takes 16 bytes a.0 fits a.1 in
    let t1 = number_takes wide64 a.0.1 b.0 t0.0.rest_fits b.1 in
    let t2 = flag_takes b.0.1 c.0 t1.0.rest_fits c.1 in
    let e12 = Takes-then a.0.1 (to_le_bytes w64 b.0.0) b.0.1 (flag c.0.0 ∷ []) c.0.1 t1.0 t2 in
    let e02 = Takes-then bytes a.0.0 a.0.1 (to_le_bytes w64 b.0.0 ++ flag c.0.0 ∷ []) c.0.1 t0.0 e12 in
    let next : IsNext previous a.0.0 (record { version = b.0.0; live = c.0.0 }) = record { length = t0.1; after = tests.0; from_one = ltb-true 0 b.0.0 tests.1; below = t1.1 } in
    subst (λ (y : (List ℕ × Life) × List ℕ). Takes bytes (life_bytes y.0) y.1 × IsNext previous y.0.0 y.0.1) g.1 (e02, next)

pub true_ltb : (n : ℕ) → 0 < n → nat_lt 0 n ≡ true
true_ltb n lt = grind (arith, common_steps)

pub known_again : (previous id : List ℕ) (life : Life) (rest : List ℕ) → IsNext previous id life → known_at previous (life_bytes (id, life) ++ rest) ≡ Some ((id, life), rest)
unfolding known_at
known_again previous id life rest next =
    let regrouped : life_bytes (id, life) ++ rest ≡ id ++ (to_le_bytes w64 life.version ++ (flag life.live ∷ rest)) =
    append_assoc id (to_le_bytes w64 life.version ++ flag life.live ∷ []) rest ∙ ap (λ (x : List ℕ). id ++ x) (append_assoc (to_le_bytes w64 life.version) (flag life.live ∷ []) rest) in
    ap (known_at previous) regrouped
    ∙ rw (front_again 16 id (to_le_bytes w64 life.version ++ (flag life.live ∷ rest)) next.length, number_again wide64 life.version (flag life.live ∷ rest) next.below, flag_again life.live rest, and_so _ _ next.after (true_ltb life.version next.from_one)) refl

-- ---- lives that grow at their end

abbrev order : List ℕ → List ℕ → Ordering
order x y = slice_cmp nat_cmp x y

abbrev All-below : List ℕ → List (List ℕ × Life) → Type 0
All-below id es = AllByRecursion (λ e. is_lt (order e.0 id) ≡ true) es

-- the ids that come after the previous one come after each of these
abbrev Before : List ℕ → List (List ℕ × Life) → Type 0
Before previous es = (id : List ℕ) → is_lt (order previous id) ≡ true → All-below id es

put_last : (id : List ℕ) (life : Life) (es : List (List ℕ × Life)) → All-below id es → put (slice_cmp nat_cmp) id life es ≡ es ++ (id, life) ∷ []
put_last id life [] below = refl
put_last id life (e ∷ es) below =
    let above : order id e.0 ≡ Greater = nat_list_cmp_total.antisymm id e.0 ∙ ap ordering_reverse (less_is _ below.0) in
    ap (λ r. by_order r ((id, life) ∷ e ∷ es) ((e.0, life) ∷ es) (e ∷ put (slice_cmp nat_cmp) id life es)) above ∙ ap (λ (l : List (List ℕ × Life)). e ∷ l) (put_last id life es below.1)

entries-last : (lives : Lives) (id : List ℕ) (life : Life) → All-below id (fin.entries lives) → fin.entries (fin.insert lives id life) ≡ fin.entries lives ++ (id, life) ∷ []
entries-last lives id life below = entries-insert nat_list_cmp_total lives id life ∙ put_last id life (fin.entries lives) below

below_push : (id other : List ℕ) (life : Life) (es : List (List ℕ × Life)) → All-below other es → is_lt (order id other) ≡ true → All-below other (es ++ (id, life) ∷ [])
below_push id other life [] below lt = (lt, tt)
below_push id other life (e ∷ es) below lt = (below.0, below_push id other life es below.1 lt)

before_next : (previous id : List ℕ) (life : Life) (lives : Lives) → is_lt (order previous id) ≡ true → Before previous (fin.entries lives) → Before id (fin.entries (fin.insert lives id life))
before_next previous id life lives after before other lt =
    subst (λ (l : List (List ℕ × Life)). All-below other l) (sym (entries-last lives id life (before id after)))
    (below_push id other life (fin.entries lives) (before other (below_then previous id other after lt)) lt)

entries-empty : fin.entries (fin.empty {X = Life} {R = slice_cmp nat_cmp}) ≡ []
entries-empty = nil_from_length _ (sym (len-entries fin.empty) ∙ len-empty (slice_cmp nat_cmp) Life)

before_first : Before zero_id (fin.entries (fin.empty {X = Life} {R = slice_cmp nat_cmp}))
before_first id lt = subst (λ (l : List (List ℕ × Life)). All-below id l) (sym entries-empty) tt

-- ---- so many known blocks

pub record LivesTaken (n : ℕ) (lives : Lives) (bytes : List ℕ) (x : Lives × List ℕ) : Type 0 where
  pub es : List (List ℕ × Life)
  pub takes : Takes bytes (flat_map life_bytes es) x.1
  pub count : length es ≡ n
  pub entries : fin.entries x.0 ≡ fin.entries lives ++ es
  pub fits : FitLives x.0

lives_take : (n : ℕ) (previous : List ℕ) (lives : Lives) (bytes : List ℕ) (x : Lives × List ℕ) → IsBytes bytes → Before previous (fin.entries lives) → AboveZero previous → FitLives lives
    → lives_at n previous lives bytes ≡ Some x → LivesTaken n lives bytes x
unfolding lives_at
lives_take zero previous lives bytes x small before above fits e =
    subst (λ (y : Lives × List ℕ). LivesTaken 0 lives bytes y) (some_is (lives, bytes) x e)
    (record { es = []; takes = record { parts = refl; rest_fits = small }; count = refl; entries = sym (append-nil (fin.entries lives)); fits = fits })
lives_take (suc n) previous lives bytes x small before above fits e =
    let a = bind_some (known_at previous bytes) (λ e. lives_at n e.0.0 (fin.insert lives e.0.0 e.0.1) e.1) x e in
    let k = a.0.0 in
    let t = known_takes previous bytes a.0 small a.1 in
    let next = t.1 in
    let m = lives_take n k.0 (fin.insert lives k.0 k.1) a.0.1 x t.0.rest_fits (before_next previous k.0 k.1 lives next.after before) (above_next previous k.0 next.after above)
    (fit_set lives k.0 k.1 (next_fits previous k.0 k.1 next above) fits) a.2 in
    let both = Takes-then bytes (life_bytes k) a.0.1 (flat_map life_bytes m.es) x.1 t.0 m.takes in
    record {
      es = k ∷ m.es;
      takes = rw flat_map-cons both;
      count = ap suc m.count;
      entries = m.entries ∙ ap (λ (l : List (List ℕ × Life)). l ++ m.es) (entries-last lives k.0 k.1 (before k.0 next.after)) ∙ append_assoc (fin.entries lives) (k ∷ []) m.es;
      fits = m.fits;
    }

-- each may come after the one before
abbrev Follow : List ℕ → List (List ℕ × Life) → Type 0
Follow previous [] = Unit {0}
Follow previous (e ∷ es) = IsNext previous e.0 e.1 × Follow e.0 es

record LivesAgain (es : List (List ℕ × Life)) (previous : List ℕ) (lives : Lives) (rest : List ℕ) : Type 0 where
  found : Lives
  reads : lives_at (length es) previous lives (flat_map life_bytes es ++ rest) ≡ Some (found, rest)
  entries : fin.entries found ≡ fin.entries lives ++ es

lives_again : (es : List (List ℕ × Life)) (previous : List ℕ) (lives : Lives) (rest : List ℕ) → Before previous (fin.entries lives) → Follow previous es → LivesAgain es previous lives rest
unfolding lives_at
lives_again [] previous lives rest before follow = record { found = lives; reads = refl; entries = sym (append-nil (fin.entries lives)) }
lives_again (e ∷ es) previous lives rest before follow =
    let next = follow.0 in
    let m = lives_again es e.0 (fin.insert lives e.0 e.1) rest (before_next previous e.0 e.1 lives next.after before) follow.1 in
    let regrouped : flat_map life_bytes (e ∷ es) ++ rest ≡ life_bytes e ++ (flat_map life_bytes es ++ rest) =
    ap (λ (x : List ℕ). x ++ rest) (flat_map-cons life_bytes e es) ∙ append_assoc (life_bytes e) (flat_map life_bytes es) rest in
    record {
      found = m.found;
      reads = ap (lives_at (suc (length es)) previous lives) regrouped ∙ rw (known_again previous e.0 e.1 (flat_map life_bytes es ++ rest) next) m.reads;
      entries = m.entries ∙ ap (λ (l : List (List ℕ × Life)). l ++ es) (entries-last lives e.0 e.1 (before e.0 next.after)) ∙ append_assoc (fin.entries lives) (e ∷ []) es;
    }

pub record TableTaken (bytes : List ℕ) (x : Lives × List ℕ) : Type 0 where
  pub takes : Takes bytes (lives_bytes x.0) x.1
  pub fits : FitLives x.0
  pub count : fin.len x.0 < 2 ^ 64

pub table_takes : (bytes : List ℕ) (x : Lives × List ℕ) → IsBytes bytes → table_at bytes ≡ Some x → TableTaken bytes x
unfolding table_at
table_takes bytes x small e =
    let a = bind_some (number_at w64 bytes) (λ n. lives_at n.0 zero_id fin.empty n.1) x e in
    let t = number_takes wide64 bytes a.0 small a.1 in
    let m = lives_take a.0.0 zero_id fin.empty a.0.1 x t.0.rest_fits before_first above_zero fit_empty a.2 in
    let same : fin.entries x.0 ≡ m.es = m.entries ∙ ap (λ (l : List (List ℕ × Life)). l ++ m.es) entries-empty in
    let counted : length m.es < 2 ^ 64 = omega (arith, m.count, t.1) in
    let both : Takes bytes (known_bytes m.es) x.1 = subst (λ (n : ℕ). Takes bytes (to_le_bytes w64 n ++ flat_map life_bytes m.es) x.1) (sym m.count) (Takes-then bytes (to_le_bytes w64 a.0.0) a.0.1 (flat_map life_bytes m.es) x.1 t.0 m.takes) in
    record {
      takes = subst (λ (l : List (List ℕ × Life)). Takes bytes (known_bytes l) x.1) (sym same) both;
      fits = m.fits;
      count = subst (λ (n : ℕ). n < 2 ^ 64) (sym (len-entries x.0 ∙ ap length same)) counted;
    }

-- ---- the entries of lives that fit follow one another

both : (a b : Bool) → a ≡ true → T b → T (a && b)
both true b p q = q
both false b p q = absurd cc

not_tied : (r : Ordering) → T (is_lt r) → is_eq r ≡ false
not_tied Less p = refl
not_tied Equal p = absurd p
not_tied Greater p = absurd p

find_above : (q : List ℕ) (es : List (List ℕ × Life)) → T (below_all (slice_cmp nat_cmp) q es) → find (slice_cmp nat_cmp) q es ≡ None
find_above q [] p = refl
find_above q (e ∷ es) p =
    ap (λ b. cond b (Some e.1) (find (slice_cmp nat_cmp) q es)) (not_tied (order q e.0) (left (is_lt (order q e.0)) _ p)) ∙ find_above q es (right (is_lt (order q e.0)) _ p)

FitEach : List (List ℕ × Life) → Type 0
FitEach es = (q : List ℕ) → IfSome (find (slice_cmp nat_cmp) q es) (FitsLife q)

fit_head : (e : List ℕ × Life) (es : List (List ℕ × Life)) → FitEach (e ∷ es) → FitsLife e.0 e.1
unfolding FitEach
fit_head e es fits =
    subst (λ (o : Option Life). IfSome o (FitsLife e.0)) (ap (λ r. cond (is_eq r) (Some e.1) (find (slice_cmp nat_cmp) e.0 es)) (tied_itself nat_list_cmp_total e.0)) (fits e.0)

fit_tail : (e : List ℕ × Life) (es : List (List ℕ × Life)) → T (below_all (slice_cmp nat_cmp) e.0 es) → FitEach (e ∷ es) → FitEach es
unfolding FitEach
fit_tail e es below fits q = by (eq_by_cmp (slice_cmp nat_cmp) q e.0) refl (fits q)
  where
    by : (b : Bool) → b ≡ eq_by_cmp (slice_cmp nat_cmp) q e.0 → IfSome (cond b (Some e.1) (find (slice_cmp nat_cmp) q es)) (FitsLife q) → IfSome (find (slice_cmp nat_cmp) q es) (FitsLife q)
    by true is h =
        let same : q ≡ e.0 = slice_cmp-IsAntisymmetric nat_cmp-IsAntisymmetric q e.0 ((Equal-is (slice_cmp nat_cmp q e.0)).0 (sym is)) in
        subst (λ (o : Option Life). IfSome o (FitsLife q)) (sym (ap (λ (x : List ℕ). find (slice_cmp nat_cmp) x es) same ∙ find_above e.0 es below)) tt
    by false is h = h

follow : (previous : List ℕ) (es : List (List ℕ × Life)) → T (below_all (slice_cmp nat_cmp) previous es) → T (is_sorted (slice_cmp nat_cmp) es) → FitEach es → Follow previous es
follow previous [] below sorted fits = tt
follow previous (e ∷ es) below sorted fits =
    let fit = fit_head e es fits in
    let under = left (below_all (slice_cmp nat_cmp) e.0 es) _ sorted in (
      record { length = fit.length; after = true_of _ (left (is_lt (order previous e.0)) _ below); from_one = fit.from_one; below = fit.below },
      follow e.0 es under (right (below_all (slice_cmp nat_cmp) e.0 es) _ sorted) (fit_tail e es under fits),
    )

least : (x : ℕ) (xs : List ℕ) (n : ℕ) → (xs ≢ replicate n 0 → is_lt (order (replicate n 0) xs) ≡ true) → x ∷ xs ≢ 0 ∷ replicate n 0 → is_lt (ordering_then (nat_cmp 0 x) (order (replicate n 0) xs)) ≡ true
least zero xs n rest differs = rest (λ e. differs (ap (λ (l : List ℕ). 0 ∷ l) e))
least (suc x) xs n rest differs =
    let positive : 0 < suc x = omega arith in
    let below : nat_cmp 0 (suc x) ≡ Less = sym (nat_cmp_is 0 (suc x) Less positive) in
    ap (λ r. is_lt (ordering_then r (order (replicate n 0) xs))) below

zero_least : (n : ℕ) (id : List ℕ) → length id ≡ n → id ≢ replicate n 0 → is_lt (order (replicate n 0) id) ≡ true
zero_least zero [] len differs = absurd (differs refl)
zero_least zero (x ∷ xs) len differs = absurd (omega arith)
zero_least (suc n) [] len differs = absurd (omega arith)
zero_least (suc n) (x ∷ xs) len differs = least x xs n (λ d. zero_least n xs (omega arith) d) differs

all_above_zero : (es : List (List ℕ × Life)) → T (is_sorted (slice_cmp nat_cmp) es) → FitEach es → T (below_all (slice_cmp nat_cmp) zero_id es)
all_above_zero [] sorted fits = tt
all_above_zero (e ∷ es) sorted fits =
    let fit = fit_head e es fits in
    let under = left (below_all (slice_cmp nat_cmp) e.0 es) _ sorted in
    both (is_lt (order zero_id e.0)) _ (zero_least 16 e.0 fit.length fit.not_zero) (all_above_zero es (right (below_all (slice_cmp nat_cmp) e.0 es) _ sorted) (fit_tail e es under fits))

-- lives that fit are read again
pub table_again : (lives : Lives) (rest : List ℕ) → FitLives lives → fin.len lives < 2 ^ 64 → table_at (lives_bytes lives ++ rest) ≡ Some (lives, rest)
unfolding table_at FitEach
table_again lives rest fits few =
    let es = fin.entries lives in
    let each : FitEach es = λ q. subst (λ (o : Option Life). IfSome o (FitsLife q)) (get-entries lives q) (fits q) in
    let sorted = entries_sorted lives in
    let m = lives_again es zero_id fin.empty rest before_first (follow zero_id es (all_above_zero es sorted each) sorted each) in
    let same : m.found ≡ lives = same_entries_map m.found lives (m.entries ∙ ap (λ (l : List (List ℕ × Life)). l ++ es) entries-empty) in
    let counted : length es < 2 ^ 64 = subst (λ (n : ℕ). n < 2 ^ 64) (len-entries lives) few in
    ap table_at (append_assoc (to_le_bytes w64 (length es)) (flat_map life_bytes es) rest)
    ∙ rw (number_again wide64 (length es) (flat_map life_bytes es ++ rest) counted) (m.reads ∙ ap (λ (k : Lives). Some (k, rest)) same)
