-- The list entries of a record, read and written.
use Rattle.std.proofs.Common.{◌≡◌, ℕ, zero, suc, ◌^◌, ◌<◌, Bool, true, false, cond, List, [], ◌∷◌, ◌++◌, length, Option, Some, None, refl, sym, ap, subst, ◌∙◌, append_assoc, arith}
use Rattle.std.specs.Prelude.{◌&&◌}
use Rattle.std.specs.Int.{w32, w64, to_le_bytes}
use Rattle.std.specs.List.{flat_map, AllByRecursion}
use Rattle.std.proofs.lemmas.List.{append-nil}
use Rattle.std.proofs.lemmas.List.Concat.{flat_map-cons}
use Rattle.outside.specs.Trace.{At, config, block}
use Rattle.local_state.specs.Known.{Lives}
use Rattle.local_state.specs.Record.{ListEntry, flag, name_bytes, change_bytes, entry_bytes, list_bytes, may_change, comes_after, has_bytes, Rise, FitsName, FitsBytes, FitsEntry, FitsList}
use Rattle.byte_fields.specs.Fields.{IsBytes, front_at, number_at}
use Rattle.byte_fields.proofs.Fields.{Takes, Takes-then, front_takes, front_again, wide32, wide64, number_takes, number_again}
use Rattle.local_state.specs.Reading.{◌>>=◌, flag_at, name_at, change_at, entry_at, entries_at, list_at}
use Rattle.local_state.proofs.Fields.{bind_some, guard_some, some_is, flag_takes}
use Rattle.block_id.proofs.Conditions.{and_true}

-- ---- names

name_then : (bytes : List ℕ) (is_block : Bool × List ℕ) (x : At × List ℕ) → Takes bytes (flag is_block.0 ∷ []) is_block.1
    → cond is_block.0 (front_at 16 is_block.1 >>= (λ id. Some (block id.0, id.1))) (Some (config, is_block.1)) ≡ Some x → Takes bytes (name_bytes x.0) x.1 × FitsName x.0
name_then bytes (false, rest) x t e = subst (λ (y : At × List ℕ). Takes bytes (name_bytes y.0) y.1 × FitsName y.0) (some_is (config, rest) x e) (t, tt)
name_then bytes (true, rest) x t e =
    let a = bind_some (front_at 16 rest) (λ id. Some (block id.0, id.1)) x e in
    let f = front_takes 16 rest a.0 t.rest_fits a.1 in
    subst (λ (y : At × List ℕ). Takes bytes (name_bytes y.0) y.1 × FitsName y.0) (some_is (block a.0.0, a.0.1) x a.2) (Takes-then bytes (1 ∷ []) rest a.0.0 a.0.1 t f.0, f.1)

name_takes : (bytes : List ℕ) (x : At × List ℕ) → IsBytes bytes → name_at bytes ≡ Some x → Takes bytes (name_bytes x.0) x.1 × FitsName x.0
unfolding name_at
name_takes bytes x small e =
    let a = bind_some (flag_at bytes) (λ is_block. cond is_block.0 (front_at 16 is_block.1 >>= (λ id. Some (block id.0, id.1))) (Some (config, is_block.1))) x e in
    name_then bytes a.0 x (flag_takes bytes a.0 small a.1) a.2

name_again : (name : At) (rest : List ℕ) → FitsName name → name_at (name_bytes name ++ rest) ≡ Some (name, rest)
unfolding name_at
name_again config rest fits = refl
name_again (block id) rest fits = rw (front_again 16 id rest fits) refl

-- ---- changes

change_then : (bytes : List ℕ) (has : Bool × List ℕ) (x : Option (List ℕ) × List ℕ) → Takes bytes (flag has.0 ∷ []) has.1
    → cond has.0 (number_at w32 has.1 >>= (λ n. front_at n.0 n.1 >>= (λ new. Some (Some new.0, new.1)))) (Some (None, has.1)) ≡ Some x → Takes bytes (change_bytes x.0) x.1 × FitsBytes x.0
change_then bytes (false, rest) x t e = subst (λ (y : Option (List ℕ) × List ℕ). Takes bytes (change_bytes y.0) y.1 × FitsBytes y.0) (some_is (None, rest) x e) (t, tt)
change_then bytes (true, rest) x t e =
    let a = bind_some (number_at w32 rest) (λ n. front_at n.0 n.1 >>= (λ new. Some (Some new.0, new.1))) x e in
    let b = bind_some (front_at a.0.0 a.0.1) (λ new. Some (Some new.0, new.1)) x a.2 in
    let n = number_takes wide32 rest a.0 t.rest_fits a.1 in
    let f = front_takes a.0.0 a.0.1 b.0 n.0.rest_fits b.1 in
    let both = Takes-then rest (to_le_bytes w32 a.0.0) a.0.1 b.0.0 b.0.1 n.0 f.0 in
    let sized : Takes rest (to_le_bytes w32 (length b.0.0) ++ b.0.0) b.0.1 = subst (λ (k : ℕ). Takes rest (to_le_bytes w32 k ++ b.0.0) b.0.1) (sym f.1) both in
    let short : length b.0.0 < 2 ^ 32 = omega (arith, f.1, n.1) in
    subst (λ (y : Option (List ℕ) × List ℕ). Takes bytes (change_bytes y.0) y.1 × FitsBytes y.0) (some_is (Some b.0.0, b.0.1) x b.2)
    (Takes-then bytes (1 ∷ []) rest (to_le_bytes w32 (length b.0.0) ++ b.0.0) b.0.1 t sized, short)

change_takes : (bytes : List ℕ) (x : Option (List ℕ) × List ℕ) → IsBytes bytes → change_at bytes ≡ Some x → Takes bytes (change_bytes x.0) x.1 × FitsBytes x.0
unfolding change_at
change_takes bytes x small e =
    let a = bind_some (flag_at bytes) (λ has. cond has.0 (number_at w32 has.1 >>= (λ n. front_at n.0 n.1 >>= (λ new. Some (Some new.0, new.1)))) (Some (None, has.1))) x e in
    change_then bytes a.0 x (flag_takes bytes a.0 small a.1) a.2

change_again : (change : Option (List ℕ)) (rest : List ℕ) → FitsBytes change → change_at (change_bytes change ++ rest) ≡ Some (change, rest)
unfolding change_at
change_again None rest fits = refl
change_again (Some new) rest fits =
    ap (λ (r : List ℕ). change_at (1 ∷ r)) (append_assoc (to_le_bytes w32 (length new)) new rest)
    ∙ rw (number_again wide32 (length new) (new ++ rest) fits, front_again (length new) new rest refl) refl

-- ---- one entry

entry_takes : (lives : Lives) (previous : Option At) (bytes : List ℕ) (x : ListEntry × List ℕ) → IsBytes bytes → entry_at lives previous bytes ≡ Some x
    → Takes bytes (entry_bytes x.0) x.1 × FitsEntry lives x.0 × (comes_after previous x.0.0 ≡ true)
unfolding entry_at
entry_takes lives previous bytes x small e =
    let a = bind_some (name_at bytes) (λ name. change_at name.1 >>= λ change. cond (comes_after previous name.0 && may_change lives name.0 (has_bytes change.0)) (Some ((name.0, change.0), change.1)) None) x e in
    let b = bind_some (change_at a.0.1) (λ change. cond (comes_after previous a.0.0 && may_change lives a.0.0 (has_bytes change.0)) (Some ((a.0.0, change.0), change.1)) None) x a.2 in
    let g = guard_some (comes_after previous a.0.0 && may_change lives a.0.0 (has_bytes b.0.0)) ((a.0.0, b.0.0), b.0.1) x b.2 in
    let tests = and_true _ _ g.0 in
    let t0 = name_takes bytes a.0 small a.1 in
    let t1 = change_takes a.0.1 b.0 t0.0.rest_fits b.1 in
    let fits : FitsEntry lives (a.0.0, b.0.0) = record { name = t0.1; bytes = t1.1; change = tests.1 } in
    subst (λ (y : ListEntry × List ℕ). Takes bytes (entry_bytes y.0) y.1 × FitsEntry lives y.0 × (comes_after previous y.0.0 ≡ true)) g.1
    (Takes-then bytes (name_bytes a.0.0) a.0.1 (change_bytes b.0.0) b.0.1 t0.0 t1.0, fits, tests.0)

and_so : (a b : Bool) → a ≡ true → b ≡ true → (a && b) ≡ true
and_so true b p q = q
and_so false b p q = absurd cc

entry_again : (lives : Lives) (previous : Option At) (e : ListEntry) (rest : List ℕ) → FitsEntry lives e → comes_after previous e.0 ≡ true → entry_at lives previous (entry_bytes e ++ rest) ≡ Some (e, rest)
unfolding entry_at
entry_again lives previous e rest fits after =
    ap (entry_at lives previous) (append_assoc (name_bytes e.0) (change_bytes e.1) rest)
    ∙ rw (name_again e.0 (change_bytes e.1 ++ rest) fits.name, change_again e.1 rest fits.bytes, and_so _ _ after fits.change) refl

-- ---- so many entries

pub record EntriesTaken (lives : Lives) (n : ℕ) (previous : Option At) (before : List ListEntry) (bytes : List ℕ) (x : List ListEntry × List ℕ) : Type 0 where
  pub es : List ListEntry
  pub takes : Takes bytes (flat_map entry_bytes es) x.1
  pub count : length es ≡ n
  pub list : x.0 ≡ before ++ es
  pub each : AllByRecursion (FitsEntry lives) es
  pub rise : Rise previous es

entries_take : (lives : Lives) (n : ℕ) (previous : Option At) (before : List ListEntry) (bytes : List ℕ) (x : List ListEntry × List ℕ) → IsBytes bytes → entries_at lives n previous before bytes ≡ Some x
    → EntriesTaken lives n previous before bytes x
unfolding entries_at
entries_take lives zero previous before bytes x small e =
    subst (λ (y : List ListEntry × List ℕ). EntriesTaken lives 0 previous before bytes y) (some_is (before, bytes) x e)
    (record { es = []; takes = record { parts = refl; rest_fits = small }; count = refl; list = sym (append-nil before); each = tt; rise = tt })
entries_take lives (suc n) previous before bytes x small e =
    let a = bind_some (entry_at lives previous bytes) (λ e. entries_at lives n (Some e.0.0) (before ++ e.0 ∷ []) e.1) x e in
    let t = entry_takes lives previous bytes a.0 small a.1 in
    let m = entries_take lives n (Some a.0.0.0) (before ++ a.0.0 ∷ []) a.0.1 x t.0.rest_fits a.2 in
    let both = Takes-then bytes (entry_bytes a.0.0) a.0.1 (flat_map entry_bytes m.es) x.1 t.0 m.takes in
    record {
      es = a.0.0 ∷ m.es;
      takes = rw flat_map-cons both;
      count = ap suc m.count;
      list = m.list ∙ append_assoc before (a.0.0 ∷ []) m.es;
      each = (t.1, m.each);
      rise = (t.2, m.rise);
    }

entries_again : (lives : Lives) (es : List ListEntry) (previous : Option At) (before : List ListEntry) (rest : List ℕ) → AllByRecursion (FitsEntry lives) es → Rise previous es
    → entries_at lives (length es) previous before (flat_map entry_bytes es ++ rest) ≡ Some (before ++ es, rest)
unfolding entries_at
entries_again lives [] previous before rest each rise = ap (λ (l : List ListEntry). Some (l, rest)) (sym (append-nil before))
entries_again lives (e ∷ es) previous before rest each rise =
    let regrouped : flat_map entry_bytes (e ∷ es) ++ rest ≡ entry_bytes e ++ (flat_map entry_bytes es ++ rest) =
    ap (λ (x : List ℕ). x ++ rest) (flat_map-cons entry_bytes e es) ∙ append_assoc (entry_bytes e) (flat_map entry_bytes es) rest in
    ap (entries_at lives (suc (length es)) previous before) regrouped
    ∙ rw (entry_again lives previous e (flat_map entry_bytes es ++ rest) each.0 rise.0) (entries_again lives es (Some e.0) (before ++ e ∷ []) rest each.1 rise.1)
    ∙ ap (λ (l : List ListEntry). Some (l, rest)) (append_assoc before (e ∷ []) es)

pub list_takes : (lives : Lives) (bytes : List ℕ) (x : List ListEntry × List ℕ) → IsBytes bytes → list_at lives bytes ≡ Some x → Takes bytes (list_bytes x.0) x.1 × FitsList lives x.0
unfolding list_at
list_takes lives bytes x small e =
    let a = bind_some (number_at w64 bytes) (λ n. entries_at lives n.0 None [] n.1) x e in
    let t = number_takes wide64 bytes a.0 small a.1 in
    let m = entries_take lives a.0.0 None [] a.0.1 x t.0.rest_fits a.2 in
    let counted : length m.es < 2 ^ 64 = omega (arith, m.count, t.1) in
    let both : Takes bytes (list_bytes m.es) x.1 = subst (λ (n : ℕ). Takes bytes (to_le_bytes w64 n ++ flat_map entry_bytes m.es) x.1) (sym m.count) (Takes-then bytes (to_le_bytes w64 a.0.0) a.0.1 (flat_map entry_bytes m.es) x.1 t.0 m.takes) in
    let fits : FitsList lives m.es = record { each = m.each; order = m.rise; count = counted } in
    subst (λ (l : List ListEntry). Takes bytes (list_bytes l) x.1 × FitsList lives l) (sym m.list) (both, fits)

pub list_again : (lives : Lives) (list : List ListEntry) (rest : List ℕ) → FitsList lives list → list_at lives (list_bytes list ++ rest) ≡ Some (list, rest)
unfolding list_at
list_again lives list rest fits =
    ap (list_at lives) (append_assoc (to_le_bytes w64 (length list)) (flat_map entry_bytes list) rest)
    ∙ rw (number_again wide64 (length list) (flat_map entry_bytes list ++ rest) fits.count) (entries_again lives list None [] rest fits.each fits.order)
