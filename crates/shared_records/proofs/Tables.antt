-- The rows say what the map of them answers, and the list is read alike with either.
use Rattle.std.proofs.Common.{◌≡◌, ℕ, zero, suc, Bool, true, false, cond, List, [], ◌∷◌, ◌++◌, refl, sym, ap, ◌∙◌}
use Rattle.std.specs.Prelude.{Option, Some, None, ◌&&◌, not, if◌then◌else◌}
use Rattle.std.specs.Option.{option_map, option_map_or, is_some}
use Rattle.std.specs.Str.{bytes_eq}
use Rattle.std.specs.FinMap as fin
use Rattle.outside.specs.Trace.{At, config, block}
use Rattle.local_state.specs.declared.life.Life.{Life}
use Rattle.local_state.specs.Known.{Lives}
use Rattle.local_state.specs.Reading.{◌>>=◌, known_at, lives_at, name_at, change_at, entry_at, entries_at}
use Rattle.local_state.specs.Record.{ListEntry, comes_after, may_change, has_bytes}
use Rattle.local_state.proofs.Fields.{bind_some}
use Rattle.local_state.proofs.Lookups.{get-set}
use Rattle.shared_records.specs.Scan.{rows_at, life_in, may_by, is_live_life, is_dead_life, entries_past}

abbrev pub row : Type 0
row = (List ℕ × Life) × List ℕ

rows_next : (n : ℕ) (lives : Lives) → ((previous : List ℕ) (lives : Lives) (bytes : List ℕ) → option_map (λ x. x.1) (lives_at n previous lives bytes) ≡ rows_at n previous bytes) → (o : Option row)
    → option_map (λ x. x.1) (o >>= (λ e. lives_at n e.0.0 (fin.insert lives e.0.0 e.0.1) e.1)) ≡ (o >>= (λ e. rows_at n e.0.0 e.1))
rows_next n lives rest None = refl
rows_next n lives rest (Some e) = rest e.0.0 (fin.insert lives e.0.0 e.0.1) e.1

pub rows_end : (n : ℕ) (previous : List ℕ) (lives : Lives) (bytes : List ℕ) → option_map (λ x. x.1) (lives_at n previous lives bytes) ≡ rows_at n previous bytes
unfolding lives_at rows_at
rows_end zero previous lives bytes = refl
rows_end (suc n) previous lives bytes = rows_next n lives (rows_end n) (known_at previous bytes)

pub rows_say : (n : ℕ) (previous : List ℕ) (lives : Lives) (bytes : List ℕ) (x : Lives × List ℕ) (id : List ℕ) → lives_at n previous lives bytes ≡ Some x → fin.get x.0 id ≡ life_in n previous bytes id (fin.get lives id)
unfolding lives_at life_in
rows_say zero previous lives bytes x id e = (λ i. fin.get (same i).0 id)
  where
    same : x ≡ (lives, bytes)
    same = sym (some_is e)
      where
        some_is : {A : Type 0} {a b : A} → Some a ≡ Some b → a ≡ b
        some_is e = cc
rows_say (suc n) previous lives bytes x id e =
    let a = bind_some (known_at previous bytes) (λ e. lives_at n e.0.0 (fin.insert lives e.0.0 e.0.1) e.1) x e in
    let k = a.0 in
    rows_say n k.0.0 (fin.insert lives k.0.0 k.0.1) k.1 x id a.2
    ∙ ap (λ (o : Option Life). life_in n k.0.0 k.1 id o) (get-set lives k.0.0 id k.0.1)
    ∙ ap (λ (o : Option row). o >>= (λ e. life_in n e.0.0 e.1 id (if bytes_eq e.0.0 id then Some e.0.1 else fin.get lives id))) (sym a.1)

-- ---- the list

live_by : (o : Option Life) → option_map_or (λ m. m.live) o false ≡ is_live_life o
live_by None = refl
live_by (Some life) = refl

dead_by : (o : Option Life) → (is_some o && not (option_map_or (λ m. m.live) o false)) ≡ is_dead_life o
dead_by None = refl
dead_by (Some life) = refl

pub may_is : (said : List ℕ → Option Life) (lives : Lives) → ((id : List ℕ) → fin.get lives id ≡ said id) → (name : At) (b : Bool) → may_change lives name b ≡ may_by said name b
may_is said lives is config b = refl
may_is said lives is (block id) true = ap (λ (o : Option Life). option_map_or (λ m. m.live) o false) (is id) ∙ live_by (said id)
may_is said lives is (block id) false = ap (λ (o : Option Life). is_some o && not (option_map_or (λ m. m.live) o false)) (is id) ∙ dead_by (said id)

abbrev pub Rest : (List ℕ → Option Life) → Lives → ℕ → Type 0
Rest said lives n = (previous : Option At) (before : List ListEntry) (bytes : List ℕ) → option_map (λ x. x.1) (entries_at lives n previous before bytes) ≡ entries_past said n previous bytes

abbrev pub entry : Type 0
entry = ListEntry × List ℕ

abbrev pub no_entry : Option entry
no_entry = None

if_may : (said : List ℕ → Option Life) (lives : Lives) (n : ℕ) (before : List ListEntry) (name : At) (change : Option (List ℕ)) (bytes : List ℕ) (c d : Bool) → c ≡ d → Rest said lives n
    → option_map (λ x. x.1) (cond c (Some ((name, change), bytes)) no_entry >>= (λ e. entries_at lives n (Some e.0.0) (before ++ e.0 ∷ []) e.1)) ≡ cond d (entries_past said n (Some name) bytes) None
if_may said lives n before name change bytes true d same rest = rest (Some name) (before ++ (name, change) ∷ []) bytes ∙ ap (λ (b : Bool). cond b (entries_past said n (Some name) bytes) None) same
if_may said lives n before name change bytes false d same rest = ap (λ (b : Bool). cond b (entries_past said n (Some name) bytes) None) same

abbrev pub go_on : Lives → ℕ → List ListEntry → entry → Option (List ListEntry × List ℕ)
go_on lives n before e = entries_at lives n (Some e.0.0) (before ++ e.0 ∷ []) e.1

change_next : (said : List ℕ → Option Life) (lives : Lives) (n : ℕ) (previous : Option At) (before : List ListEntry) (name : At) → ((id : List ℕ) → fin.get lives id ≡ said id) → Rest said lives n
    → (o : Option (Option (List ℕ) × List ℕ))
    → option_map (λ x. x.1) ((o >>= (λ change. if comes_after previous name && may_change lives name (has_bytes change.0) then Some ((name, change.0), change.1) else no_entry)) >>= go_on lives n before)
    ≡ (o >>= (λ change. if comes_after previous name && may_by said name (has_bytes change.0) then entries_past said n (Some name) change.1 else None))
change_next said lives n previous before name is rest None = refl
change_next said lives n previous before name is rest (Some change) =
    if_may said lives n before name change.0 change.1 (comes_after previous name && may_change lives name (has_bytes change.0)) (comes_after previous name && may_by said name (has_bytes change.0))
    (ap (λ (b : Bool). comes_after previous name && b) (may_is said lives is name (has_bytes change.0))) rest

name_next : (said : List ℕ → Option Life) (lives : Lives) (n : ℕ) (previous : Option At) (before : List ListEntry) → ((id : List ℕ) → fin.get lives id ≡ said id) → Rest said lives n → (o : Option (At × List ℕ))
    → option_map (λ x. x.1)
    ((o >>= (λ name. change_at name.1 >>= (λ change. if comes_after previous name.0 && may_change lives name.0 (has_bytes change.0) then Some ((name.0, change.0), change.1) else no_entry))) >>= go_on lives n before)
    ≡ (o >>= (λ name. change_at name.1 >>= (λ change. if comes_after previous name.0 && may_by said name.0 (has_bytes change.0) then entries_past said n (Some name.0) change.1 else None)))
name_next said lives n previous before is rest None = refl
name_next said lives n previous before is rest (Some name) = change_next said lives n previous before name.0 is rest (change_at name.1)

-- the list is read alike with the map and with what the rows say
pub entries_end : (said : List ℕ → Option Life) (lives : Lives) → ((id : List ℕ) → fin.get lives id ≡ said id) → (n : ℕ) (previous : Option At) (before : List ListEntry) (bytes : List ℕ)
    → option_map (λ x. x.1) (entries_at lives n previous before bytes) ≡ entries_past said n previous bytes
unfolding entries_at entry_at entries_past
entries_end said lives is zero previous before bytes = refl
entries_end said lives is (suc n) previous before bytes = name_next said lives n previous before is (entries_end said lives is n) (name_at bytes)
