-- The live ids among the entries of a table.
use Rattle.std.proofs.Common.{◌≡◌, ◌∙◌, ℕ, Bool, true, false, cond, List, [], ◌∷◌, map, refl, ap, Result, Ok, Err}
use Rattle.std.specs.Prelude.{filter, IfOk}
use Rattle.std.specs.FinMap as fin
use Rattle.std.specs.Global.{Vec}
use Rattle.block_id.specs.declared.id.BlockId.{BlockId}
use Rattle.block_id.specs.declared.fail.Memory.{Memory}
use Rattle.local_state.specs.declared.life.Life.{Life}
use Rattle.local_state.specs.Known.{Lives, plain_entry, live_ids}

abbrev ids_in : List (BlockId × Life) → List BlockId
ids_in es = map (λ e. e.0) (filter (λ e. e.1.live) es)

abbrev plain_ids_in : List (List ℕ × Life) → List (List ℕ)
plain_ids_in es = map (λ e. e.0) (filter (λ e. e.1.live) es)

abbrev bytes_in : List BlockId → List (List ℕ)
bytes_in ids = map (λ id. id.0) ids

one_more : (live : Bool) (e : BlockId × Life) (xs : List (BlockId × Life)) (ys : List (List ℕ × Life)) → bytes_in (map (λ x. x.0) xs) ≡ map (λ y. y.0) ys
    → bytes_in (map (λ x. x.0) (cond live (e ∷ xs) xs)) ≡ map (λ y. y.0) (cond live (plain_entry e ∷ ys) ys)
one_more true e xs ys h = ap (λ ids. e.0.0 ∷ ids) h
one_more false e xs ys h = h

living : (es : List (BlockId × Life)) → bytes_in (ids_in es) ≡ plain_ids_in (map plain_entry es)
living [] = refl
living (e ∷ es) = one_more e.1.live e (filter (λ x. x.1.live) es) (filter (λ y. y.1.live) (map plain_entry es)) (living es)

pub living_ok : (lives : Lives) (es : List (BlockId × Life)) (r : Result (Vec BlockId) Memory) → map plain_entry es ≡ fin.entries lives → IfOk r (λ ids. ids.items ≡ ids_in es)
    → IfOk r (λ ids. bytes_in ids.items ≡ live_ids lives)
living_ok lives es (Ok ids) all is = ap bytes_in is ∙ (living es ∙ ap plain_ids_in all)
living_ok lives es (Err e) all is = tt
