-- What the loops of the writer have written.
use Rattle.std.proofs.Common.{◌≡◌, ℕ, ◌+◌, ◌<◌, ◌≤◌, List, [], ◌∷◌, ◌++◌, map, length, take, get_or, All, sym, ap, ◌∙◌, append_assoc}
use Rattle.std.specs.Int.{w64, to_le_bytes}
use Rattle.std.specs.List.{flat_map, AllByRecursion}
use Rattle.std.proofs.lemmas.List.{take_more, take_all, length-map, map_push, flat_map_more}
use Rattle.std.proofs.lemmas.List.Elements.{All-from_recursion}
use Rattle.outside.specs.declared.change.Pending.{Pending}
use Rattle.outside.specs.View.{list_of, change_of}
use Rattle.local_state.specs.Known.{Lives}
use Rattle.local_state.specs.Record.{FitsEntry, FitsBytes}

-- the new bytes of entries that fit, at each place
bytes_fit : (lives : Lives) (list : List Pending) → AllByRecursion (FitsEntry lives) (list_of list) → AllByRecursion (λ p. FitsBytes (change_of p.change)) list
bytes_fit lives [] fits = tt
bytes_fit lives (p ∷ list) fits = (fits.0.bytes, bytes_fit lives list fits.1)

pub each_fits : (lives : Lives) (list : List Pending) → AllByRecursion (FitsEntry lives) (list_of list) → All (λ p. FitsBytes (change_of p.change)) list
each_fits lives list fits = All-from_recursion (λ p. FitsBytes (change_of p.change)) list (bytes_fit lives list fits)

-- one entry more stands behind those before
pub written_more : {A B : Type 0} (bytes_of : B → List ℕ) (plain : A → B) (front : List ℕ) (xs : List A) (i : ℕ) (x : A) → i < length xs → x ≡ get_or xs i x
    → (front ++ flat_map bytes_of (map plain (take i xs))) ++ bytes_of (plain x) ≡ front ++ flat_map bytes_of (map plain (take (i + 1) xs))
written_more bytes_of plain front xs i x lt is =
    let next : take i xs ++ x ∷ [] ≡ take (i + 1) xs = ap (λ y. take i xs ++ y ∷ []) is ∙ sym (take_more xs i x lt) in
    flat_map_more bytes_of front (map plain (take i xs)) (plain x) ∙ ap (λ ys. front ++ flat_map bytes_of ys) (sym (map_push plain (take i xs) x) ∙ ap (map plain) next)

-- all entries stand behind their number
pub written_all : {A B : Type 0} (bytes_of : B → List ℕ) (plain : A → B) (front : List ℕ) (xs : List A) (i : ℕ) → length xs ≤ i
    → (front ++ to_le_bytes w64 (length xs)) ++ flat_map bytes_of (map plain (take i xs)) ≡ front ++ (to_le_bytes w64 (length (map plain xs)) ++ flat_map bytes_of (map plain xs))
written_all bytes_of plain front xs i le =
    ap (λ ys. (front ++ to_le_bytes w64 (length xs)) ++ flat_map bytes_of (map plain ys)) (take_all i xs le)
    ∙ append_assoc front (to_le_bytes w64 (length xs)) (flat_map bytes_of (map plain xs))
    ∙ ap (λ n. front ++ (to_le_bytes w64 n ++ flat_map bytes_of (map plain xs))) (sym (length-map xs plain))
