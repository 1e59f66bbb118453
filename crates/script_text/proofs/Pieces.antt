-- Pieces between slashes that are names.
use Rattle.std.proofs.Common.{◌≡◌, ℕ, true, false, cond, List, [], ◌∷◌, length, map, refl, All, arith}
use Rattle.std.specs.List.{list_any, slice_split, onto_first}
use Rattle.std.proofs.lemmas.Bool.{or_parts, or_from, and_from, not_from_false, eqb-false, ltb-false, lt-ltb, le-leb}
use Rattle.std.proofs.lemmas.List.Elements.{All-nil, All-cons, All-head, All-tail}
use Rattle.fs_model.specs.declared.limits.TheConstants.{MAX_NAME}
use Rattle.fs_model.specs.Names.{IsName, is_dots, is_reserved, is_zero}
use Rattle.script_text.specs.PathTexts.{is_slash, is_long}
use Rattle.script_text.specs.Words.{is_empty}

-- no byte of the piece is reserved
abbrev pub Free : List ℕ → Type 0
Free n = list_any is_reserved n ≡ false

none_any : Free []
none_any = refl

onto_first_free : (x : ℕ) (parts : List (List ℕ)) → is_reserved x ≡ false → All Free parts → All Free (onto_first x parts)
onto_first_free x [] h all = All-cons Free (x ∷ []) [] (or_from (is_reserved x) false h refl) (All-nil Free)
onto_first_free x (part ∷ parts) h all =
    All-cons Free (x ∷ part) parts (or_from (is_reserved x) (list_any is_reserved part) h (All-head Free part parts all)) (All-tail Free part parts all)

pub pieces_free : (bs : List ℕ) → list_any is_zero bs ≡ false → All Free (slice_split is_slash bs)
pieces_free [] h = All-cons Free [] [] none_any (All-nil Free)
pieces_free (b ∷ bs) h =
    let parts = or_parts (is_zero b) (list_any is_zero bs) h in
    let rest = pieces_free bs parts.1 in
    elim (is_slash b) as (λ t. is_slash b ≡ t → All Free (cond t ([] ∷ slice_split is_slash bs) (onto_first b (slice_split is_slash bs)))) [
      | true ↦ λ e. All-cons Free [] (slice_split is_slash bs) none_any rest
      | false ↦ λ e. onto_first_free b (slice_split is_slash bs) (or_from (is_zero b) (is_slash b) parts.0 e) rest
    ] refl

piece_name : (n : List ℕ) → is_empty n ≡ false → is_dots n ≡ false → is_long n ≡ false → Free n → IsName n
piece_name n some no_dots short free =
    and_from _ _ (lt-ltb 0 (length n) (let e = eqb-false (length n) 0 some in omega arith))
    (and_from _ _ (le-leb (length n) MAX_NAME (ltb-false MAX_NAME (length n) short))
    (and_from _ _ (not_from_false _ free) (not_from_false _ no_dots)))

-- pieces that none of the tests refuses
pub pieces_names : (ns : List (List ℕ)) → list_any is_empty ns ≡ false → list_any is_dots ns ≡ false → list_any is_long ns ≡ false → All Free ns → All IsName ns
pieces_names [] some no_dots short free = All-nil IsName
pieces_names (n ∷ ns) some no_dots short free =
    let s = or_parts (is_empty n) (list_any is_empty ns) some in
    let d = or_parts (is_dots n) (list_any is_dots ns) no_dots in
    let l = or_parts (is_long n) (list_any is_long ns) short in
    All-cons IsName n ns (piece_name n s.0 d.0 l.0 (All-head Free n ns free)) (pieces_names ns s.1 d.1 l.1 (All-tail Free n ns free))

pub all_of_map : {X Y : Type 0} (f : X → Y) (P : Y → Type 0) (xs : List X) → All P (map f xs) → All (λ x. P (f x)) xs
all_of_map f P [] h = All-nil (λ x. P (f x))
all_of_map f P (x ∷ xs) h = All-cons (λ x. P (f x)) x xs (All-head P (f x) (map f xs) h) (all_of_map f P xs (All-tail P (f x) (map f xs) h))
