-- A file's pieces, one after the other.
use Rattle.std.proofs.Common.{◌≡◌, ℕ, zero, suc, ◌+◌, ◌<◌, ◌≤◌, List, [], ◌∷◌, ◌++◌, length, take, drop, refl, sym, ◌∙◌, ap, arith, append_assoc}
use Rattle.std.proofs.lemmas.List.{length-drop, length-append, take_at, drop_at, take_all, drop_all}
use Rattle.fs_model.specs.declared.command.Command.TheVariants as command
use Rattle.host_folder.specs.Folders.{HostPath, HostRow}
use Rattle.copy_laws.specs.Importing.{cut, writes, commands_in, commands_for, joined, AreFull}

pub full_push : (size : ℕ) (ps : List (List ℕ)) (p : List ℕ) → AreFull size ps → length p ≡ size → AreFull size (ps ++ p ∷ [])
full_push size [] p h e = (e, tt)
full_push size (q ∷ ps) p h e = (h.0, full_push size ps p h.1 e)

pub joined_append : (ps qs : List (List ℕ)) → joined (ps ++ qs) ≡ joined ps ++ joined qs
joined_append [] qs = refl
joined_append (p ∷ ps) qs = ap (λ w. p ++ w) (joined_append ps qs) ∙ sym (append_assoc p (joined ps) (joined qs))

cut_none : (size n : ℕ) → cut size n [] ≡ []
cut_none size zero = refl
cut_none size (suc n) = refl

no_bytes : (w : List ℕ) → length w ≤ 0 → w ≡ []
no_bytes [] h = refl
no_bytes (b ∷ w) h = absurd (omega arith)

cut_fuel : (size n m : ℕ) (w : List ℕ) → 0 < size → length w ≤ n → length w ≤ m → cut size n w ≡ cut size m w
cut_fuel size n m [] some h g = cut_none size n ∙ sym (cut_none size m)
cut_fuel size zero m (b ∷ w) some h g = absurd (omega arith)
cut_fuel size (suc n) zero (b ∷ w) some h g = absurd (omega arith)
cut_fuel size (suc n) (suc m) (b ∷ w) some h g =
    ap (λ z. take size (b ∷ w) ∷ z) (cut_fuel size n m (drop size (b ∷ w)) some (omega (arith, length-drop size (b ∷ w))) (omega (arith, length-drop size (b ∷ w))))

cut_some : (size n : ℕ) (w : List ℕ) → 0 < size → 0 < length w → length w ≤ n → cut size n w ≡ take size w ∷ cut size (length (drop size w)) (drop size w)
cut_some size n [] some h g = absurd (omega arith)
cut_some size zero (b ∷ w) some h g = absurd (omega arith)
cut_some size (suc n) (b ∷ w) some h g =
    ap (λ z. take size (b ∷ w) ∷ z) (cut_fuel size n (length (drop size (b ∷ w))) (drop size (b ∷ w)) some (omega (arith, length-drop size (b ∷ w))) (omega arith))

-- full pieces stand first
pub cut_full : (size n : ℕ) (ps : List (List ℕ)) (w : List ℕ) → 0 < size → AreFull size ps → length (joined ps ++ w) ≤ n → cut size n (joined ps ++ w) ≡ ps ++ cut size (length w) w
cut_full size n [] w some full h = cut_fuel size n (length w) w some h (omega arith)
cut_full size n (p ∷ ps) w some full h =
    let all : (p ++ joined ps) ++ w ≡ p ++ (joined ps ++ w) = append_assoc p (joined ps) w in
    let long : length ((p ++ joined ps) ++ w) ≡ length p + length (joined ps ++ w) = ap length all ∙ length-append p (joined ps ++ w) in
    let head : take size ((p ++ joined ps) ++ w) ≡ p = ap (take size) all ∙ take_at p (joined ps ++ w) size full.0 in
    let tail : drop size ((p ++ joined ps) ++ w) ≡ joined ps ++ w = ap (drop size) all ∙ drop_at p (joined ps ++ w) size full.0 in
    let here : length p ≡ size = full.0 in
    cut_some size n ((p ++ joined ps) ++ w) some (omega (arith, long, here)) h
    ∙ (ap (λ z. z ∷ cut size (length (drop size ((p ++ joined ps) ++ w))) (drop size ((p ++ joined ps) ++ w))) head
    ∙ (ap (λ z. p ∷ cut size (length z) z) tail
    ∙ ap (λ z. p ∷ z) (cut_full size (length (joined ps ++ w)) ps w some full.1 (omega arith))))

-- what isn't more than a piece is one
pub cut_last : (size : ℕ) (w : List ℕ) → 0 < length w → length w ≤ size → cut size (length w) w ≡ w ∷ []
cut_last size w some h =
    let head : take size w ≡ w = take_all size w h in
    let tail : drop size w ≡ [] = drop_all size w h in
    cut_some size (length w) w (omega arith) some (omega arith)
    ∙ (ap (λ z. z ∷ cut size (length (drop size w)) (drop size w)) head
    ∙ ap (λ z. w ∷ cut size (length z) z) tail)

-- the first piece
pub cut_first : (size : ℕ) (w : List ℕ) → 0 < size → 0 < length w → cut size (length w) w ≡ take size w ∷ cut size (length (drop size w)) (drop size w)
cut_first size w some h = cut_some size (length w) w some h (omega arith)

pub writes_append : (p : HostPath) (from : ℕ) (ps qs : List (List ℕ)) → writes p from (ps ++ qs) ≡ writes p from ps ++ writes p (from + length (joined ps)) qs
writes_append p from [] qs = ap (λ k. writes p k qs) (omega arith)
writes_append p from (v ∷ ps) qs =
    let sum : from + length v + length (joined ps) ≡ from + length (v ++ joined ps) = omega (arith, length-append v (joined ps)) in
    ap (λ z. command.Write p from v ∷ z) (writes_append p (from + length v) ps qs ∙ ap (λ k. writes p (from + length v) ps ++ writes p k qs) sum)

pub rows_append : (q : HostPath) (es fs : List (HostPath × HostRow)) → commands_in q (es ++ fs) ≡ commands_in q es ++ commands_in q fs
rows_append q [] fs = refl
rows_append q (([], row) ∷ es) fs = rows_append q es fs
rows_append q ((n ∷ r, row) ∷ es) fs =
    ap (λ z. commands_for (q ++ n ∷ r) row.kind row.bytes ++ z) (rows_append q es fs) ∙ sym (append_assoc (commands_for (q ++ n ∷ r) row.kind row.bytes) (commands_in q es) (commands_in q fs))
