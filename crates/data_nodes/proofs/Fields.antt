-- Parts of a node's text: bytes, the header, the fill, and ids one after the other.
use Rattle.std.proofs.Common.{◌≡◌, ℕ, zero, suc, ◌+◌, ◌-◌, ◌*◌, ◌/◌, ◌^◌, ◌<◌, ◌≤◌, true, false, eqb, ltb, bit_or, List, [], ◌∷◌, ◌++◌, length, take, drop, replicate, All, refl, sym, ap, ◌∙◌, append_assoc, arith}
use Rattle.std.specs.Prelude.{◌&&◌, slice_index}
use Rattle.std.specs.List.{fold, concat}
use Rattle.std.specs.Int.{w16, w32, to_le_bytes, from_le_bytes}
use Rattle.std.proofs.lemmas.Bool.{eqb-true, ne_eqb, and_parts, and_left, le-ltb}
use Rattle.std.proofs.Math.Bool.{and_assoc, and-true}
use Rattle.std.proofs.lemmas.Nat.{le_or_l}
use Rattle.std.proofs.lemmas.List.{take_at, drop_at, take-append-drop, length-append, length-take, length-drop, length-replicate, nil_from_length}
use Rattle.std.proofs.lemmas.List.Elements.{All-nil, All-cons, All-head, All-tail}
use Rattle.byte_fields.specs.Fields.{IsBytes}
use Rattle.byte_fields.proofs.Fields.{IsBytes-take, IsBytes-drop, wide16, wide32}
use Rattle.data_nodes.specs.Layout.{header}
use Rattle.data_nodes.specs.Reading.{is_zeros, cut, contents_at, node_at}

-- ---- zeros

pub zeros_are : (bytes : List ℕ) → is_zeros bytes ≡ true → bytes ≡ replicate (length bytes) 0
zeros_are [] e = refl
zeros_are (byte ∷ bytes) e =
    let parts = and_parts (eqb byte 0) (is_zeros bytes) e in
    let first : byte ≡ 0 = eqb-true byte 0 parts.0 in
    let rest : bytes ≡ replicate (length bytes) 0 = zeros_are bytes parts.1 in
    ap (λ b. b ∷ bytes) first ∙ ap (λ bs. 0 ∷ bs) rest

pub zeros_again : (n : ℕ) → is_zeros (replicate n 0) ≡ true
zeros_again zero = refl
zeros_again (suc n) = zeros_again n

-- the `or` of two numbers is 0 where both are, and only there
none_of : (any byte : ℕ) → eqb (bit_or any byte) 0 ≡ (eqb any 0 && eqb byte 0)
none_of zero byte = refl
none_of (suc any) byte = ne_eqb _ _ (λ e. absurd (omega (arith, le_or_l (suc any) byte))) ∙ sym (and_left _ (eqb byte 0) (ne_eqb (suc any) 0 (λ e. absurd cc)))

pub none_among : (any : ℕ) (bytes : List ℕ) → eqb (fold bit_or any bytes) 0 ≡ (eqb any 0 && is_zeros bytes)
none_among any [] = sym (and-true (eqb any 0))
none_among any (byte ∷ bytes) =
    none_among (bit_or any byte) bytes ∙ ap (λ none. none && is_zeros bytes) (none_of any byte) ∙ and_assoc (eqb any 0) (eqb byte 0) (is_zeros bytes)

-- a text with zeros up to the end of the payload
pub filled : (payload front contents body : List ℕ) (fill : ℕ) → payload ≡ front ++ contents → contents ≡ body ++ replicate fill 0
    → payload ≡ (front ++ body) ++ replicate (length payload - length (front ++ body)) 0
filled payload front contents body fill whole parts =
    let text : payload ≡ (front ++ body) ++ replicate fill 0 = whole ∙ ap (λ rest. front ++ rest) parts ∙ sym (append_assoc front body (replicate fill 0)) in
    let len : length payload ≡ length (front ++ body) + fill = ap length text ∙ length-append (front ++ body) (replicate fill 0) ∙ ap (λ n. length (front ++ body) + n) (length-replicate fill 0) in
    let left : length payload - length (front ++ body) ≡ fill = omega arith in
    text ∙ ap (λ n. (front ++ body) ++ replicate n 0) (sym left)

-- ---- ids

pub cut_next : (rest : List ℕ) → 16 ≤ length rest → cut (length rest / 16) rest ≡ take 16 rest ∷ cut (length (drop 16 rest) / 16) (drop 16 rest)
cut_next rest long =
    let count : length rest / 16 ≡ suc (length (drop 16 rest) / 16) = omega (arith, length-drop 16 rest) in
    ap (λ n. cut n rest) count

pub length-cut : (count : ℕ) (bytes : List ℕ) → length (cut count bytes) ≡ count
length-cut zero bytes = refl
length-cut (suc count) bytes = ap suc (length-cut count (drop 16 bytes))

pub concat-cut : (count : ℕ) (bytes : List ℕ) → length bytes ≡ count * 16 → concat (cut count bytes) ≡ bytes
concat-cut zero bytes len = sym (nil_from_length bytes len)
concat-cut (suc count) bytes len =
    let rest : concat (cut count (drop 16 bytes)) ≡ drop 16 bytes = concat-cut count (drop 16 bytes) (omega (arith, length-drop 16 bytes)) in
    ap (λ b. take 16 bytes ++ b) rest ∙ take-append-drop 16 bytes

pub cut_ids : (count : ℕ) (bytes : List ℕ) → length bytes ≡ count * 16 → All (λ id. length id ≡ 16) (cut count bytes)
cut_ids zero bytes len = All-nil (λ id. length id ≡ 16)
cut_ids (suc count) bytes len =
    All-cons (λ id. length id ≡ 16) (take 16 bytes) (cut count (drop 16 bytes)) (omega (arith, length-take 16 bytes)) (cut_ids count (drop 16 bytes) (omega (arith, length-drop 16 bytes)))

pub length-concat_ids : (ids : List (List ℕ)) → All (λ id. length id ≡ 16) ids → length (concat ids) ≡ length ids * 16
length-concat_ids [] each = refl
length-concat_ids (id ∷ ids) each =
    let first : length id ≡ 16 = All-head (λ id. length id ≡ 16) id ids each in
    let rest : length (concat ids) ≡ length ids * 16 = length-concat_ids ids (All-tail (λ id. length id ≡ 16) id ids each) in
    omega (arith, length-append id (concat ids))

pub cut_again : (ids : List (List ℕ)) → All (λ id. length id ≡ 16) ids → cut (length ids) (concat ids) ≡ ids
cut_again [] each = refl
cut_again (id ∷ ids) each =
    let len : length id ≡ 16 = All-head (λ id. length id ≡ 16) id ids each in
    let first : take 16 (id ++ concat ids) ≡ id = take_at id (concat ids) 16 len in
    let rest : cut (length ids) (drop 16 (id ++ concat ids)) ≡ ids =
    ap (cut (length ids)) (drop_at id (concat ids) 16 len) ∙ cut_again ids (All-tail (λ id. length id ≡ 16) id ids each) in
    ap (λ x. x ∷ cut (length ids) (drop 16 (id ++ concat ids))) first ∙ ap (λ xs. id ∷ xs) rest

-- ---- the header

pub header_takes : (payload : List ℕ) → IsBytes payload → 8 ≤ length payload → from_le_bytes w16 (take 2 payload) ≡ 0 → slice_index payload 2 ≡ 0
    → payload ≡ header (slice_index payload 3) (from_le_bytes w32 (take 4 (drop 4 payload))) ++ drop 8 payload
header_takes (a ∷ b ∷ c ∷ depth ∷ d ∷ e ∷ f ∷ g ∷ rest) fits long format zero_byte =
    let payload : List ℕ = a ∷ b ∷ c ∷ depth ∷ d ∷ e ∷ f ∷ g ∷ rest in
    let first : to_le_bytes w16 0 ≡ take 2 payload = ap (to_le_bytes w16) (sym format) ∙ wide16.back (take 2 payload) refl (IsBytes-take 2 payload fits) in
    let size : to_le_bytes w32 (from_le_bytes w32 (take 4 (drop 4 payload))) ≡ take 4 (drop 4 payload) =
    wide32.back (take 4 (drop 4 payload)) refl (IsBytes-take 4 (drop 4 payload) (IsBytes-drop 4 payload fits)) in
    sym (ap (λ u. (u ++ 0 ∷ depth ∷ to_le_bytes w32 (from_le_bytes w32 (take 4 (drop 4 payload)))) ++ rest) first
    ∙ ap (λ u. (take 2 payload ++ 0 ∷ depth ∷ u) ++ rest) size
    ∙ ap (λ u. a ∷ b ∷ u ∷ depth ∷ d ∷ e ∷ f ∷ g ∷ rest) (sym zero_byte))
header_takes payload fits long format zero_byte = absurd (omega arith)

pub header_again : (depth size : ℕ) (contents : List ℕ) → size < 2 ^ 32 → node_at (header depth size ++ contents) ≡ contents_at depth size contents
unfolding node_at
header_again depth size contents small =
    let long : ltb (length (header depth size ++ contents)) 8 ≡ false = le-ltb _ _ (omega (arith, length-append (header depth size) contents)) in
    let number : from_le_bytes w32 (to_le_bytes w32 size) ≡ size = wide32.again size small in
    rw (long, number) refl
