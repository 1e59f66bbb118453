-- A list after a write to its end, and a text that is sealed where it stands.
use Rattle.std.proofs.Common.{◌≡◌, ℕ, ◌+◌, ◌-◌, ◌≤◌, List, [], ◌++◌, length, take, drop, sym, ap, ◌∙◌, arith, append-nil, append_assoc, length-append, length-drop, length-take-le}
use Rattle.std.proofs.lemmas.List.{drop_all, drop_at, take_all, take_at}
use Rattle.seal_api.specs.Sealing.{middle}
use borrow.Rule.Slice.PartMut.{post_of, put_mid}

pub end_written : (old added all new rest : List ℕ) (n s : ℕ) → all ≡ old ++ added → s ≡ length old → n ≡ length all → length new ≡ length added
    → take n (put_mid s (length all - s) all new ++ rest) ≡ old ++ new
end_written old added all new rest n s is_all is_start is_len same =
    let total : length all ≡ length old + length added = ap length is_all ∙ length-append old added in
    let front : take s all ≡ old = ap (take s) is_all ∙ take_at old added s (sym is_start) in
    let none : drop (length all - s) (drop s all) ≡ [] = drop_all (length all - s) (drop s all) (omega (arith, length-drop s all)) in
    let whole : put_mid s (length all - s) all new ≡ old ++ new = (λ i. front i ++ (new ++ none i)) ∙ ap (λ (l : List ℕ). old ++ l) (append-nil new) in
    ap (λ (l : List ℕ). take n (l ++ rest)) whole ∙ take_at (old ++ new) rest n (omega (arith, length-append old new, same, total, is_len))

-- the end that was appended
pub end_of : (old added all : List ℕ) (s : ℕ) → all ≡ old ++ added → s ≡ length old → take (length all - s) (drop s all) ≡ added
end_of old added all s is_all is_start =
    let rest : drop s all ≡ added = ap (drop s) is_all ∙ drop_at old added s (sym is_start) in
    ap (take (length all - s)) rest ∙ take_all (length all - s) added (omega (arith, ap length rest, length-drop s all))

-- what stands between an IV and room for a tag
pub middle_of : (iv plain room : List ℕ) → length iv ≡ 16 → length room ≡ 16 → middle 16 16 (iv ++ plain ++ room) ≡ plain
middle_of iv plain room len_iv len_room =
    let n : ℕ = length (iv ++ plain ++ room) in
    let whole : n ≡ 32 + length plain = omega (arith, length-append (iv ++ plain) room, length-append iv plain, len_iv, len_room) in
    ap (λ (l : List ℕ). take (n - 16 - 16) (drop 16 l)) (append_assoc iv plain room)
    ∙ ap (take (n - 16 - 16)) (drop_at iv (plain ++ room) 16 len_iv)
    ∙ take_at plain room (n - 16 - 16) (omega (arith, whole))

-- what was written there
pub middle_put : (old new : List ℕ) → 32 ≤ length old → length new ≡ length old - 16 - 16 → middle 16 16 (put_mid 16 (length old - 16 - 16) old new) ≡ new
middle_put old new long size =
    let back : List ℕ = post_of 16 (length old - 16 - 16) old in
    let room : length back ≡ 16 = omega (arith, length-drop (length old - 16 - 16) (drop 16 old), length-drop 16 old, long) in
    ap (middle 16 16) (sym (append_assoc (take 16 old) new back)) ∙ middle_of (take 16 old) new back (length-take-le 16 old (omega (arith, long))) room

-- the ciphertext took the plaintext's place, and the IV was written before it
abbrev pub begun : List ℕ → List ℕ → List ℕ → List ℕ
begun old iv text = iv ++ drop 16 (put_mid 16 (length old - 16 - 16) old text)

-- then the tag was written behind it
pub parts_written : (old iv text tag : List ℕ) → 32 ≤ length old → length iv ≡ 16 → length text ≡ length old - 16 - 16
    → put_mid (length old - 16) (length (begun old iv text) - (length old - 16)) (begun old iv text) tag ≡ iv ++ text ++ tag
parts_written old iv text tag long len_iv len_text =
    let n : ℕ = length old in
    let back : List ℕ = post_of 16 (n - 16 - 16) old in
    let size : length back ≡ 16 = omega (arith, length-drop (n - 16 - 16) (drop 16 old), length-drop 16 old, long) in
    let rest : drop 16 (put_mid 16 (n - 16 - 16) old text) ≡ text ++ back = drop_at (take 16 old) (text ++ back) 16 (length-take-le 16 old (omega (arith, long))) in
    let all : begun old iv text ≡ (iv ++ text) ++ back = ap (λ (l : List ℕ). iv ++ l) rest ∙ sym (append_assoc iv text back) in
    let front_len : length (iv ++ text) ≡ n - 16 = omega (arith, length-append iv text, len_iv, len_text, long) in
    let whole : length ((iv ++ text) ++ back) ≡ n = omega (arith, length-append (iv ++ text) back, front_len, size, long) in
    let front : take (n - 16) ((iv ++ text) ++ back) ≡ iv ++ text = take_at (iv ++ text) back (n - 16) front_len in
    let none : drop (length ((iv ++ text) ++ back) - (n - 16)) (drop (n - 16) ((iv ++ text) ++ back)) ≡ [] =
    ap (drop (length ((iv ++ text) ++ back) - (n - 16))) (drop_at (iv ++ text) back (n - 16) front_len)
    ∙ drop_all (length ((iv ++ text) ++ back) - (n - 16)) back (omega (arith, size, whole, long)) in
    ap (λ (l : List ℕ). put_mid (n - 16) (length l - (n - 16)) l tag) all
    ∙ (λ i. front i ++ (tag ++ none i)) ∙ ap (λ (l : List ℕ). (iv ++ text) ++ l) (append-nil tag)
