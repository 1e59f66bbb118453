-- Counter mode, piece by piece.
use Rattle.std.proofs.Common.{◌≡◌, ℕ, ◌+◌, ◌-◌, ◌*◌, ◌/◌, ◌%◌, ◌<◌, ◌≤◌, List, [], ◌++◌, length, take, drop, min, slice_index, slice_index_or, bit_xor, sym, ap, ◌∙◌, subst, inl, inr, arith, append-nil, length-append, length-drop, length-take, length-take-le}
use Rattle.std.proofs.lemmas.Bool.{cases_lt}
use Rattle.std.proofs.lemmas.Grind.{get_or_after_one}
use Rattle.std.proofs.lemmas.List.{drop_all, get_or-append_right, get_or-drop, get_or-take, get_or_append_left, take_all}
use Rattle.std.proofs.lemmas.List.FromFn.{get_or-map-range_with_len}
use borrow.Rule.Slice.PartMut.{put_mid}
use Rattle.aes_gcm.specs.Gctr.{HasStream, counter_block, gctr, inc32, key_byte}
use Rattle.aes_gcm.specs.Lengths.{length-gctr}
use Rattle.aes_gcm.specs.Opening.{gctr_all}
use Rattle.aes_gcm.proofs.Counters.{counter_block_from}

-- some bytes were added from byte n on, where those from `low` up to n were
pub added_more : (old text new : List ℕ) (mask part : ℕ → ℕ) (low n w : ℕ) → length text ≡ length old
    → ((j : ℕ) → j < w → part j ≡ mask (n + j))
    → ((k : ℕ) → low ≤ k → k < n → k < length old → slice_index text k ≡ bit_xor (slice_index old k) (mask k))
    → ((k : ℕ) → n ≤ k → slice_index text k ≡ slice_index old k)
    → ((j : ℕ) → j < w → n + j < length text → slice_index new (n + j) ≡ bit_xor (slice_index text (n + j)) (part j))
    → ((k : ℕ) → k < n → slice_index new k ≡ slice_index text k)
    → (k : ℕ) → low ≤ k → k < n + w → k < length old → slice_index new k ≡ bit_xor (slice_index old k) (mask k)
added_more old text new mask part low n w long same done rest inside before k from lt within = elim (cases_lt k n) [
  | inl below ↦ before k below ∙ done k from below within
  | inr above ↦
      let j : ℕ = k - n in
      let place : n + j ≡ k = omega arith in
      let P : ℕ → Type 0 = λ m. slice_index new m ≡ bit_xor (slice_index text m) (mask m) in
      let added : slice_index new (n + j) ≡ bit_xor (slice_index text (n + j)) (mask (n + j)) =
      inside j (omega arith) (omega arith) ∙ ap (bit_xor (slice_index text (n + j))) (same j (omega arith)) in
      subst P place added ∙ ap (λ (t : ℕ). bit_xor t (mask k)) (rest k above)
]

-- a byte of the key stream, from its place in some blocks
pub stream_byte : (cipher : List ℕ → List ℕ) (initial first : List ℕ) (blocks : List (List ℕ)) (m n j : ℕ)
    → HasStream cipher first blocks → first ≡ counter_block initial m → n ≡ 16 * m → j < 16 * length blocks
    → slice_index (slice_index_or blocks (j / 16) []) (j % 16) ≡ key_byte cipher initial (n + j)
unfolding HasStream
stream_byte cipher initial first blocks m n j stream is_first is_n lt =
    let quotient : m + j / 16 ≡ (n + j) / 16 = omega arith in
    let remainder : j % 16 ≡ (n + j) % 16 = omega arith in
    let counted : counter_block first (j / 16) ≡ counter_block initial ((n + j) / 16) =
    ap (λ (b : List ℕ). counter_block b (j / 16)) is_first ∙ counter_block_from initial m (j / 16) ∙ ap (counter_block initial) quotient in
    ap (λ (l : List ℕ). slice_index l (j % 16)) (stream (j / 16) (omega arith))
    ∙ (λ i. slice_index (cipher (counted i)) (remainder i))

-- the key stream without its first block
pub later_stream : (cipher : List ℕ → List ℕ) (first : List ℕ) (blocks : List (List ℕ)) → length blocks ≡ 16 → HasStream cipher first blocks
    → HasStream cipher (inc32 first) (take 15 (drop 1 blocks))
unfolding HasStream counter_block
later_stream cipher first blocks sixteen stream = λ j lt.
    let small : j < 15 = omega (arith, lt, length-take 15 (drop 1 blocks)) in
    let next : 1 + j ≡ j + 1 = omega arith in
    get_or-take 15 (drop 1 blocks) j [] small ∙ get_or_after_one blocks j []
    ∙ stream (1 + j) (omega arith) ∙ ap cipher (sym (counter_block_from first 1 j))

-- a text of one block
pub gctr_block : (cipher : List ℕ → List ℕ) (initial block old new : List ℕ) → block ≡ cipher initial → length old ≡ 16 → length new ≡ length old
    → ((j : ℕ) → j < 16 → 0 + j < length old → slice_index new (0 + j) ≡ bit_xor (slice_index old (0 + j)) (slice_index block j))
    → new ≡ gctr cipher initial old
unfolding counter_block
gctr_block cipher initial block old new is_block len same added =
    gctr_all cipher initial old new same (λ k lt.
    let place : 0 + k ≡ k = omega arith in
    let quotient : 0 ≡ k / 16 = omega arith in
    let remainder : k ≡ k % 16 = omega arith in
    let P : ℕ → Type 0 = λ m. slice_index new m ≡ bit_xor (slice_index old m) (slice_index block k) in
    subst P place (added k (omega arith) (omega arith))
    ∙ (λ t. bit_xor (slice_index old k) (slice_index (is_block t) k))
    ∙ (λ t. bit_xor (slice_index old k) (slice_index (cipher (counter_block initial (quotient t))) (remainder t))))

-- the first bytes were added, and those from f on go on with a later counter block
pub gctr_joined : (cipher : List ℕ → List ℕ) (first counter old text new : List ℕ) (f : ℕ) → length text ≡ length old
    → f ≡ min (length text) 240 → counter ≡ counter_block first 16
    → ((k : ℕ) → k < 240 → k < length old → slice_index text k ≡ bit_xor (slice_index old k) (key_byte cipher (inc32 first) k))
    → ((k : ℕ) → 240 ≤ k → slice_index text k ≡ slice_index old k)
    → new ≡ gctr cipher counter (take (length text - f) (drop f text))
    → put_mid f (length text - f) text new ≡ gctr cipher (inc32 first) old
unfolding gctr counter_block
gctr_joined cipher first counter old text new f same is_f is_counter begun rest is_new =
    let back : List ℕ = drop f text in
    let size : length back ≡ length text - f = length-drop f text in
    let whole : take (length text - f) back ≡ back = take_all (length text - f) back (omega (arith, size)) in
    let none : drop (length text - f) back ≡ [] = drop_all (length text - f) back (omega (arith, size)) in
    let done : new ≡ gctr cipher counter back = is_new ∙ ap (gctr cipher counter) whole in
    let len : length new ≡ length back = ap length done ∙ length-gctr cipher counter back in
    let front : length (take f text) ≡ f = length-take-le f text (omega arith) in
    let joined : List ℕ = take f text ++ new in
    let byte : (k : ℕ) → k < length old → slice_index joined k ≡ bit_xor (slice_index old k) (key_byte cipher (inc32 first) k) = λ k lt. elim (cases_lt k f) [
      | inl below ↦
          get_or_append_left (take f text) new 0 k (omega (arith, front)) ∙ get_or-take f text k 0 below ∙ begun k (omega arith) lt
      | inr above ↦
          let full : f ≡ 240 = omega arith in
          let j : ℕ = k - f in
          let place : f + j ≡ k = omega arith in
          let quotient : 16 + j / 16 ≡ 1 + k / 16 = omega arith in
          let remainder : j % 16 ≡ k % 16 = omega arith in
          let counted : counter_block counter (j / 16) ≡ counter_block (inc32 first) (k / 16) =
          ap (λ (b : List ℕ). counter_block b (j / 16)) is_counter ∙ counter_block_from first 16 (j / 16)
          ∙ ap (counter_block first) quotient ∙ sym (counter_block_from first 1 (k / 16)) in
          get_or-append_right (take f text) new f k 0 front above
          ∙ ap (λ (l : List ℕ). slice_index l j) done
          ∙ get_or-map-range_with_len (λ n. bit_xor (slice_index back n) (key_byte cipher counter n)) 0 (length back) j j 0 (omega (arith, size)) (omega arith)
          ∙ ap (λ (b : ℕ). bit_xor b (key_byte cipher counter j)) (get_or-drop f text j 0 ∙ ap (slice_index text) place ∙ rest k (omega arith))
          ∙ (λ t. bit_xor (slice_index old k) (slice_index (cipher (counted t)) (remainder t)))
    ] in
    (λ i. take f text ++ (new ++ none i)) ∙ ap (λ (l : List ℕ). take f text ++ l) (append-nil new)
    ∙ gctr_all cipher (inc32 first) old joined (omega (arith, length-append (take f text) new, front, len, size)) byte
