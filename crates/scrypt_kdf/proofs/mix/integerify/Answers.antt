use Rattle.std.proofs.Common.{◌≡◌, ℕ, ◌+◌, ◌-◌, ◌*◌, ◌%◌, ◌^◌, ◌<◌, List, [], ◌∷◌, get_or, length, bit_and, sym, ap, ◌∙◌, arith}
use Rattle.std.proofs.lemmas.List.Edits.{length-between}
use Rattle.std.proofs.lemmas.Nat.{and_le_r, and_mask, pow_pos}
use Rattle.std.specs.Int.{w32, from_le_bytes}
use Rattle.scrypt_kdf.specs.Order.{on_diagonals, source}
use Rattle.scrypt_kdf.specs.Scrypt.{last_block, little_endian, part}
use Rattle.scrypt_kdf.proofs.Numbers.{low_four, power_below}
use Rattle.scrypt_kdf.proofs.Diagonals.{get_or-reordered, part_on_diagonals}
use Rattle.scrypt_kdf.proofs.mix.integerify.Goals as goal

pub returns-clause-within : goal.returns-clause-within
returns-clause-within c =
    let k : ℕ = c.requires.power.0 in
    let power : c.args.n ≡ 2 ^ k = c.requires.power.1 in
    let some = pow_pos k in
    let below = and_le_r c.from_le_bytes-low.result (c.args.n - 1) in
    omega arith

pub returns-clause-value : goal.returns-clause-value
returns-clause-value c = λ b whole same.
    let r : ℕ = c.args.r in
    let low : ℕ = c.from_le_bytes-low.result in
    let k : ℕ = c.requires.power.0 in
    let power : c.args.n ≡ 2 ^ k = c.requires.power.1 in
    let start : ℕ = 64 * (2 * r - 1) in
    let y : List ℕ = last_block r b in
    let long : length y ≡ start + 64 - start = length-between b start (start + 64) (omega arith) in
    let last : c.part-last.result.now ≡ on_diagonals y =
    c.part-last.ensures ∙ ap (λ (xs : List ℕ). part 64 xs (2 * r - 1)) same
    ∙ part_on_diagonals b (2 * r - 1) (2 * r) (omega arith) (omega arith) in
    let byte : (j : ℕ) → j < 64 → get_or c.part-last.result.now j 0 ≡ get_or y (source 5 j) 0 =
    λ j lt. ap (λ (xs : List ℕ). get_or xs j 0) last ∙ get_or-reordered 5 y j (omega arith) in
    let b0 = byte 0 (omega arith) in
    let b1 = byte 1 (omega arith) in
    let b2 = byte 2 (omega arith) in
    let b3 = byte 3 (omega arith) in
    let four = low_four y k (omega arith) (power_below c.args.n k power c.requires.n_high) in
    ap (λ (m : ℕ). bit_and low (m - 1)) power ∙ and_mask low k
    ∙ ap (λ (m : ℕ). m % 2 ^ k) (c.from_le_bytes-low.ensures ∙ (λ t. from_le_bytes w32 (b0 t ∷ b1 t ∷ b2 t ∷ b3 t ∷ [])))
    ∙ sym four ∙ ap (λ (m : ℕ). little_endian y % m) (sym power)
