use Rattle.std.proofs.Common.{◌≡◌, ℕ, ◌+◌, ◌-◌, ◌*◌, ◌<◌, List, ◌++◌, length, take, drop, refl, sym, ap, ◌∙◌, arith, add-one}
use Rattle.std.proofs.lemmas.List.{length-drop, take-append-drop, take_all}
use Rattle.std.proofs.lemmas.List.Edits.{length-between}
use Rattle.scrypt_kdf.specs.Order.{on_diagonals}
use Rattle.scrypt_kdf.specs.Rows.{quarters}
use Rattle.scrypt_kdf.specs.Scrypt.{block_mix, chained, joined, mix_output, part, xor_bytes}
use Rattle.scrypt_kdf.proofs.Diagonals.{length-reordered, on_diagonals_append, on_diagonals_joined, part_on_diagonals, xor_on_diagonals}
use Rattle.scrypt_kdf.proofs.Halves.{evens_more, odds_more}
use Rattle.scrypt_kdf.proofs.Lengths.{length-chained, length-mix_output, length-xor}
use Rattle.scrypt_kdf.proofs.Parts.{length-joined}
use Rattle.scrypt_kdf.proofs.mix.block_mix.Goals as goal

pub loop-i-init : goal.loop-i-init
unfolding chained
loop-i-init c = record {
  last = λ p long same.
      c.load-x.ensures ∙ ap quarters (c.part.ensures ∙ ap (λ (xs : List ℕ). part 64 xs (2 * c.args.r - 1)) same
      ∙ part_on_diagonals p (2 * c.args.r - 1) (2 * c.args.r) (omega arith) (omega arith));
  evens = λ p long same. refl;
  odds = λ p long same. refl;
}

pub loop-i-preserved : goal.loop-i-preserved
unfolding chained
loop-i-preserved c =
    let r : ℕ = c.args.r in
    let i : ℕ = c.loop-i.i in
    let b : List ℕ = c.args.b.now in
    let y_long : length c.loop-i.y ≡ 128 * r = omega arith in
    let loaded : (p : List ℕ) (k : ℕ) → length p ≡ 128 * r → b ≡ on_diagonals p → k < 2 * r
    → part 64 b k ≡ on_diagonals (part 64 p k) =
    λ p k long same lt. ap (λ (xs : List ℕ). part 64 xs k) same ∙ part_on_diagonals p k (2 * r) (long ∙ omega arith) lt in
    let block_long : (p : List ℕ) (k : ℕ) → length p ≡ 128 * r → k < 2 * r → length (part 64 p k) ≡ 64 =
    λ p k long lt. length-between p (64 * k) (64 * k + 64) (omega (arith, long)) ∙ omega arith in
    let x_long : (p : List ℕ) (k : ℕ) → length p ≡ 128 * r → length (chained r p k) ≡ 64 =
    λ p k long. length-chained r p k c.requires.r_low long in
    let mixed : (p : List ℕ) (k : ℕ) → length p ≡ 128 * r → k < 2 * r
    → xor_bytes (on_diagonals (chained r p k)) (on_diagonals (part 64 p k)) ≡ on_diagonals (xor_bytes (chained r p k) (part 64 p k)) =
    λ p k long lt. xor_on_diagonals (chained r p k) (part 64 p k) 1 (x_long p k long) (block_long p k long lt) in
    let on_long : (x : List ℕ) → length x ≡ 64 → length (on_diagonals x) ≡ 64 = λ x long. length-reordered 5 x ∙ long in
    let even : (p : List ℕ) → length p ≡ 128 * r → b ≡ on_diagonals p
    → c.core-even.result ≡ quarters (on_diagonals (mix_output r p (2 * i))) =
    λ p long same.
    let lt : 2 * i < 2 * r = omega arith in
    let x : List ℕ = chained r p (2 * i) in
    let z : List ℕ = part 64 p (2 * i) in
    c.core-even.ensures (xor_bytes x z) (length-xor x z 64 (x_long p (2 * i) long) (block_long p (2 * i) long lt))
    (c.xor.ensures (on_diagonals x) (on_diagonals z) (on_long x (x_long p (2 * i) long)) (on_long z (block_long p (2 * i) long lt))
    (c.loop-i.invariant.last p long same)
    (c.load.ensures ∙ ap quarters (c.part-in-loop-i.ensures ∙ loaded p (2 * i) long same lt))
    ∙ ap quarters (mixed p (2 * i) long lt))
    ∙ ap (λ (k : ℕ). quarters (on_diagonals (chained r p k))) (sym (add-one (2 * i))) in
    let odd : (p : List ℕ) → length p ≡ 128 * r → b ≡ on_diagonals p
    → c.core-odd.result ≡ quarters (on_diagonals (mix_output r p (2 * i + 1))) =
    λ p long same.
    let lt : 2 * i + 1 < 2 * r = omega arith in
    let x : List ℕ = chained r p (2 * i + 1) in
    let z : List ℕ = part 64 p (2 * i + 1) in
    c.core-odd.ensures (xor_bytes x z) (length-xor x z 64 (x_long p (2 * i + 1) long) (block_long p (2 * i + 1) long lt))
    (c.xor-in-loop-i.ensures (on_diagonals x) (on_diagonals z) (on_long x (x_long p (2 * i + 1) long)) (on_long z (block_long p (2 * i + 1) long lt))
    (even p long same)
    (c.load-in-loop-i.ensures ∙ ap quarters (c.part-in-loop-i-2.ensures ∙ loaded p (2 * i + 1) long same lt))
    ∙ ap quarters (mixed p (2 * i + 1) long lt))
    ∙ ap (λ (k : ℕ). quarters (on_diagonals (chained r p k))) (sym (add-one (2 * i + 1))) in
    let output_long : (p : List ℕ) (k : ℕ) → length (on_diagonals (mix_output r p k)) ≡ 64 =
    λ p k. on_long (mix_output r p k) (length-mix_output r p k) in
    let first : (p : List ℕ) → length p ≡ 128 * r → b ≡ on_diagonals p
    → c.store.new.block ≡ on_diagonals (mix_output r p (2 * i)) =
    λ p long same. c.store.ensures (on_diagonals (mix_output r p (2 * i))) (output_long p (2 * i)) (even p long same) in
    let second : (p : List ℕ) → length p ≡ 128 * r → b ≡ on_diagonals p
    → c.store-in-loop-i.new.block ≡ on_diagonals (mix_output r p (2 * i + 1)) =
    λ p long same. c.store-in-loop-i.ensures (on_diagonals (mix_output r p (2 * i + 1))) (output_long p (2 * i + 1)) (odd p long same) in
    record {
      last = λ p long same. odd p long same ∙ ap (λ (k : ℕ). quarters (on_diagonals (chained r p k))) (omega arith);
      evens = λ p long same.
          evens_more r i (λ k. on_diagonals (mix_output r p (2 * k))) c.loop-i.y c.store.new.block c.store-in-loop-i.new.block
          (omega arith) y_long (ap length (first p long same) ∙ output_long p (2 * i))
          (ap length (second p long same) ∙ output_long p (2 * i + 1))
          (first p long same) (c.loop-i.invariant.evens p long same);
      odds = λ p long same.
          odds_more r i (λ k. on_diagonals (mix_output r p (2 * k + 1))) c.loop-i.y c.store.new.block c.store-in-loop-i.new.block
          (omega arith) y_long (ap length (first p long same) ∙ output_long p (2 * i))
          (ap length (second p long same) ∙ output_long p (2 * i + 1))
          (second p long same) (c.loop-i.invariant.odds p long same);
    }

pub returns : goal.returns
unfolding block_mix
returns c = λ p long same.
    let r : ℕ = c.args.r in
    let y : List ℕ = c.loop-i.y in
    let done : c.loop-i.i ≡ r = omega (arith, c.loop-i.auto.i-end) in
    let y_long : length y ≡ 128 * r = omega arith in
    let even : ℕ → List ℕ = λ i. mix_output r p (2 * i) in
    let odd : ℕ → List ℕ = λ i. mix_output r p (2 * i + 1) in
    let evens = c.loop-i.invariant.evens p long same in
    let odds = c.loop-i.invariant.odds p long same in
    let odd_part : drop (64 * r) y ≡ take (64 * r) (drop (64 * r) y) =
    let half = length-drop (64 * r) y in sym (take_all (64 * r) (drop (64 * r) y) (omega arith)) in
    sym (take-append-drop (64 * r) y)
    ∙ ap (λ (xs : List ℕ). take (64 * r) y ++ xs) odd_part
    ∙ ap (λ (k : ℕ). take (64 * k) y ++ take (64 * k) (drop (64 * r) y)) (sym done)
    ∙ (λ t. evens t ++ odds t)
    ∙ ap (λ (k : ℕ). joined (λ i. on_diagonals (even i)) k ++ joined (λ i. on_diagonals (odd i)) k) done
    ∙ (λ t. sym (on_diagonals_joined even r (λ k. length-mix_output r p (2 * k))) t ++ sym (on_diagonals_joined odd r (λ k. length-mix_output r p (2 * k + 1))) t)
    ∙ sym (on_diagonals_append (joined even r) (joined odd r) r r (length-joined 64 even r (λ k lt. length-mix_output r p (2 * k))) (length-joined 64 odd r (λ k lt. length-mix_output r p (2 * k + 1))))
