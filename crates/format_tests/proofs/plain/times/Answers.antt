use Rattle.std.proofs.Common.{◌≡◌, ℕ, ◌+◌, bit_xor, ◌∙◌, sym, ap, refl, arith}
use Rattle.std.proofs.Math.Nat.{one-mul, zero-mul}
use Rattle.std.specs.Int.Bits.{xor_zero_r}
use Rattle.aes_gcm.specs.Ghash.{block_bit, next_v, v_at, z_at}
use Rattle.aes_gcm.proofs.Product.{v_at_next, z_at_next}
use Rattle.format_tests.proofs.plain.times.Goals as goal
use Rattle.format_tests.proofs.plain.times.Goals.{else-x-i-eq1, then-x-i-eq1}

z_at_one : (x y i z v : ℕ) → z ≡ z_at x y i → v ≡ v_at y i → block_bit x i ≡ 1 → bit_xor z v ≡ z_at x y (i + 1)
z_at_one x y i z v ez ev h = rw (z_at_next x y i, h, one-mul, ez, ev) refl

z_at_zero : (x y i z : ℕ) → z ≡ z_at x y i → block_bit x i ≡ 0 → z ≡ z_at x y (i + 1)
z_at_zero x y i z ez h = rw (z_at_next x y i, h, zero-mul, xor_zero_r, ez) refl

pub bits-init : goal.bits-init
unfolding v_at z_at
bits-init c = record { sum = refl; factor = refl }

pub bits-preserved : goal.bits-preserved
bits-preserved c =
    let x = c.args.x in
    let y = c.args.y in
    let i = c.bits.i in
    record {
      sum = elim c.if-x-i-eq1.branch [
        | then-x-i-eq1 w ↦ w.z-is ∙ z_at_one x y i _ _ c.bits.invariant.sum c.bits.invariant.factor w.if-x-i-eq1.true
        | else-x-i-eq1 w ↦ w.z-is ∙ z_at_zero x y i _ c.bits.invariant.sum (omega arith)
      ];
      factor = c.next_v-v.ensures ∙ ap next_v c.bits.invariant.factor ∙ sym (v_at_next y i);
    }

pub returns : goal.returns
returns c =
    let done : c.bits.i ≡ 128 = omega (arith, c.bits.auto.i-end) in
    rw done at c.bits.invariant.sum
