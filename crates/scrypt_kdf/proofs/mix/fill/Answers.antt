use Rattle.std.proofs.Common.{◌≡◌, ℕ, ◌+◌, ◌*◌, List, ◌++◌, length, sym, ap, ◌∙◌, add-one, arith}
use Rattle.scrypt_kdf.specs.Order.{on_diagonals}
use Rattle.scrypt_kdf.specs.Scrypt.{iterate, joined, part}
use Rattle.scrypt_kdf.proofs.Diagonals.{length-reordered}
use Rattle.scrypt_kdf.proofs.Lengths.{length-iterate}
use Rattle.scrypt_kdf.proofs.Parts.{joined_more, part_of_joined}
use Rattle.scrypt_kdf.proofs.mix.fill.Goals as goal

pub loop-i-init : goal.loop-i-init
unfolding iterate
loop-i-init c =
    let none : 0 ≡ 128 * c.args.r * 0 = omega arith in
    record {
      len = c.clear.ensures.len ∙ none;
      iterates = λ b long same. c.clear.ensures.items;
      next = λ b long same. same;
    }

pub loop-i-preserved : goal.loop-i-preserved
unfolding iterate
loop-i-preserved c =
    let r : ℕ = c.args.r in
    let i : ℕ = c.loop-i.i in
    let first : List ℕ = c.args.x.now in
    let stored : List ℕ → ℕ → List ℕ = λ b k. on_diagonals (iterate r b k) in
    let appended = c.in_ok-extend_from_slice.ensures.items in
    let so_far : (b : List ℕ) → length b ≡ 128 * r → first ≡ on_diagonals b
    → c.extend_from_slice.new.self.items ≡ joined (stored b) (i + 1) =
    λ b long same. appended
    ∙ (λ t. c.loop-i.invariant.iterates b long same t ++ c.loop-i.invariant.next b long same t)
    ∙ sym (joined_more (stored b) i) in
    record {
      len = c.in_ok-extend_from_slice.ensures.len ∙ omega arith;
      iterates = so_far;
      next = λ b long same.
          let here : c.part.result.now ≡ stored b i =
          c.part.ensures ∙ ap (λ (xs : List ℕ). part (128 * r) xs i) (c.as_slice.ensures.value ∙ so_far b long same)
          ∙ part_of_joined (128 * r) (stored b) (i + 1) i
          (λ k lt. length-reordered 5 (iterate r b k) ∙ length-iterate r b k long) (omega arith) in
          c.block_mix.ensures (iterate r b i) (length-iterate r b i long) here
          ∙ ap (λ (k : ℕ). on_diagonals (iterate r b k)) (sym (add-one i));
    }
