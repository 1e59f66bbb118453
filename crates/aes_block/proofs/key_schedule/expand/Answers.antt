use Rattle.std.proofs.Common.{◌≡◌, ◌+◌, ◌*◌, refl, ap, ◌∙◌, length, arith, slice_index, [], ◌∷◌}
use Rattle.aes_block.specs.KeyExpansion.{add_word, key_words}
use Rattle.aes_block.specs.Field.{xtime}
use Rattle.aes_block.proofs.Keys.{length_put_mid, power_kept, power_next, word_written}
use Rattle.aes_block.proofs.key_schedule.expand.Goals as goal
use Rattle.aes_block.proofs.key_schedule.expand.Goals.{then-n-eq0, else-n-eq0}

pub words-init : goal.words-init
unfolding key_words
words-init g c = record { whole = omega arith; power = refl; written = c.first_words-k.ensures }

pub words-preserved : goal.words-preserved
words-preserved g c =
    let k = c.words.k in
    let n = c.words.n in
    let first = slice_index k (4 * n) ∷ slice_index k (4 * n + 1) ∷ slice_index k (4 * n + 2) ∷ slice_index k (4 * n + 3) ∷ [] in
    let last = slice_index k (4 * n + 28) ∷ slice_index k (4 * n + 29) ∷ slice_index k (4 * n + 30) ∷ slice_index k (4 * n + 31) ∷ [] in
    let new : c.copy_from_slice.new.self ≡ add_word first c.key_step-step.result = c.copy_from_slice.ensures.after ∙ c.add_word.ensures in
    record {
      whole = length_put_mid (4 * n + 32) _ k c.copy_from_slice.new.self (omega (arith, c.words.invariant.whole)) (omega (arith, ap length new)) ∙ c.words.invariant.whole;
      power = elim c.if-n-eq0.branch [
        | then-n-eq0 w ↦ rw (w.power-is, w.xtime-power.ensures) (power_next n c.words.power _ c.words.invariant.power (omega arith) (ap xtime c.words.invariant.power))
        | else-n-eq0 w ↦ rw w.power-is (power_kept n c.words.power c.words.invariant.power (omega arith))
      ];
      written = word_written c.args.key.now k first last c.key_step-step.result c.copy_from_slice.new.self n _ c.words.invariant.whole (omega arith)
          c.words.invariant.written refl refl c.key_step-step.ensures new;
    }
