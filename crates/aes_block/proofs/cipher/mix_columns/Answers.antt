use Rattle.std.proofs.Common.{[], ◌∷◌}
use Rattle.aes_block.proofs.cipher.mix_columns.Goals as goal

pub returns : goal.returns
returns c = λ i. c.mix_byte.ensures i ∷ c.mix_byte-2.ensures i ∷ c.mix_byte-3.ensures i ∷ c.mix_byte-4.ensures i ∷ c.mix_byte-5.ensures i ∷ c.mix_byte-6.ensures i ∷ c.mix_byte-7.ensures i ∷ c.mix_byte-8.ensures i ∷ c.mix_byte-9.ensures i ∷ c.mix_byte-10.ensures i ∷ c.mix_byte-11.ensures i ∷ c.mix_byte-12.ensures i ∷ c.mix_byte-13.ensures i ∷ c.mix_byte-14.ensures i ∷ c.mix_byte-15.ensures i ∷ c.mix_byte-16.ensures i ∷ []
