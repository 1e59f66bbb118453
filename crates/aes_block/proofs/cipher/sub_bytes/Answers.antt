use Rattle.std.proofs.Common.{[], ◌∷◌, ◌∙◌, sym, arith}
use Rattle.aes_block.specs.Cipher.{sub_byte}
use Rattle.aes_block.proofs.States.{map_state}
use Rattle.aes_block.proofs.cipher.sub_bytes.Goals as goal

pub returns : goal.returns
returns c = (λ i. c.sub_byte.ensures i ∷ c.sub_byte-2.ensures i ∷ c.sub_byte-3.ensures i ∷ c.sub_byte-4.ensures i ∷ c.sub_byte-5.ensures i ∷ c.sub_byte-6.ensures i ∷ c.sub_byte-7.ensures i ∷ c.sub_byte-8.ensures i ∷ c.sub_byte-9.ensures i ∷ c.sub_byte-10.ensures i ∷ c.sub_byte-11.ensures i ∷ c.sub_byte-12.ensures i ∷ c.sub_byte-13.ensures i ∷ c.sub_byte-14.ensures i ∷ c.sub_byte-15.ensures i ∷ c.sub_byte-16.ensures i ∷ [])
    ∙ sym (map_state sub_byte c.args.s (omega arith))
