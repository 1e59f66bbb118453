use Rattle.std.proofs.Common.{map, ap, sym, ◌∙◌, arith}
use Rattle.aes_block.specs.Cipher.{shift_rows}
use Rattle.aes_block.specs.Planes.{blocks_of, shifted_row}
use Rattle.aes_block.proofs.Steps.{shift_blocks, shuffled_vectors}
use Rattle.aes_block.proofs.rounds.shift_rows.Goals as goal

pub from_planes-requires : goal.from_planes-requires
from_planes-requires c =
    rw c.shifted_rows-planes.ensures (shuffled_vectors shifted_row c.planes.result (λ p lt. omega arith) c.planes.ensures.vectors)

pub returns : goal.returns
returns c =
    c.from_planes.ensures ∙ ap blocks_of c.shifted_rows-planes.ensures ∙ shift_blocks c.planes.result
    ∙ sym (ap (map shift_rows) c.planes.ensures.value)
