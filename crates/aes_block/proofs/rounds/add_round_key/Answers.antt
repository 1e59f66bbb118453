use Rattle.std.proofs.Common.{map, ap, sym, ◌∙◌}
use Rattle.aes_block.specs.Cipher.{add_round_key}
use Rattle.aes_block.specs.Planes.{blocks_of}
use Rattle.aes_block.proofs.Steps.{add_blocks, sum_vectors}
use Rattle.aes_block.proofs.rounds.add_round_key.Goals as goal

pub from_planes-requires : goal.from_planes-requires
from_planes-requires c =
    rw c.add-planes.ensures (sum_vectors c.planes.result c.planes-2.result c.planes.ensures.vectors c.planes-2.ensures.vectors)

pub returns : goal.returns
returns c = λ w r key.
    c.from_planes.ensures ∙ ap blocks_of c.add-planes.ensures
    ∙ add_blocks c.planes.result c.planes-2.result w r c.planes.ensures.vectors c.planes-2.ensures.vectors (sym c.planes-2.ensures.value ∙ key)
    ∙ sym (ap (map (add_round_key w r)) c.planes.ensures.value)
