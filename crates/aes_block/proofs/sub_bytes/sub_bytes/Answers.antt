use Rattle.std.proofs.Common.{map, ap, sym, ◌∙◌, arith}
use Rattle.aes_block.specs.Cipher.{sub_bytes}
use Rattle.aes_block.specs.Circuit.{vectors}
use Rattle.aes_block.specs.Planes.{blocks_of, first}
use Rattle.aes_block.proofs.Steps.{sub_blocks}
use Rattle.aes_block.proofs.BitsSBox.{joined, s_box, s_box_vectors}
use Rattle.aes_block.proofs.Lanes.{are_vectors}
use Rattle.aes_block.proofs.sub_bytes.sub_bytes.Goals as goal

pub from_planes-requires : goal.from_planes-requires
from_planes-requires c =
    let planes = c.planes.result in
    let whole = joined (first 8 planes) _ _ _ _ _ c.input_sums-y.ensures c.norm.ensures c.norm_inverse.ensures c.products.ensures c.output_sums-planes.ensures in
    rw whole (are_vectors (s_box vectors (first 8 planes)) (omega arith) (s_box_vectors planes c.planes.ensures.vectors))

pub returns : goal.returns
returns c =
    let planes = c.planes.result in
    let whole = joined (first 8 planes) _ _ _ _ _ c.input_sums-y.ensures c.norm.ensures c.norm_inverse.ensures c.products.ensures c.output_sums-planes.ensures in
    c.from_planes.ensures ∙ ap blocks_of whole ∙ sub_blocks planes c.planes.ensures.vectors ∙ sym (ap (map sub_bytes) c.planes.ensures.value)
