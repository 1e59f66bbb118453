use Rattle.std.proofs.Common.{map, ap, sym, ◌∙◌}
use Rattle.aes_block.specs.Cipher.{mix_columns}
use Rattle.aes_block.specs.Planes.{blocks_of}
use Rattle.aes_block.proofs.MixColumns.{mix_blocks, mix_joined, mixed_vectors}
use Rattle.aes_block.proofs.rounds.mix_columns.Goals as goal

pub from_planes-requires : goal.from_planes-requires
from_planes-requires c =
    let planes = c.planes-a.result in
    let whole = mix_joined planes _ _ _ _ _ _ c.next_rows-next.ensures c.add-both.ensures c.double.ensures c.add.ensures c.opposite_rows.ensures c.add-planes.ensures in
    rw whole (mixed_vectors planes c.planes-a.ensures.vectors)

pub returns : goal.returns
returns c =
    let planes = c.planes-a.result in
    let whole = mix_joined planes _ _ _ _ _ _ c.next_rows-next.ensures c.add-both.ensures c.double.ensures c.add.ensures c.opposite_rows.ensures c.add-planes.ensures in
    c.from_planes.ensures ∙ ap blocks_of whole ∙ mix_blocks planes c.planes-a.ensures.vectors ∙ sym (ap (map mix_columns) c.planes-a.ensures.value)
