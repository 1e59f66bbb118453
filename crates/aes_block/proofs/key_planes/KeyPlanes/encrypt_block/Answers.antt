use Rattle.std.proofs.Common.{[], map, slice_index_or, ap, ◌∙◌}
use Rattle.aes_block.specs.Cipher.{cipher}
use Rattle.aes_block.specs.KeyExpansion.{aes256, key_expansion}
use Rattle.aes_block.proofs.key_planes.KeyPlanes.encrypt_block.Goals as goal

pub returns : goal.returns
unfolding aes256
returns c =
    let w = key_expansion c.self.inside.key in
    ap (λ l. slice_index_or l 0 []) (c.blocks-blocks.ensures ∙ c.encrypt.ensures w c.self.invariant ∙ ap (map (cipher w)) c.repeated.ensures)
    ∙ ap (λ key. aes256 key c.args.block) c.self.view_is
