use Rattle.std.proofs.Common.{map, ap, ◌∙◌}
use Rattle.aes_block.specs.Cipher.{cipher}
use Rattle.aes_block.specs.KeyExpansion.{aes256, key_expansion}
use Rattle.aes_block.proofs.key_planes.KeyPlanes.encrypt_sixteen.Goals as goal

pub returns : goal.returns
unfolding aes256
returns c =
    let key = c.self.inside.key in
    c.blocks-2.ensures ∙ c.encrypt.ensures (key_expansion key) c.self.invariant ∙ ap (map (cipher (key_expansion key))) c.new.ensures
    ∙ ap (λ k. map (aes256 k) c.args.blocks.now) c.self.view_is
