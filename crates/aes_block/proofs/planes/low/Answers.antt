use Rattle.std.proofs.Common.{◌∙◌, arith}
use Rattle.std.proofs.lemmas.Simd.{pick_l-range_with_len, pick_l_left}
use Rattle.std.specs.List.{range_with_len}
use Rattle.aes_block.proofs.planes.low.Goals as goal

pub returns : goal.returns
returns c =
    pick_l_left 0 c.args.v c.args.v 32 (range_with_len 0 16) c.fits-v.0 tt ∙ pick_l-range_with_len 0 c.args.v 0 16 (omega (arith, c.fits-v.0))
