use Rattle.std.proofs.Common.{◌*◌, arith, ◌∙◌}
use Rattle.std.proofs.lemmas.Simd.{get_or-chunk, length-chunk}
use Rattle.aes_gcm.proofs.Hashing.{block_read}
use Rattle.aes_gcm.proofs.hash_key.load_whole.Goals as goal

pub returns : goal.returns
returns c =
    let bytes = c.args.bytes.now in
    let i = c.args.i in
    c.from_be_bytes.ensures
    ∙ block_read bytes _ i (omega arith) (length-chunk (16 * i) 16 bytes (omega arith)) (λ j lt. get_or-chunk (16 * i) 16 bytes j 0 lt)
