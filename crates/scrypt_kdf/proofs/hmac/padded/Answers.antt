use Rattle.std.proofs.Common.{ℕ, List, bit_xor, get_or, arith}
use Rattle.std.proofs.lemmas.List.{get_or_default}
use Rattle.std.proofs.lemmas.List.Edits.{map_over_more}
use Rattle.scrypt_kdf.proofs.hmac.padded.Goals as goal

pub loop-x-preserved : goal.loop-x-preserved
loop-x-preserved c =
    let items : List ℕ = c.loop-x.x-items in
    let i : ℕ = c.loop-x.x-index in
    map_over_more (λ x. bit_xor x c.args.byte) c.args.block.now items i (get_or items i 0) (omega arith) c.loop-x.invariant
    (get_or_default items i 0 _ (omega arith))
