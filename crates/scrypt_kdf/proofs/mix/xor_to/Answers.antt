use Rattle.std.proofs.Common.{bit_xor, sym, ◌∙◌, arith}
use Rattle.std.proofs.lemmas.List.{ext_get_or}
use Rattle.std.proofs.lemmas.Simd.{get_or-zip2, length-zip2}
use Rattle.scrypt_kdf.specs.Scrypt.{xor_bytes}
use Rattle.scrypt_kdf.proofs.mix.xor_to.Goals as goal

pub returns : goal.returns
returns c =
    let x = c.args.x.now in
    let y = c.args.y.now in
    let long = length-zip2 bit_xor x y (omega arith) in
    ext_get_or 0 c.loop-k.t (xor_bytes x y) (omega (arith, long))
    (λ i lt. c.loop-k.invariant i (omega arith) ∙ sym (get_or-zip2 bit_xor x y i 0 0 0 (omega arith) (omega arith)))
