use Rattle.std.proofs.Common.{◌≡◌, ◌-◌, ◌*◌, ◌/◌, ◌%◌, ◌^◌, ◌∙◌, ap, refl, arith, slice_index}
use Rattle.aes_gcm.specs.Ghash.{z_at}
use Rattle.aes_gcm.proofs.Product.{be_byte, times_by_step}
use Rattle.aes_gcm.proofs.hash_key.times_by.Goals as goal

pub bytes-init : goal.bytes-init
unfolding z_at
bytes-init c = λ h t. refl

pub bytes-preserved : goal.bytes-preserved
bytes-preserved c = λ h t.
    let byte : slice_index c.to_be_bytes-bytes.result c.bytes.p ≡ c.args.x / 2 ^ (120 - 8 * c.bytes.p) % 256 =
    ap (λ l. slice_index l c.bytes.p) c.to_be_bytes-bytes.ensures ∙ be_byte c.args.x c.bytes.p (omega arith) in
    times_by_step c.args.x h c.bytes.p _ c.bytes.z c.args.t.now (omega arith) byte t (c.bytes.invariant h t)

pub returns : goal.returns
returns c = λ h t.
    let done : c.bytes.p ≡ 16 = omega (arith, c.bytes.auto.p-end) in
    rw done at (c.bytes.invariant h t)
