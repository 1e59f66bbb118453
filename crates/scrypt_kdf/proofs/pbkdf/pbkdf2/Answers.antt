use Rattle.std.proofs.Common.{◌≡◌, ℕ, ◌+◌, ◌-◌, ◌*◌, List, [], ◌++◌, length, map, take, bit_xor, sym, ap, ◌∙◌, arith}
use Rattle.std.proofs.lemmas.Grind.{div_ceil_times}
use Rattle.std.proofs.lemmas.List.{append_assoc, take_all}
use Rattle.std.specs.Int.{w32, to_be_bytes}
use Rattle.sha2.specs.Sha256.{sha256}
use Rattle.scrypt_kdf.specs.Hmac.{hmac_sha256}
use Rattle.scrypt_kdf.specs.Pbkdf2.{block, blocks, pbkdf2}
use Rattle.scrypt_kdf.proofs.Blocks.{part_put}
use Rattle.scrypt_kdf.proofs.pbkdf.pbkdf2.Goals as goal

pub loop-i-init : goal.loop-i-init
unfolding blocks
loop-i-init c = sym (take_all (length c.args.out.now) [] (omega arith))

pub loop-i-preserved : goal.loop-i-preserved
unfolding hmac_sha256
loop-i-preserved c =
    let password : List ℕ = c.args.password.now in
    let salt : List ℕ = c.args.salt.now in
    let i : ℕ = c.loop-i.i in
    let pad : List ℕ → ℕ → List ℕ = λ b byte. map (λ x. bit_xor x byte) b in
    let b : List ℕ = c.key_block-block.result in
    let count : List ℕ = to_be_bytes w32 (i + 1) in
    let part : c.numbered-part.result ≡ block password salt (i + 1) =
    c.numbered-part.ensures (pad b 0x36 ++ salt) (pad b 0x5c) (c.update.ensures (pad b 0x36) c.padded-inner.ensures) c.padded-outer.ensures
    ∙ ap (λ (xs : List ℕ). sha256 (pad b 0x5c ++ sha256 xs)) (append_assoc (pad b 0x36) salt count)
    ∙ ap (λ (ks : List ℕ). sha256 (pad ks 0x5c ++ sha256 (pad ks 0x36 ++ (salt ++ count)))) c.key_block-block.ensures in
    part_put password salt (length c.args.out.now) i (c.min-end.result - 32 * i) c.loop-i.out c.copy_from_slice.new.self
    (omega (arith, c.div_ceil-i-end.ensures)) c.loop-i.auto.out (ap (λ (end : ℕ). end - 32 * i) c.min-end.ensures)
    (c.copy_from_slice.ensures.after ∙ ap (take (c.min-end.result - 32 * i)) part) c.loop-i.invariant

pub returns : goal.returns
unfolding pbkdf2
returns c =
    let ceil = div_ceil_times (length c.args.out.now) 32 (omega arith) in
    let count = c.div_ceil-i-end.ensures in
    let done : c.loop-i.i ≡ c.div_ceil-i-end.result = omega (arith, c.loop-i.auto.i-end) in
    sym (take_all (32 * c.loop-i.i) c.loop-i.out (omega (arith, ceil.0)))
    ∙ c.loop-i.invariant
    ∙ ap (λ (n : ℕ). take (length c.args.out.now) (blocks c.args.password.now c.args.salt.now n)) (done ∙ count)
