use Rattle.std.proofs.Common.{◌≡◌, ℕ, ◌*◌, List, length, ap, ◌∙◌}
use Rattle.scrypt_kdf.specs.Pbkdf2.{pbkdf2}
use Rattle.scrypt_kdf.specs.Scrypt.{mixed_parts, scrypt}
use Rattle.scrypt_kdf.proofs.kdf.scrypt.Goals as goal

pub returns-clause-derived : goal.returns-clause-derived
unfolding scrypt
returns-clause-derived c =
    let password : List ℕ = c.args.password.now in
    let cost = c.args.params.now in
    let len : length c.as_mut_slice-b.result.now ≡ 128 * cost.r * cost.p =
    c.as_mut_slice-b.ensures.len ∙ c.in_ok-parts.ensures ∙ (λ t. 128 * c.r.ensures.value t * c.p.ensures.value t) in
    let parts = c.pbkdf2.ensures ∙ ap (pbkdf2 password c.args.salt.now) len in
    let mixed = c.in_ok-mix_parts.ensures ∙ ap (mixed_parts cost) parts in
    c.pbkdf2-2.ensures ∙ (λ t. pbkdf2 password (mixed t) (c.fill.ensures.len t))
