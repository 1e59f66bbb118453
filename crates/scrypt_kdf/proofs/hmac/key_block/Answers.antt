use Rattle.std.proofs.Common.{◌≡◌, ℕ, ◌-◌, List, ◌++◌, cond, drop, length, replicate, sym, ap, ◌∙◌}
use Rattle.std.proofs.lemmas.Bool.{le-ltb, lt-ltb}
use Rattle.std.proofs.lemmas.List.{drop-replicate}
use Rattle.sha2.specs.Sha256.{sha256}
use Rattle.scrypt_kdf.specs.Hmac.{key_block, short_key}
use Rattle.scrypt_kdf.proofs.Digests.{length-sha256}
use Rattle.scrypt_kdf.proofs.hmac.key_block.Goals as goal

pub returns-then-key-gt-BLOCK_LEN : goal.returns-then-key-gt-BLOCK_LEN
unfolding key_block
returns-then-key-gt-BLOCK_LEN c =
    let k = c.args.key.now in
    let short : short_key k ≡ sha256 k = ap (λ b. cond b (sha256 k) k) (lt-ltb 64 (length k) c.if-key-gt-BLOCK_LEN.true) in
    ap (λ (xs : List ℕ). xs ++ replicate 32 0) (c.copy_from_slice.ensures.after ∙ c.digest-hash.ensures)
    ∙ ap (λ (n : ℕ). sha256 k ++ replicate (64 - n) 0) (sym (length-sha256 k))
    ∙ ap (λ (s : List ℕ). s ++ replicate (64 - length s) 0) (sym short)

pub returns-else-key-gt-BLOCK_LEN : goal.returns-else-key-gt-BLOCK_LEN
unfolding key_block
returns-else-key-gt-BLOCK_LEN c =
    let k = c.args.key.now in
    let short : short_key k ≡ k = ap (λ b. cond b (sha256 k) k) (le-ltb 64 (length k) c.if-key-gt-BLOCK_LEN.false) in
    ap (λ (xs : List ℕ). xs ++ drop (length k) (replicate 64 0)) c.copy_from_slice-else-key-gt-BLOCK_LEN.ensures.after
    ∙ ap (λ (ys : List ℕ). k ++ ys) (drop-replicate (length k) 64 0)
    ∙ ap (λ (s : List ℕ). s ++ replicate (64 - length s) 0) (sym short)
