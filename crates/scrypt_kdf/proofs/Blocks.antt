-- The blocks of PBKDF2, one block further.
use Rattle.std.proofs.Common.{◌≡◌, ℕ, zero, suc, ◌+◌, ◌-◌, ◌*◌, ◌<◌, List, ◌++◌, length, take, min, refl, sym, ap, ◌∙◌, arith, add-one, inl, inr}
use Rattle.std.proofs.lemmas.Bool.{cases_lt}
use Rattle.std.proofs.lemmas.List.{length-append, length-take, take_all}
use Rattle.std.proofs.lemmas.Slice.{take-put_mid}
use Rattle.std.proofs.Math.Seq.{take-append-add}
use borrow.Rule.Slice.PartMut.{put_mid}
use Rattle.scrypt_kdf.specs.Hmac.{hmac_sha256}
use Rattle.scrypt_kdf.specs.Pbkdf2.{block, blocks}
use Rattle.scrypt_kdf.proofs.Digests.{length-sha256}
use Rattle.scrypt_kdf.proofs.Halves.{length-put_mid}

pub length-block : (password salt : List ℕ) (i : ℕ) → length (block password salt i) ≡ 32
unfolding hmac_sha256
length-block password salt i = length-sha256 _

length-blocks : (password salt : List ℕ) (n : ℕ) → length (blocks password salt n) ≡ 32 * n
unfolding blocks
length-blocks password salt zero = refl
length-blocks password salt (suc n) =
    let before = length-blocks password salt n in
    let last = length-block password salt (n + 1) in
    length-append (blocks password salt n) (block password salt (n + 1)) ∙ omega arith

blocks_more : (password salt : List ℕ) (n : ℕ)
    → blocks password salt (n + 1) ≡ blocks password salt n ++ block password salt (n + 1)
unfolding blocks
blocks_more password salt n = ap (blocks password salt) (add-one n)

-- the output after part i is written, where all of the part fits or only its first bytes
pub part_put : (password salt : List ℕ) (len i k : ℕ) (out new : List ℕ) → 32 * i < len → length out ≡ len
    → k ≡ min len (32 * i + 32) - 32 * i → new ≡ take k (block password salt (i + 1))
    → take (32 * i) out ≡ take len (blocks password salt i)
    → take (32 * (i + 1)) (put_mid (32 * i) k out new) ≡ take len (blocks password salt (i + 1))
part_put password salt len i k out new lt long cut now before =
    let part : List ℕ = block password salt (i + 1) in
    let front : List ℕ = blocks password salt i in
    let part_long : length part ≡ 32 = length-block password salt (i + 1) in
    let front_long : length front ≡ 32 * i = length-blocks password salt i in
    let new_long : length new ≡ k = ap length now ∙ length-take k part ∙ omega arith in
    let whole : take len front ≡ front = take_all len front (omega arith) in
    let so_far : take (32 * i) out ≡ front = before ∙ whole in
    let more : take len (blocks password salt (i + 1)) ≡ take len (front ++ part) = ap (take len) (blocks_more password salt i) in
    let put : List ℕ = put_mid (32 * i) k out new in
    let end : take (32 * i + k) put ≡ front ++ take k part =
    take-put_mid (32 * i) k out new (32 * i + k) (omega arith) (omega arith) ∙ (λ t. so_far t ++ now t) in
    let cut_off : take (32 * i + k) (front ++ part) ≡ front ++ take k part =
    ap (λ (m : ℕ). take (m + k) (front ++ part)) (sym front_long) ∙ take-append-add front part k in
    elim (cases_lt len (32 * i + 32)) [
      | inl short ↦
          let at_end : 32 * i + k ≡ len = omega arith in
          let all : length put ≡ len = length-put_mid (32 * i) k out new new_long (omega arith) ∙ long in
          take_all (32 * (i + 1)) put (omega arith) ∙ sym (take_all (32 * i + k) put (omega arith))
          ∙ end ∙ sym cut_off ∙ ap (λ (m : ℕ). take m (front ++ part)) at_end ∙ sym more
      | inr full ↦
          let next : 32 * (i + 1) ≡ 32 * i + k = omega arith in
          let both : length (front ++ part) ≡ 32 * i + k = length-append front part ∙ omega arith in
          ap (λ (m : ℕ). take m put) next ∙ end ∙ sym cut_off
          ∙ take_all (32 * i + k) (front ++ part) (omega arith)
          ∙ sym (take_all len (front ++ part) (omega arith)) ∙ sym more
    ]
