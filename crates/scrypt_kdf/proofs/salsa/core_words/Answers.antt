use Rattle.std.proofs.Common.{◌≡◌, ℕ, List, length, sym, ◌∙◌}
use Rattle.std.specs.Simd.Lanes.{zip2}
use Rattle.scrypt_kdf.specs.Rows.{diagonals}
use Rattle.scrypt_kdf.specs.Salsa.{add32, double_round, double_rounds}
use Rattle.scrypt_kdf.proofs.Lengths.{length-double_round}
use Rattle.scrypt_kdf.proofs.Sixteen.{sixteen}
use Rattle.scrypt_kdf.proofs.salsa.core_words.Goals as goal

pub returns : goal.returns
unfolding double_rounds
returns c = λ w long same.
    let w1 : List ℕ = double_round w in
    let w2 : List ℕ = double_round w1 in
    let w3 : List ℕ = double_round w2 in
    let w4 : List ℕ = double_round w3 in
    let n1 : length w1 ≡ 16 = length-double_round w ∙ long in
    let n2 : length w2 ≡ 16 = length-double_round w1 ∙ n1 in
    let n3 : length w3 ≡ 16 = length-double_round w2 ∙ n2 in
    let n4 : length w4 ≡ 16 = length-double_round w3 ∙ n3 in
    let e1 = c.double_round.ensures w long same in
    let e2 = c.double_round-2.ensures w1 n1 e1 in
    let e3 = c.double_round-3.ensures w2 n2 e2 in
    let e4 = c.double_round-4.ensures w3 n3 e3 in
    rw (c.sum.ensures, c.sum-2.ensures, c.sum-3.ensures, c.sum-4.ensures, e4, same)
    (λ t. diagonals (zip2 add32 (sym (sixteen w4 n4) t) (sym (sixteen w long) t)))
