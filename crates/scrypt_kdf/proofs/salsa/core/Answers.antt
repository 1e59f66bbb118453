use Rattle.std.proofs.Common.{◌≡◌, ℕ, List, [], ◌∷◌, refl, sym, ap, ◌∙◌}
use Rattle.scrypt_kdf.specs.Order.{on_diagonals, reordered}
use Rattle.scrypt_kdf.specs.Rows.{diagonals, lanes, quarter, quarters}
use Rattle.scrypt_kdf.specs.Salsa.{bytes_of, core, salsa20_8, word_at, words}
use Rattle.scrypt_kdf.proofs.Lengths.{length-core}
use Rattle.scrypt_kdf.proofs.Sixteen.{sixteen, sixty_four}
use Rattle.scrypt_kdf.proofs.salsa.core.Goals as goal

pub returns : goal.returns
unfolding salsa20_8 reordered
returns c = λ b long same.
    let row : List ℕ → ℕ → List ℕ = λ x i. lanes (word_at (quarter (on_diagonals x) i)) in
    let written = sixty_four b long in
    let loaded = ap (λ (x : List ℕ). row x 0 ∷ row x 1 ∷ row x 2 ∷ row x 3 ∷ []) written ∙ sym (ap (λ (x : List ℕ). diagonals (words x)) written) in
    let rows : c.words.result ∷ c.words-2.result ∷ c.words-3.result ∷ c.words-4.result ∷ [] ≡ diagonals (words b) =
    rw (c.words.ensures, c.words-2.ensures, c.words-3.ensures, c.words-4.ensures, same) loaded in
    let w : List ℕ = core (words b) in
    let mixed = c.core_words.ensures (words b) refl rows in
    rw (c.bytes.ensures, c.bytes-2.ensures, c.bytes-3.ensures, c.bytes-4.ensures, mixed)
    (sym (ap (λ (x : List ℕ). quarters (on_diagonals (bytes_of x))) (sixteen w (length-core (words b)))))
