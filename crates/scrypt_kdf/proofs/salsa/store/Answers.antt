use Rattle.std.proofs.Common.{ℕ, List, [], ◌++◌, slice_index_or, sym, ap, ◌∙◌, arith}
use Rattle.std.proofs.lemmas.List.{take_all}
use Rattle.scrypt_kdf.specs.Rows.{quarters}
use Rattle.scrypt_kdf.proofs.Sixteen.{sixty_four}
use Rattle.scrypt_kdf.proofs.salsa.store.Goals as goal

pub returns : goal.returns
returns c = λ b long same.
    let vector : List (List ℕ) → ℕ → List ℕ = λ x i. slice_index_or x i [] in
    let whole : List ℕ = c.put-4.new.block in
    let three = c.put-3.ensures ∙ ap (λ (xs : List ℕ). xs ++ vector c.args.x 2) (c.put-2.ensures
    ∙ ap (λ (xs : List ℕ). xs ++ vector c.args.x 1) c.put.ensures) in
    let all : List (List ℕ) → List ℕ = λ x. ((vector x 0 ++ vector x 1) ++ vector x 2) ++ vector x 3 in
    sym (take_all 64 whole (omega arith))
    ∙ c.put-4.ensures ∙ ap (λ (xs : List ℕ). xs ++ vector c.args.x 3) three
    ∙ ap all (same ∙ ap quarters (sixty_four b long))
    ∙ sym (sixty_four b long)
