use Rattle.std.proofs.Common.{◌≡◌, ℕ, List, [], ◌∷◌, length, map, refl, slice_index, slice_index_or, sym, ap, ◌∙◌, rules}
use Rattle.std.proofs.lemmas.List.FromFn.{fill_by_all}
use Rattle.aes_block.specs.Cipher.{sub_byte, sub_bytes}
use Rattle.aes_block.proofs.bits_sub_word.ByCircuitSubWord.sub_word.Goals as goal

-- the first four bytes of a block
abbrev front : List ℕ → List ℕ
front b = slice_index b 0 ∷ slice_index b 1 ∷ slice_index b 2 ∷ slice_index b 3 ∷ []

pub returns : goal.returns
returns c =
    let word = c.args.word in
    let four : length word ≡ 4 = search rules in
    ap (λ blocks. front (slice_index_or blocks 0 [])) (c.blocks-blocks.ensures ∙ c.sub_bytes.ensures ∙ ap (map sub_bytes) c.repeated.ensures)
    ∙ ap (map sub_byte) (sym (fill_by_all (slice_index word) word 4 0 four (λ k lt. refl)))
