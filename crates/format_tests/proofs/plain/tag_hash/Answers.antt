use Rattle.std.proofs.Common.{◌≡◌, ℕ, ◌++◌, List, sym, ap, ◌∙◌, append_assoc}
use Rattle.aes_gcm.specs.Gcm.{bit_length, padded}
use Rattle.aes_gcm.specs.Ghash.{ghash}
use Rattle.format_tests.proofs.plain.tag_hash.Goals as goal

pub returns : goal.returns
unfolding bit_length
returns c =
    let extra : List ℕ = c.args.extra.now in
    let text : List ℕ = c.args.text.now in
    let last : List ℕ = bit_length extra ++ bit_length text in
    let pieces : c.deref.result.now ≡ padded extra ++ padded text ++ last =
    c.deref.ensures.value ∙ c.in_ok-extend_from_slice.ensures.items
    ∙ (λ i. c.in_ok-push_padded-2.ensures i ++ c.bit_lengths.ensures i)
    ∙ ap (λ (l : List ℕ). l ++ padded text ++ last) c.in_ok-push_padded.ensures
    ∙ ap (λ (l : List ℕ). l ++ padded extra ++ padded text ++ last) c.new-blocks.ensures.items in
    c.ghash.ensures ∙ ap (ghash c.args.subkey) (pieces ∙ sym (append_assoc (padded extra ++ padded text) (bit_length extra) (bit_length text)))
