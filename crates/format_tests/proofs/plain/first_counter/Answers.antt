use Rattle.std.proofs.Common.{◌≡◌, ℕ, [], ◌∷◌, ◌++◌, List, replicate, sym, ap, ◌∙◌, append_assoc}
use Rattle.aes_gcm.specs.Gcm.{bit_length, padded}
use Rattle.aes_gcm.specs.Ghash.{ghash}
use Rattle.aes_gcm.proofs.Tags.{first_counter_long, first_counter_short}
use Rattle.format_tests.proofs.plain.first_counter.Goals as goal

pub returns-then-iv-eq12 : goal.returns-then-iv-eq12
returns-then-iv-eq12 c = λ cipher key.
    ap (λ (l : List ℕ). l ++ (0 ∷ 0 ∷ 0 ∷ 1 ∷ [])) c.copy_from_slice.ensures.after
    ∙ first_counter_short cipher c.args.iv.now c.if-iv-eq12.true

pub returns : goal.returns
unfolding bit_length
returns c = λ cipher key.
    let iv : List ℕ = c.args.iv.now in
    let pieces : c.deref.result.now ≡ padded iv ++ replicate 8 0 ++ bit_length iv =
    c.deref.ensures.value ∙ c.in_ok-extend_from_slice.ensures.items
    ∙ (λ i. (c.in_ok-push_padded.ensures i) ++ c.bit_lengths.ensures i)
    ∙ ap (λ (l : List ℕ). l ++ padded iv ++ (replicate 8 0 ++ bit_length iv)) c.new-blocks.ensures.items
    ∙ sym (append_assoc (padded iv) (replicate 8 0) (bit_length iv)) in
    c.ghash.ensures ∙ ap (ghash c.args.subkey) pieces ∙ first_counter_long cipher iv c.args.subkey key c.if-iv-eq12.false
