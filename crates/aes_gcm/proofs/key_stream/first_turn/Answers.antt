use Rattle.std.proofs.Common.{ℕ, ◌<◌, List, [], slice_index_or, ap, ◌∙◌, arith}
use Rattle.std.proofs.lemmas.List.{get_or-map}
use Rattle.aes_block.specs.KeyExpansion.{aes256}
use Rattle.aes_gcm.specs.Gctr.{HasStream}
use Rattle.aes_gcm.proofs.key_stream.first_turn.Goals as goal

pub returns : goal.returns
unfolding HasStream
returns c = λ j lt.
    let cipher : List ℕ → List ℕ = aes256 c.args.keys.now in
    let counters : List (List ℕ) = c.sixteen_counters.result in
    let sixteen : j < 16 = omega arith in
    ap (λ (blocks : List (List ℕ)). slice_index_or blocks j []) c.encrypt_sixteen.ensures
    ∙ get_or-map cipher counters j [] [] (omega arith) ∙ ap cipher (c.sixteen_counters.ensures j sixteen)
