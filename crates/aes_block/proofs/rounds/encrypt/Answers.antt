use Rattle.std.proofs.Common.{◌≡◌, ℕ, ◌+◌, List, map, ap, sym, ◌∙◌, arith}
use Rattle.std.proofs.lemmas.Simd.{map-map}
use Rattle.aes_block.specs.Cipher.{add_round_key, cipher, mix_columns, rounds, shift_rows, sub_bytes}
use Rattle.aes_block.proofs.Steps.{key_at, rounds_next}
use Rattle.aes_block.proofs.rounds.encrypt.Goals as goal

pub rounds-init : goal.rounds-init
unfolding rounds
rounds-init c = λ w keys. c.add_round_key-state.ensures w 0 (key_at w c.args.keys.now 0 _ keys (omega arith))

pub rounds-preserved : goal.rounds-preserved
rounds-preserved c = λ w keys.
    let blocks = c.args.blocks.now in
    let n = c.rounds.r in
    let step : List ℕ → List ℕ = λ s. add_round_key w (n + 1) (mix_columns (shift_rows (sub_bytes s))) in
    c.round-next.ensures w (n + 1) (key_at w c.args.keys.now (n + 1) _ keys (omega arith))
    ∙ ap (map step) (c.rounds.invariant w keys) ∙ map-map step (λ b. rounds w b n) blocks
    ∙ (λ i. map (λ b. sym (rounds_next w b n) i) blocks)

pub returns : goal.returns
unfolding cipher
returns c = λ w keys.
    let blocks = c.args.blocks.now in
    let done : c.rounds.r ≡ 13 = omega (arith, c.rounds.auto.r-end) in
    let before : c.rounds.state ≡ map (λ b. rounds w b 13) blocks = c.rounds.invariant w keys ∙ (λ i. map (λ b. rounds w b (done i)) blocks) in
    c.add_round_key.ensures w 14 (key_at w c.args.keys.now 14 _ keys (omega arith))
    ∙ ap (map (add_round_key w 14)) (c.shift_rows.ensures ∙ ap (map shift_rows) (c.sub_bytes.ensures ∙ ap (map sub_bytes) before
    ∙ map-map sub_bytes (λ b. rounds w b 13) blocks) ∙ map-map shift_rows (λ b. sub_bytes (rounds w b 13)) blocks)
    ∙ map-map (add_round_key w 14) (λ b. shift_rows (sub_bytes (rounds w b 13))) blocks
