use Rattle.std.proofs.Common.{map, ap, ◌∙◌}
use Rattle.std.proofs.lemmas.Simd.{map-map}
use Rattle.aes_block.specs.Cipher.{add_round_key, mix_columns, shift_rows, sub_bytes}
use Rattle.aes_block.proofs.rounds.round.Goals as goal

pub returns : goal.returns
returns c = λ w r key.
    let blocks = c.args.blocks.now in
    c.add_round_key.ensures w r key
    ∙ ap (map (add_round_key w r)) (c.mix_columns.ensures ∙ ap (map mix_columns) (c.shift_rows.ensures ∙ ap (map shift_rows) c.sub_bytes.ensures
    ∙ map-map shift_rows sub_bytes blocks) ∙ map-map mix_columns (λ s. shift_rows (sub_bytes s)) blocks)
    ∙ map-map (add_round_key w r) (λ s. mix_columns (shift_rows (sub_bytes s))) blocks
