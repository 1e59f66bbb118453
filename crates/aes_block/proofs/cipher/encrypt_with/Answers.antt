use Rattle.std.proofs.Common.{◌≡◌, ◌∙◌, ap, refl, add-one, arith}
use Rattle.aes_block.specs.Cipher.{add_round_key, cipher, rounds, shift_rows, sub_bytes}
use Rattle.aes_block.proofs.cipher.encrypt_with.Goals as goal

pub rounds-init : goal.rounds-init
unfolding rounds
rounds-init c = c.add_round_key-s.ensures

pub rounds-preserved : goal.rounds-preserved
unfolding rounds
rounds-preserved c = rw add-one (rw (c.round-next.ensures, c.rounds.invariant) refl)

pub returns : goal.returns
unfolding cipher
returns c =
    let w = c.args.w.now in
    let done : c.rounds.r ≡ 13 = omega (arith, c.rounds.auto.r-end) in
    let state = c.rounds.invariant ∙ ap (rounds w c.args.block) done in
    c.add_round_key.ensures ∙ ap (add_round_key w 14) (c.shift_rows.ensures ∙ ap shift_rows (c.sub_bytes.ensures ∙ ap sub_bytes state))
