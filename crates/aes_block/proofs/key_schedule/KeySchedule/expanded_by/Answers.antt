use Rattle.std.proofs.Common.{◌≡◌, ap, sym, ◌∙◌, length, take, rules}
use Rattle.aes_block.specs.KeyExpansion.{key_expansion}
use Rattle.aes_block.proofs.Keys.{take-key_words}
use Rattle.aes_block.proofs.key_schedule.KeySchedule.expanded_by.Goals as goal

pub invariant_of-result : goal.invariant_of-result
invariant_of-result g c =
    let key = c.args.key.now in
    let long : length key ≡ 32 = search rules in
    c.expand.ensures ∙ ap key_expansion (sym (ap (take 32) c.expand.ensures ∙ take-key_words key 52 long))

pub returns : goal.returns
returns g c =
    let key = c.args.key.now in
    let long : length key ≡ 32 = search rules in
    ap (take 32) c.expand.ensures ∙ take-key_words key 52 long
