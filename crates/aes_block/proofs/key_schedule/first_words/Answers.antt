use Rattle.std.proofs.Common.{◌≡◌, ◌∙◌, length, ap, rules}
use Rattle.std.proofs.lemmas.List.{take_at}
use Rattle.aes_block.proofs.key_schedule.first_words.Goals as goal

pub returns : goal.returns
returns c =
    let long : length c.args.key.now ≡ 32 = search rules in
    take_at c.copy_from_slice.new.self _ 32 (ap length c.copy_from_slice.ensures.after ∙ long) ∙ c.copy_from_slice.ensures.after
