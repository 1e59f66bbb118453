use Rattle.std.proofs.Common.{◌<◌, length, ◌∙◌, arith}
use Rattle.std.proofs.lemmas.Bool.Decides.{nat_tests}
use Rattle.fs_model.proofs.PrefixLemmas.{above_front}
use Rattle.fs_model.proofs.paths.is_above.Goals as goal

pub returns : goal.returns
returns c =
    let some : 0 < length c.args.names.now = grind (arith, nat_tests, c.if-is_empty.false, c.is_empty.ensures) in
    c.has_prefix.ensures.value ∙ above_front c.args.names.now c.args.above.now some
