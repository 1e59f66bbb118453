use Rattle.std.proofs.Common.{drop, ◌∙◌, arith, length-drop}
use Rattle.std.proofs.lemmas.List.{take_all}
use Rattle.config_file.proofs.keys.halves.Goals as goal

pub returns-clause-inner : goal.returns-clause-inner
returns-clause-inner c =
    let derived = c.args.derived.now in
    c.key_of-2.ensures ∙ take_all 32 (drop 32 derived) (omega (arith, length-drop 32 derived, c.told-derived))
