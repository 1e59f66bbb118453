use Rattle.std.proofs.Common.{not, ◌∙◌, ap, rules}
use Rattle.std.proofs.lemmas.Fn.{filter_same}
use Rattle.outside.specs.Names.{same_at}
use Rattle.outside.specs.View.{at_of, list_of}
use Rattle.memory_outside.proofs.Plain.{list_without}
use Rattle.test_systems.proofs.stored.drop_file.Goals as goal

pub returns : goal.returns
returns c =
    ap list_of (filter_same _ (λ p. not (same_at (at_of c.args.name.now) (at_of p.name))) _ (λ p b f k. search rules) _ _ c.retain.ensures.filtered)
    ∙ list_without c.args.name.now c.args.files.now.items
