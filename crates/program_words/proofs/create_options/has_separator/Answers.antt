use Rattle.std.proofs.Common.{rules, tests, codes, ◌∙◌}
use Rattle.std.proofs.lemmas.Iterator.{YieldsList-from_slice}
use Rattle.std.proofs.lemmas.Iterator.Search.{any_from_yields_List}
use Rattle.std.specs.Str.{bytes_eq}
use Rattle.std.specs.String.{string_bytes}
use Rattle.clap.proofs.WalkLemmas.{list_any-map}
use Rattle.program_words.proofs.create_options.has_separator.Goals as goal

pub returns : goal.returns
returns c =
    any_from_yields_List (λ w. bytes_eq (string_bytes w) (codes "--")) _ _ _ c.any.ensures.ran (YieldsList-from_slice c.args.words.now c.iter.ensures.rest)
    (λ x b q k. search (rules, tests))
    ∙ list_any-map (λ w. bytes_eq w (codes "--")) string_bytes c.args.words.now
