use Rattle.std.proofs.Common.{◌∙◌, List, ℕ, map, Global, sym, rules}
use Rattle.std.specs.String.{string_bytes}
use Rattle.program_words.proofs.Said.{none_by_separator, none_by_fault, by_values}
use Rattle.program_words.proofs.create_options.parse_create_options.Goals as goal

pub returns-then-has_separator-clause-said : goal.returns-then-has_separator-clause-said
returns-then-has_separator-clause-said c =
    let words : List (List ℕ) = map (string_bytes {Z = Global}) c.args.words.now in
    none_by_separator words (sym c.has_separator.ensures ∙ c.if-has_separator.true)

pub returns-in-Some-clause-said : goal.returns-in-Some-clause-said
returns-in-Some-clause-said c =
    let words : List (List ℕ) = map (string_bytes {Z = Global}) c.args.words.now in
    let found = rw c.in-Some.is at c.in_ok-matches.ensures.some in
    c.options_in.ensures.value ∙ by_values words _ (sym c.has_separator.ensures ∙ c.if-has_separator.false) found.0 found.1

pub returns-in-None-clause-said : goal.returns-in-None-clause-said
returns-in-None-clause-said c =
    let words : List (List ℕ) = map (string_bytes {Z = Global}) c.args.words.now in
    let faulty = rw c.in-None.is at c.in_ok-matches.ensures.none in
    none_by_fault words (faulty (search rules))
