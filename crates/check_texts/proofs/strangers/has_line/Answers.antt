use Rattle.std.proofs.Common.{◌∙◌}
use Rattle.check_texts.proofs.Searching.{searched_line}
use Rattle.check_texts.proofs.strangers.has_line.Goals as goal

pub returns : goal.returns
returns c =
    let facts = c.binary_search.ensures in
    c.is_ok.ensures.value ∙ searched_line c.args.lines.now c.args.line.now c.binary_search.result c.requires facts.bound facts.position
