use Rattle.std.proofs.Common.{◌≡◌, eqb, bit_or, ap, ◌∙◌, rules}
use Rattle.std.specs.List.{fold}
use Rattle.data_nodes.proofs.Fields.{none_among}
use Rattle.data_nodes.proofs.reading.are_zeros.Goals as goal

pub returns : goal.returns
returns c =
    let any : c.fold.result ≡ fold bit_or 0 c.args.bytes.now = search rules in
    ap (λ n. eqb n 0) any ∙ none_among 0 c.args.bytes.now
