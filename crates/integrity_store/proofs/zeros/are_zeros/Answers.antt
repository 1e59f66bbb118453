use Rattle.std.proofs.Common.{◌≡◌, eqb, bit_or, sym, ap, ◌∙◌, rules}
use Rattle.std.specs.List.{fold}
use Rattle.data_nodes.proofs.Fields.{none_among, zeros_are}
use Rattle.integrity_store.proofs.zeros.are_zeros.Goals as goal

pub returns : goal.returns
returns c =
    let any : c.fold.result ≡ fold bit_or 0 c.args.bytes.now = search rules in
    λ yes. zeros_are c.args.bytes.now (sym (ap (λ n. eqb n 0) any ∙ none_among 0 c.args.bytes.now) ∙ yes)
