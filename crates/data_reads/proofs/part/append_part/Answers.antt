use Rattle.std.proofs.Common.{◌++◌, ◌∙◌, ap}
use Rattle.data_reads.proofs.Parts.{ranged}
use Rattle.data_reads.proofs.part.append_part.Goals as goal

pub returns : goal.returns
returns c =
    c.in_ok-extend_from_slice.ensures.items
    ∙ ap (λ xs. c.args.out.now.items ++ xs) (ranged c.args.part.from c.args.part.to c.min-start.result c.min-end.result c.args.bytes.now c.min-end.ensures c.min-start.ensures)
