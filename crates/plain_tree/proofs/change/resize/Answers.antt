use Rattle.std.proofs.Common.{◌≡◌, ◌++◌, ◌-◌, length, take, ◌∙◌, ap, arith}
use Rattle.std.specs.Prelude.{replicate, vec_len}
use Rattle.plain_tree.proofs.change.resize.Goals as goal

pub returns-clause-ok : goal.returns-clause-ok
returns-clause-ok c =
    let v = c.args.content.now in
    let fill : vec_len v ≡ length v.items = omega (arith, v.ok) in
    c.in_ok-resize.ensures.items ∙ ap (λ k. take c.args.len v.items ++ replicate (c.args.len - k) 0) fill
