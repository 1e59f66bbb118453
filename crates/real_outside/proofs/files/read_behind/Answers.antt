use Rattle.std.proofs.Common.{◌≡◌, ◌≤◌, ◌++◌, ℕ, List, take, length, ap, ◌∙◌, arith}
use Rattle.std.proofs.lemmas.Grind.{common_steps}
use Rattle.real_outside.proofs.Reading.{cut_behind}
use Rattle.real_outside.proofs.files.read_behind.Goals as goal

pub returns : goal.returns
returns g c =
    let piece = c.read_some.new.piece in
    let n = c.in_ok-n.n in
    let all : length piece ≡ c.args.room = grind (arith, common_steps) in
    let few : n ≤ c.args.room = grind (arith, common_steps, all) in
    let grew = c.in_ok-resize.ensures.items in
    let front : take c.len-len.result c.deref_mut.result.now ≡ c.args.bytes.now.items = grind (arith, common_steps, grew) in
    let grown : c.truncate.new.self.items ≡ c.args.bytes.now.items ++ take n piece =
    c.truncate.ensures.items ∙ cut_behind (take c.len-len.result c.deref_mut.result.now) piece _ _ c.len-len.result _ n (grind (arith, common_steps, front)) (grind (arith, all, few)) (grind (arith, common_steps, few))
    ∙ ap (λ (xs : List ℕ). xs ++ take n piece) front in
    record { got = (take n piece, grown, grind (arith, common_steps, few, all), few, c.in_ok-n.ensures.bytes.0, λ none room. c.in_ok-n.ensures.bytes.1 none (grind (arith, all, room))) }
