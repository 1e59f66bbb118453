use Rattle.std.proofs.Common.{ℕ, List, get_or, length, slice_index, ap, ◌∙◌, arith}
use Rattle.std.proofs.lemmas.List.FromFn.{fill_by_all}
use Rattle.scrypt_kdf.specs.Order.{reordered, source}
use Rattle.scrypt_kdf.proofs.order.reorder.Goals as goal

pub returns : goal.returns
unfolding reordered
returns c =
    let x : List ℕ = c.args.x.now in
    fill_by_all (λ k. slice_index x (source c.args.step k)) c.loop-k.x (length x) 0 (omega arith)
    (λ k lt. c.loop-k.invariant k (omega arith)
    ∙ ap (λ (t : List ℕ). get_or t (source c.args.step k) 0) c.copy_from_slice.ensures.after)
