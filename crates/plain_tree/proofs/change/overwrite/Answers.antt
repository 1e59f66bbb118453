use Rattle.std.proofs.Common.{◌≡◌, ◌+◌, ◌-◌, ◌++◌, length, take, drop, sym, ◌∙◌, ap, arith}
use Rattle.std.specs.Prelude.{replicate, vec_len}
use Rattle.block_id.specs.Contents.{overwritten}
use Rattle.block_id.proofs.Contents.{overwritten_within}
use Rattle.plain_tree.proofs.ContentLemmas.{put_past, written_back}
use Rattle.plain_tree.proofs.change.overwrite.Goals as goal
use Rattle.plain_tree.proofs.change.overwrite.Goals.{then-end-len+in_ok-resize, else-end-len}

pub returns-clause-ok : goal.returns-clause-ok
returns-clause-ok c =
    let old = c.args.content.now.items in
    let bytes = c.args.bytes.now in
    let from = c.args.from in
    let whole = c.deref_mut.result.now in
    let len_is : vec_len c.args.content.now ≡ length old = omega (arith, c.args.content.now.ok) in
    let same : length c.put_at.new.content ≡ length whole = c.put_at.auto.content in
    let put : take from whole ++ bytes ++ drop (from + length bytes) whole ≡ overwritten old from bytes = elim c.if-end-len.branch [
      | then-end-len+in_ok-resize w ↦ let filled = c.deref_mut.ensures.value ∙ (ap (λ v. v.items) w.content-is ∙ (w.in_ok-resize.ensures.items ∙ ap (λ k. take (from + length bytes) old ++ replicate ((from + length bytes) - k) 0) len_is)) in
          put_past old bytes from whole (let long = w.if-end-len.true in let len = c.len.ensures in omega arith) filled
      | else-end-len w ↦ let kept = c.deref_mut.ensures.value ∙ ap (λ v. v.items) w.content-is in
          ap (λ z. take from z ++ bytes ++ drop (from + length bytes) z) kept ∙ sym (overwritten_within old from bytes (let short = w.if-end-len.false in let len = c.len.ensures in omega arith))
    ] in
    written_back _ c.put_at.new.content whole c.if-end-len.content.items c.deref_mut.ensures.value c.deref_mut.ensures.len same ∙ (c.put_at.ensures ∙ put)
