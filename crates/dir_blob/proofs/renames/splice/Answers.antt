-- A body with other bytes between two places, by one write or by a write and a cut.
use Rattle.std.proofs.Common.{◌≡◌, ◌≤◌, ◌+◌, ◌++◌, length, take, drop, sym, ◌∙◌, ap, subst, arith}
use Rattle.std.specs.FinMap.{insert}
use Rattle.std.proofs.lemmas.Result.{err_from_is_err_and}
use Rattle.fs_blobs.specs.store_outcome.Outcome.{first_, then_, passed}
use Rattle.block_id.specs.Contents.{resized, written}
use Rattle.fs_model.specs.declared.attr.Kind.TheVariants.{Directory}
use Rattle.fs_blobs.specs.Headers.{blob}
use Rattle.dir_entries.specs.Layout.{body_of}
use Rattle.dir_blob.proofs.Needs.{blob_of, blob_written, cut_stands, slice_rest}
use Rattle.dir_blob.proofs.Splices.{spliced_inside, spliced_over, spliced_cut}
use Rattle.dir_blob.proofs.renames.splice.Goals as goal

pub returns-then-len-back : goal.returns-then-len-back
returns-then-len-back g c =
    let body = c.args.body.now in
    let edit = c.args.edit in
    let inside = spliced_inside body edit.front (omega (arith, c.requires.order, c.requires.within)) edit.back edit.bytes.items c.requires.order c.requires.within (omega (arith, c.if-len-back.true)) in
    first_ (λ n. blob_of n.is) c.write_body.ensures.outcome
    (λ n y h.
    subst (λ z. g.B.Blobs.holdings.stands_for c.write_body.new.b (insert n.is.map c.args.dir.now.0 (blob Directory n.is.parent z)))
    (ap (λ z. written z edit.front c.deref.result.now) (sym n.text) ∙ (ap (written body edit.front) c.deref.ensures.value ∙ inside)) h)

pub returns-in_err-write_body : goal.returns-in_err-write_body
returns-in_err-write_body g c =
    let p = err_from_is_err_and c.from_residual-in_err-write_body.result c.from_residual-in_err-write_body.ensures.1 in
    rw (p.1, p.2) (passed (first_ {R = λ _ _. Unit {0}} (λ n. blob_of n.is) c.in_err-write_body.ensures.outcome (λ _ _ _. tt)))

pub returns-then-end-body : goal.returns-then-end-body
returns-then-end-body g c =
    let body = c.args.body.now in
    let edit = c.args.edit in
    let rest : c.extend_from_slice.new.self.items ≡ edit.bytes.items ++ drop edit.back body =
    c.in_ok-extend_from_slice.ensures.items ∙ ap (λ z. edit.bytes.items ++ z) (slice_rest body edit.back) in
    let over = spliced_over body edit.front (omega (arith, c.requires.order, c.requires.within)) (edit.bytes.items ++ drop edit.back body) (omega (arith, ap length rest, c.if-end-body.true)) in
    first_ (λ n. blob_of n.is) c.in_ok-write_body.ensures.outcome
    (λ n y h.
    subst (λ z. g.B.Blobs.holdings.stands_for c.write_body-2.new.b (insert n.is.map c.args.dir.now.0 (blob Directory n.is.parent z)))
    (ap (λ z. written z edit.front c.deref-2.result.now) (sym n.text) ∙ (ap (written body edit.front) (c.deref-2.ensures.value ∙ rest) ∙ over)) h)

pub returns : goal.returns
returns g c =
    let body = c.args.body.now in
    let edit = c.args.edit in
    let wrote = c.deref-2.result.now in
    let end_ = edit.front + c.len-3.result in
    let rest : c.extend_from_slice.new.self.items ≡ edit.bytes.items ++ drop edit.back body =
    c.in_ok-extend_from_slice.ensures.items ∙ ap (λ z. edit.bytes.items ++ z) (slice_rest body edit.back) in
    let short : edit.front + length wrote ≤ length body = omega (arith, ap length c.deref-2.ensures.value, c.if-end-body.false) in
    let cut : resized (written body edit.front wrote) end_ ≡ take edit.front body ++ (edit.bytes.items ++ drop edit.back body) =
    ap (λ z. resized (written body edit.front z) end_) (c.deref-2.ensures.value ∙ rest)
    ∙ (ap (λ k. resized (written body edit.front (edit.bytes.items ++ drop edit.back body)) (edit.front + k)) (c.len-3.ensures ∙ (sym c.deref-2.ensures.len ∙ ap length (c.deref-2.ensures.value ∙ rest)))
    ∙ spliced_cut body edit.front (omega (arith, c.requires.order, c.requires.within)) (edit.bytes.items ++ drop edit.back body) (omega (arith, ap length rest, c.if-end-body.false))) in
    then_ g.met.B.Blobs.lawful (first_ (λ n. blob_of n.is) c.in_ok-write_body.ensures.outcome (λ n y h. h))
    (λ n h. blob_written n.is edit.front wrote (omega (arith, short, ap length n.text)) h)
    c.resize_body.ensures
    (λ n h y k.
    cut_stands g.B.Blobs.holdings c.resize_body.new.b n.is.map c.args.dir.now.0 n.is.parent (body_of n.is.listing) edit.front wrote end_ _ (ap (λ z. resized (written z edit.front wrote) end_) (sym n.text) ∙ cut) k)
