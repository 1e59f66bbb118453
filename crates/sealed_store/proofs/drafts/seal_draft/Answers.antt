use Rattle.std.proofs.Common.{◌≡◌, ℕ, List, length, drop, ◌∙◌, arith}
use Rattle.std.proofs.lemmas.List.{take_at}
use Rattle.sealed_store.proofs.Sealing.{draft_sealed}
use Rattle.sealed_store.proofs.drafts.seal_draft.Goals as goal

pub returns : goal.returns
returns g c =
    let up : List ℕ = c.fill_up-iv.new.draft.items in
    let file : List ℕ = c.seal_at.new.file in
    let kept : length file ≡ c.fill_up-iv.new.draft.len = omega (arith, c.seal_at.auto.file, c.deref_mut.ensures.len, c.fill_up-iv.new.draft.ok.0) in
    take_at file (drop (length file) up) c.fill_up-iv.new.draft.len kept
    ∙ draft_sealed (g.C.Sealer.sealed c.args.cipher.now c.args.key.now) c.args.block_size c.args.id.now.0 c.args.draft.now.items _ c.deref_mut.result.now file c.requires.draft c.fill_up-iv.ensures.iv
    (c.deref_mut.ensures.value ∙ c.fill_up-iv.ensures.filled) c.seal_at.ensures
