use Rattle.std.proofs.Common.{◌∙◌, ap, arith, List, ℕ, ◌++◌}
use Rattle.sealed_store.specs.Stores.{block_size_of, key_of, cipher_of}
use Rattle.sealed_store.proofs.Files.{sealing_of, draft_of}
use Rattle.sealed_store.proofs.sealed_store.SealedStore.draft.Goals as goal

pub returns : goal.returns
returns g c =
    let cipher = cipher_of c.args.self.now in
    let key = key_of c.args.self.now in
    let right = sealing_of g.C.Sealer.iv_size g.C.Sealer.opens g.C.Sealer.sealed g.met.C.Sealer.seals cipher key c.requires.intact.iv in
    let is = c.in_ok-extend_from_slice.ensures.items ∙ ap (λ (l : List ℕ). l ++ c.args.iv.now) c.in_ok-reserve_exact.ensures.items in
    draft_of (g.C.Sealer.opens cipher key) (g.C.Sealer.sealed cipher key) (block_size_of c.args.self.now) c.args.front.items c.args.iv.now c.extend_from_slice.new.self.items right
    (omega (arith, c.requires.front, c.args.front.ok.0)) (c.requires.iv ∙ c.requires.intact.iv) is
