use Rattle.std.proofs.Common.{◌∙◌, ap}
use Rattle.redo_vault.specs.Redo.{buffered_len}
use Rattle.sealed_store.proofs.Files.{sealing_of, sized_of}
use Rattle.sealed_store.proofs.Told.{buffered_told, told_plain, told_sealed}
use Rattle.sealed_store.proofs.sealed_store.SealedStore.buffered.Goals as goal

pub returns-then-self : goal.returns-then-self
returns-then-self g c =
    let s = c.self.inside in
    let right = sealing_of g.C.Sealer.iv_size g.C.Sealer.opens g.C.Sealer.sealed g.met.C.Sealer.seals s.cipher s.key c.self.invariant.0.iv in
    let seal = g.C.Sealer.sealed s.cipher s.key in
    c.sealed_sum.ensures ∙ buffered_told seal s.block_size (sized_of (g.C.Sealer.opens s.cipher s.key) seal s.block_size right) s.vault.list (c.self.invariant.1 c.if-self.true)
    ∙ ap buffered_len (told_sealed seal s.block_size s.drafts s.vault.list c.if-self.true) ∙ ap (λ t. buffered_len t.vault.list) c.self.view_is

pub returns : goal.returns
returns g c =
    let s = c.self.inside in
    let seal = g.C.Sealer.sealed s.cipher s.key in
    c.buffered.ensures ∙ ap buffered_len (told_plain seal s.block_size s.drafts s.vault.list c.if-self.false) ∙ ap (λ t. buffered_len t.vault.list) c.self.view_is
