use Rattle.std.proofs.Common.{◌≡◌, sym, ap, map, subst}
use Rattle.std.specs.Prelude.{OnOk}
use Rattle.outside.specs.Changes.{set_changes}
use Rattle.outside.specs.View.{list_of}
use Rattle.sealed_store.specs.Drafts.{AreDrafts, sealed_entry}
use Rattle.sealed_store.specs.Stores.{Sealed, block_size_of, key_of, cipher_of}
use Rattle.sealed_store.proofs.Told.{ready_told, ready_drafts, drafts_after, told_after}
use Rattle.sealed_store.proofs.sealed_store.SealedStore.put_drafts.Goals as goal

pub invariant_of-self : goal.invariant_of-self
invariant_of-self g c =
    let s = c.self.inside in
    let size : s.block_size ≡ block_size_of c.args.self.now = ap (λ (t : Sealed g.row.V.Denot g.row.C.Denot). t.block_size) c.self.view_is in (
      c.self.invariant.0,
      λ is. drafts_after c.put_waiting.result s.block_size (list_of c.args.drafts.items) s.vault c.put_waiting.new.vault c.put_waiting.ensures.ok c.put_waiting.ensures.err
          (subst (λ n. AreDrafts n (list_of c.args.drafts.items)) (sym size) c.requires.drafts)
          (ready_drafts s.block_size s.drafts s.vault.list (c.takes_drafts.ensures.yes c.if-takes_drafts.true) c.self.invariant.1),
    )

pub returns-then-takes_drafts-clause-ok : goal.returns-then-takes_drafts-clause-ok
returns-then-takes_drafts-clause-ok g c =
    let s = c.self.inside in
    let seal = g.C.Sealer.sealed s.cipher s.key in
    let changes = list_of c.args.drafts.items in
    subst (λ (t : Sealed g.row.V.Denot g.row.C.Denot). OnOk c.put_waiting.result (map (sealed_entry seal s.block_size) c.put_waiting.new.vault.list
    ≡ set_changes (map (sealed_entry (g.C.Sealer.sealed (cipher_of t) (key_of t)) (block_size_of t)) changes) t.vault.list)) c.self.view_is
    (told_after c.put_waiting.result seal s.block_size changes s.vault.list c.put_waiting.new.vault.list _ c.put_waiting.ensures.ok
    (ready_told seal s.block_size s.drafts s.vault.list (c.takes_drafts.ensures.yes c.if-takes_drafts.true)))
