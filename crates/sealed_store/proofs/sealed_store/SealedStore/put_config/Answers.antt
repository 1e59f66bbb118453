use Rattle.std.proofs.Common.{ap}
use Rattle.std.specs.declared.option.Option.TheVariants.{Some}
use Rattle.outside.specs.View.{list_of}
use Rattle.sealed_store.specs.Stores.{Sealed}
use Rattle.sealed_store.proofs.Told.{config_after, config_drafts, drafts_after}
use Rattle.sealed_store.proofs.sealed_store.SealedStore.put_config.Goals as goal

pub invariant_of-self : goal.invariant_of-self
invariant_of-self g c =
    let s = c.self.inside in (
      c.self.invariant.0,
      λ is. drafts_after c.put_waiting.result s.block_size (list_of c.in_ok-changes.changes.items) s.vault c.put_waiting.new.vault c.put_waiting.ensures.ok c.put_waiting.ensures.err
          (config_drafts s.block_size (list_of c.in_ok-changes.changes.items) (Some c.args.bytes.items) c.in_ok-changes.ensures) (c.self.invariant.1 is),
    )

pub returns-clause-ok : goal.returns-clause-ok
returns-clause-ok g c =
    let s = c.self.inside in
    config_after c.put_waiting.result (g.C.Sealer.sealed s.cipher s.key) s.block_size s.drafts (list_of c.in_ok-changes.changes.items) s.vault.list c.put_waiting.new.vault.list c.args.self.now.vault.list
    (Some c.args.bytes.items) c.put_waiting.ensures.ok c.in_ok-changes.ensures (ap (λ (t : Sealed g.row.V.Denot g.row.C.Denot). t.vault.list) c.self.view_is)
