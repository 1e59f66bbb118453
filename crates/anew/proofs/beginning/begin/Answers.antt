use Rattle.std.proofs.Common.{◌≡◌, true, List, [], ◌∷◌, refl, sym, ◌∙◌, ap}
use Rattle.std.specs.declared.option.Option.TheVariants.{Some}
use Rattle.outside.specs.Changes.{FileChanges, set_changes}
use Rattle.outside.specs.Trace.{config, put, adds}
use Rattle.outside.specs.Writes.{after_writes}
use Rattle.integrity_store.specs.block_versions.Views.{held_of}
use Rattle.integrity_store.specs.block_versions.local_state.Record.{PlainState}
use Rattle.anew.proofs.Kept.{begun_config}
use Rattle.anew.proofs.beginning.begin.Goals as goal

pub returns-in-Ok-write_out-clause-begun : goal.returns-in-Ok-write_out-clause-begun
returns-in-Ok-write_out-clause-begun g c =
    let V = g.V.Vault in
    let mid = c.put_config.new.self in
    let entry : FileChanges = (config, Some c.args.file.items) ∷ [] in
    let list : mid.vault.list ≡ entry = c.in-Ok.ensures.ok ∙ ap (set_changes entry) c.requires.none in
    let wrote = c.in-Ok-write_out.ensures.ok ∙ ap (λ (l : FileChanges). after_writes l (V.trace mid.vault.vault)) list in
    let is : V.trace c.write_out.new.self.vault.vault ≡ adds (V.trace c.args.sealed.now.vault.vault) (put config c.args.file.items true) =
    wrote ∙ ap (λ v. adds (V.trace v) (put config c.args.file.items true)) c.put_config.ensures.vault in
    begun_config (held_of g.C.Sealer.opens c.write_out.new.self c.empty_state.result) c.args.file.items (V.trace c.args.sealed.now.vault.vault) (V.trace c.write_out.new.self.vault.vault)
    c.in-Ok-write_out.ensures.all_left (ap (λ (s : PlainState). s.lives) c.empty_state.ensures) is
