use Rattle.std.proofs.Common.{◌∙◌, ap, subst}
use Rattle.config_file.specs.ConfigOf.{IsOnly, opened}
use Rattle.config_file.specs.Settings.{Settings, settings_of}
use Rattle.mount_stores.specs.declared.draws.Draws.{Draws}
use Rattle.config_file.specs.Sealing.{sealed_file}
use Rattle.mount_stores.specs.Making.{IsNewStore, new_settings}
use Rattle.mount_stores.proofs.making.new_store.Goals as goal

pub returns-in-Ok-clause-is_new : goal.returns-in-Ok-clause-is_new
returns-in-Ok-clause-is_new g c =
    let V = g.V.Vault in
    subst (λ (d : Draws). IsNewStore (V.trace c.args.vault) (V.faults c.args.vault) V.trace V.faults (settings_of c.config_from-config.result) d.key_salt c.empty_store-store.result) c.draw-draws.ensures.draws c.empty_store-store.ensures

pub returns-in-Ok-clause-settings : goal.returns-in-Ok-clause-settings
returns-in-Ok-clause-settings g c = c.config_from-config.ensures.settings ∙ ap (λ d. new_settings c.args.block_size d) c.draw-draws.ensures.draws

pub returns-in-Ok-clause-file : goal.returns-in-Ok-clause-file
returns-in-Ok-clause-file g c =
    let sealed = λ (d : Draws) (s : Settings). sealed_file c.args.password.now c.args.params.now d.seal s in
    c.in-Ok.ensures.text ∙ (ap (sealed c.draw-draws.result) c.config_from-config.ensures.settings ∙ ap (λ (d : Draws). sealed d (new_settings c.args.block_size d)) c.draw-draws.ensures.draws)

pub returns-in-Ok-clause-opens : goal.returns-in-Ok-clause-opens
returns-in-Ok-clause-opens g c =
    subst (λ s. IsOnly c.args.password.now c.in-Ok.file.items (opened s c.args.params.now)) (returns-in-Ok-clause-settings g c) c.in-Ok.ensures.opens

pub returns-in-Ok-clause-stream : goal.returns-in-Ok-clause-stream
returns-in-Ok-clause-stream g c = c.draw-draws.ensures.stream

pub returns-in-Err-clause-stream : goal.returns-in-Err-clause-stream
returns-in-Err-clause-stream g c = c.draw-draws.ensures.stream
