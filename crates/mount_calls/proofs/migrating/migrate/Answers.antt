use Rattle.std.proofs.Common.{◌≤◌, ◌<◌, ◌∙◌, refl, sym, ap, subst, arith}
use Rattle.mount.specs.config_file.declared.config.Cipher.{Cipher}
use Rattle.mount_opening.specs.data_nodes.Layout.{ids_of}
use Rattle.mount.specs.integrity_store.declared.store.IntegrityStore.{IntegrityStore}
use Rattle.mount_opening.specs.local_state.Known.{live_ids}
use Rattle.mount_opening.specs.local_state.declared.state.State.{State}
use Rattle.mount.specs.declared.mount.Mount.{Mount}
use Rattle.mount_opening.specs.store_api.Durables.{Identity}
use Rattle.mount.proofs.Living.{has_payload, ids_live}
use Rattle.mount_calls.specs.Migrating.{least_in}
use Rattle.mount_calls.proofs.Migrated.{is_one, is_two, listed_once, migrates_all, migrates_failed, migrates_none, migrates_unlisted}
use Rattle.mount_calls.proofs.Resealing.{seals_anew, seals_unmoved}
use Rattle.mount_calls.proofs.migrating.migrate.Goals as goal

pub returns-then-state-ge2-clause-migrates : goal.returns-then-state-ge2-clause-migrates
returns-then-state-ge2-clause-migrates g c =
    let mount = c.args.mount.now in
    let r = c.requires.ready in
    let least = r.core.intact.0.0.has_record.state.least in
    let is = c.state-state.ensures ∙ ap (λ (s : IntegrityStore g.row.V.Denot Cipher). s.state) c.store.ensures in
    let two = is_two (least_in mount) least (subst (λ (s : State). 2 ≤ s.least) is c.if-state-ge2.true) in
    migrates_none g.V.Vault.trace g.V.Vault.faults g.K.Keeper mount r c.requires.fresh two

pub migrate_ids-requires-clause-live : goal.migrate_ids-requires-clause-live
migrate_ids-requires-clause-live g c =
    let mount = c.args.mount.now in
    let is = c.state-state.ensures ∙ ap (λ (s : IntegrityStore g.row.V.Denot Cipher). s.state) c.store.ensures in
    let all = ap ids_of c.deref.ensures.value ∙ (c.in-Ok.ensures ∙ ap (λ (s : State). live_ids s.known.lives) is) in
    λ id. ids_live mount.core.blobs.tx.store.store.state.known.lives c.deref.result.now all id ∙ sym (has_payload _ _)

pub migrate_ids-requires-clause-once : goal.migrate_ids-requires-clause-once
migrate_ids-requires-clause-once g c =
    let mount = c.args.mount.now in
    let is = c.state-state.ensures ∙ ap (λ (s : IntegrityStore g.row.V.Denot Cipher). s.state) c.store.ensures in
    let all = ap ids_of c.deref.ensures.value ∙ (c.in-Ok.ensures ∙ ap (λ (s : State). live_ids s.known.lives) is) in
    listed_once mount.core.blobs.tx.store.store.state.known.lives c.deref.result.now all

pub returns-in-Err-clause-migrates : goal.returns-in-Err-clause-migrates
returns-in-Err-clause-migrates g c =
    let mount = c.args.mount.now in
    let r = c.requires.ready in
    let least = r.core.intact.0.0.has_record.state.least in
    let is = c.state-state.ensures ∙ ap (λ (s : IntegrityStore g.row.V.Denot Cipher). s.state) c.store.ensures in
    let few : least_in mount ≤ 1 = let small = subst (λ (s : State). s.least < 2) is c.if-state-ge2.false in omega (arith, small) in
    migrates_unlisted g.V.Vault.trace g.V.Vault.faults g.K.Keeper mount c.requires.fresh (is_one (least_in mount) least few)

pub returns-in-Ok-migrate_ids-clause-migrates : goal.returns-in-Ok-migrate_ids-clause-migrates
returns-in-Ok-migrate_ids-clause-migrates g c =
    let mount = c.args.mount.now in
    let r = c.requires.ready in
    let least = r.core.intact.0.0.has_record.state.least in
    let is = c.state-state.ensures ∙ ap (λ (s : IntegrityStore g.row.V.Denot Cipher). s.state) c.store.ensures in
    let few : least_in mount ≤ 1 = let small = subst (λ (s : State). s.least < 2) is c.if-state-ge2.false in omega (arith, small) in
    let all = ap ids_of c.deref.ensures.value ∙ (c.in-Ok.ensures ∙ ap (λ (s : State). live_ids s.known.lives) is) in
    let new : Mount g.row.V.Denot g.row.K.Denot = record mount { core = c.migrate_ids.new.core } in
    migrates_all g.V.Vault.trace g.V.Vault.faults g.K.Keeper mount new c.deref.result.now refl all (is_one (least_in mount) least few) c.len.result (c.len.ensures ∙ sym c.deref.ensures.len) (ap (λ (i : Identity). i.marked) r.identity) c.in-Ok-migrate_ids.ensures.migrates c.in-Ok-migrate_ids.ensures.noticed

pub returns-in-Ok-migrate_ids-clause-ready : goal.returns-in-Ok-migrate_ids-clause-ready
returns-in-Ok-migrate_ids-clause-ready g c =
    let r = c.requires.ready in
    let m = c.in-Ok-migrate_ids.ensures.migrates in
    record { core = c.in-Ok-migrate_ids.ensures.ready; holder = r.holder; identity = m.identity ∙ r.identity; root = m.root ∙ r.root }

pub returns-clause-migrates : goal.returns-clause-migrates
returns-clause-migrates g c =
    let mount = c.args.mount.now in
    let r = c.requires.ready in
    let least = r.core.intact.0.0.has_record.state.least in
    let is = c.state-state.ensures ∙ ap (λ (s : IntegrityStore g.row.V.Denot Cipher). s.state) c.store.ensures in
    let few : least_in mount ≤ 1 = let small = subst (λ (s : State). s.least < 2) is c.if-state-ge2.false in omega (arith, small) in
    let all = ap ids_of c.deref.ensures.value ∙ (c.in-Ok.ensures ∙ ap (λ (s : State). live_ids s.known.lives) is) in
    let new : Mount g.row.V.Denot g.row.K.Denot = record mount { core = c.migrate_ids.new.core } in
    migrates_failed g.V.Vault.trace g.V.Vault.faults g.K.Keeper mount new c.deref.result.now refl all (is_one (least_in mount) least few) c.in-Err-migrate_ids.error c.in-Err-migrate_ids.ensures.migrates c.in-Err-migrate_ids.ensures.noticed

pub returns-clause-ready : goal.returns-clause-ready
returns-clause-ready g c =
    let r = c.requires.ready in
    let m = c.in-Err-migrate_ids.ensures.migrates in
    record { core = c.in-Err-migrate_ids.ensures.ready; holder = r.holder; identity = m.identity ∙ r.identity; root = m.root ∙ r.root }

-- ---- what is sealed

pub returns-then-state-ge2-clause-draws : goal.returns-then-state-ge2-clause-draws
returns-then-state-ge2-clause-draws g c = seals_unmoved g.V.Vault.trace g.V.Vault.faults g.K.Keeper c.args.mount.now _ (g.R.Rng.stream c.args.chance.now)

pub returns-in-Err-clause-draws : goal.returns-in-Err-clause-draws
returns-in-Err-clause-draws g c = seals_unmoved g.V.Vault.trace g.V.Vault.faults g.K.Keeper c.args.mount.now _ (g.R.Rng.stream c.args.chance.now)

pub returns-in-Ok-migrate_ids-clause-draws : goal.returns-in-Ok-migrate_ids-clause-draws
returns-in-Ok-migrate_ids-clause-draws g c =
    let mount = c.args.mount.now in
    let new : Mount g.row.V.Denot g.row.K.Denot = record mount { core = c.migrate_ids.new.core } in
    seals_anew g.V.Vault.trace g.V.Vault.faults g.K.Keeper mount new _ _ _ c.requires.ready.core.intact c.in-Ok-migrate_ids.ensures.draws

pub returns-clause-draws : goal.returns-clause-draws
returns-clause-draws g c =
    let mount = c.args.mount.now in
    let new : Mount g.row.V.Denot g.row.K.Denot = record mount { core = c.migrate_ids.new.core } in
    seals_anew g.V.Vault.trace g.V.Vault.faults g.K.Keeper mount new _ _ _ c.requires.ready.core.intact c.in-Err-migrate_ids.ensures.draws
