use Rattle.std.proofs.Common.{◌≡◌, ap, sym}
use Rattle.std.specs.declared.option.Option.TheVariants.{None, Some}
use Rattle.std.specs.declared.result.Result.TheVariants.{Ok, Err}
use Rattle.block_versions.specs.sealed_store.Stores.{IsIntact, block_size_of, cipher_of}
use Rattle.integrity_store.specs.declared.store.IntegrityStore.{IntegrityStore}
use Rattle.block_versions.specs.BlockRecords.{payload_in}
use Rattle.block_versions.specs.Held.{file_of, live_version, told_or_none, where_live}
use Rattle.block_versions.specs.StoreLaws.{lawful_by}
use Rattle.block_versions.specs.store_outcome.Outcome.{idle}
use Rattle.store_api.specs.Fronts.{front_of}
use Rattle.block_versions.proofs.Fetches.{fetched_of_blocks}
use Rattle.block_versions.proofs.HeldBlocksFronts.{front_err, front_failed, front_len, front_ok, front_stays}
use Rattle.integrity_store.specs.Views.{held_by}
use Rattle.integrity_store.proofs.store.IntegrityStoreBlocks.load_front.Goals as goal

pub returns-in-None-clause-outcome : goal.returns-in-None-clause-outcome
returns-in-None-clause-outcome g c =
    let held = λ (s : IntegrityStore g.row.V.Denot g.row.C.Denot). held_by g.C.Sealer.opens s in
    let trace = λ (s : IntegrityStore g.row.V.Denot g.row.C.Denot). g.V.Vault.trace s.sealed.vault.vault in
    let faults = λ (s : IntegrityStore g.row.V.Denot g.row.C.Denot). g.V.Vault.faults s.sealed.vault.vault in
    let own = λ (s : IntegrityStore g.row.V.Denot g.row.C.Denot). IsIntact (block_size_of s.sealed) (g.C.Sealer.iv_size (cipher_of s.sealed)) in
    let a = c.args.self.now in
    let id = c.args.id.now.0 in
    idle (lawful_by held trace faults own) a None c.requires
    (λ n. ap (λ live. front_of c.args.most (where_live live (payload_in (held a).opens (held a).size id (file_of (held a) (told_or_none (trace a)) id)))) c.in-None.ensures)

pub returns-in-Ok-clause-outcome : goal.returns-in-Ok-clause-outcome
returns-in-Ok-clause-outcome g c =
    let held = λ (s : IntegrityStore g.row.V.Denot g.row.C.Denot). held_by g.C.Sealer.opens s in
    let trace = λ (s : IntegrityStore g.row.V.Denot g.row.C.Denot). g.V.Vault.trace s.sealed.vault.vault in
    let faults = λ (s : IntegrityStore g.row.V.Denot g.row.C.Denot). g.V.Vault.faults s.sealed.vault.vault in
    let own = λ (s : IntegrityStore g.row.V.Denot g.row.C.Denot). IsIntact (block_size_of s.sealed) (g.C.Sealer.iv_size (cipher_of s.sealed)) in
    let live : live_version (held c.args.self.now) c.args.id.now.0 ≡ Some c.in-Some.known = sym c.in-Some.ensures in
    front_ok held trace faults own c.args.self.now c.fetch.new.self c.args.id.now.0 c.in-Some.known c.args.most c.in-Ok.front c.in-Ok.ensures.intact c.in-Ok.ensures.held c.in-Ok.ensures.faults live c.in-Ok.ensures.quiet c.in-Ok.ensures.fetched

pub returns-in-Ok-clause-stays : goal.returns-in-Ok-clause-stays
returns-in-Ok-clause-stays g c =
    let held = λ (s : IntegrityStore g.row.V.Denot g.row.C.Denot). held_by g.C.Sealer.opens s in
    let trace = λ (s : IntegrityStore g.row.V.Denot g.row.C.Denot). g.V.Vault.trace s.sealed.vault.vault in
    let faults = λ (s : IntegrityStore g.row.V.Denot g.row.C.Denot). g.V.Vault.faults s.sealed.vault.vault in
    let own = λ (s : IntegrityStore g.row.V.Denot g.row.C.Denot). IsIntact (block_size_of s.sealed) (g.C.Sealer.iv_size (cipher_of s.sealed)) in
    let live : live_version (held c.args.self.now) c.args.id.now.0 ≡ Some c.in-Some.known = sym c.in-Some.ensures in
    front_stays held trace faults own c.args.self.now c.fetch.new.self c.args.id.now.0 c.in-Some.known c.args.most (Ok c.in-Ok.front.items) c.in-Ok.ensures.held c.in-Ok.ensures.faults live c.in-Ok.ensures.fetched

pub returns-in-Ok-clause-sized : goal.returns-in-Ok-clause-sized
returns-in-Ok-clause-sized g c =
    front_len (held_by g.C.Sealer.opens c.args.self.now) (g.V.Vault.trace c.args.self.now.sealed.vault.vault) (g.V.Vault.trace c.fetch.new.self.sealed.vault.vault) c.args.id.now.0 c.in-Some.known c.args.most c.in-Ok.front.items c.in-Ok.ensures.fetched

pub returns-in-Err-clause-outcome : goal.returns-in-Err-clause-outcome
returns-in-Err-clause-outcome g c =
    let held = λ (s : IntegrityStore g.row.V.Denot g.row.C.Denot). held_by g.C.Sealer.opens s in
    let trace = λ (s : IntegrityStore g.row.V.Denot g.row.C.Denot). g.V.Vault.trace s.sealed.vault.vault in
    let faults = λ (s : IntegrityStore g.row.V.Denot g.row.C.Denot). g.V.Vault.faults s.sealed.vault.vault in
    let own = λ (s : IntegrityStore g.row.V.Denot g.row.C.Denot). IsIntact (block_size_of s.sealed) (g.C.Sealer.iv_size (cipher_of s.sealed)) in
    let live : live_version (held c.args.self.now) c.args.id.now.0 ≡ Some c.in-Some.known = sym c.in-Some.ensures in
    front_err held trace faults own c.args.self.now c.fetch.new.self c.args.id.now.0 c.in-Some.known c.args.most c.in-Err.fail c.in-Err.ensures.intact c.in-Err.ensures.held c.in-Err.ensures.faults live c.in-Err.ensures.cause c.in-Err.ensures.quiet c.in-Err.ensures.fetched

pub returns-in-Err-clause-stays : goal.returns-in-Err-clause-stays
returns-in-Err-clause-stays g c =
    let held = λ (s : IntegrityStore g.row.V.Denot g.row.C.Denot). held_by g.C.Sealer.opens s in
    let trace = λ (s : IntegrityStore g.row.V.Denot g.row.C.Denot). g.V.Vault.trace s.sealed.vault.vault in
    let faults = λ (s : IntegrityStore g.row.V.Denot g.row.C.Denot). g.V.Vault.faults s.sealed.vault.vault in
    let own = λ (s : IntegrityStore g.row.V.Denot g.row.C.Denot). IsIntact (block_size_of s.sealed) (g.C.Sealer.iv_size (cipher_of s.sealed)) in
    let live : live_version (held c.args.self.now) c.args.id.now.0 ≡ Some c.in-Some.known = sym c.in-Some.ensures in
    front_stays held trace faults own c.args.self.now c.fetch.new.self c.args.id.now.0 c.in-Some.known c.args.most (Err c.in-Err.fail) c.in-Err.ensures.held c.in-Err.ensures.faults live c.in-Err.ensures.fetched

pub returns-in-Err-clause-of_blocks : goal.returns-in-Err-clause-of_blocks
returns-in-Err-clause-of_blocks g c =
    let h = held_by g.C.Sealer.opens c.args.self.now in
    let old = g.V.Vault.trace c.args.self.now.sealed.vault.vault in
    let new = g.V.Vault.trace c.fetch.new.self.sealed.vault.vault in
    fetched_of_blocks h old new c.args.id.now.0 c.in-Some.known c.in-Err.fail (front_failed h old new c.args.id.now.0 c.in-Some.known c.args.most c.in-Err.fail c.in-Err.ensures.fetched)
