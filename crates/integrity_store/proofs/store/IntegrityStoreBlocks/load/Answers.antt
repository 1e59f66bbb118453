use Rattle.std.proofs.Common.{◌≡◌, ◌-◌, ◌^◌, ap, arith, sym}
use Rattle.std.specs.declared.option.Option.TheVariants.{None, Some}
use Rattle.std.specs.declared.result.Result.TheVariants.{Ok, Err}
use Rattle.block_versions.specs.sealed_store.Stores.{IsIntact, block_size_of, cipher_of}
use Rattle.integrity_store.specs.declared.store.IntegrityStore.{IntegrityStore}
use Rattle.block_versions.specs.BlockRecords.{payload_in}
use Rattle.block_versions.specs.Held.{file_of, live_version, told_or_none, where_live}
use Rattle.block_versions.specs.StoreLaws.{lawful_by}
use Rattle.block_versions.specs.store_outcome.Outcome.{idle}
use Rattle.block_versions.specs.Loads.{Fetched}
use Rattle.block_versions.proofs.Fetches.{fetched_len, loads_none, loads_ok, loads_err}
use Rattle.block_versions.proofs.HeldBlocksFronts.{fetched_whole}
use Rattle.integrity_store.specs.Views.{held_by}
use Rattle.block_versions.proofs.Loading.{stays, loaded_ok, loaded_err}
use Rattle.integrity_store.proofs.store.IntegrityStoreBlocks.load.Given.{Over}
use Rattle.integrity_store.proofs.store.IntegrityStoreBlocks.load.Goals as goal

-- as many bytes are asked for as a payload can have
ok_whole : (g : Over) (c : goal.In-Ok g) → Fetched (held_by g.C.Sealer.opens c.args.self.now) (g.V.Vault.trace c.args.self.now.sealed.vault.vault) (g.V.Vault.trace c.fetch.new.self.sealed.vault.vault)
    c.args.id.now.0 c.in-Some.known (Ok c.in-Ok.payload.items)
ok_whole g c = fetched_whole _ _ _ c.args.id.now.0 c.in-Some.known (2 ^ 64 - 1) (Ok c.in-Ok.payload.items) (omega (arith, c.requires.0.most)) c.in-Ok.ensures.fetched

err_whole : (g : Over) (c : goal.In-Err g) → Fetched (held_by g.C.Sealer.opens c.args.self.now) (g.V.Vault.trace c.args.self.now.sealed.vault.vault) (g.V.Vault.trace c.fetch.new.self.sealed.vault.vault)
    c.args.id.now.0 c.in-Some.known (Err c.in-Err.fail)
err_whole g c = fetched_whole _ _ _ c.args.id.now.0 c.in-Some.known (2 ^ 64 - 1) (Err c.in-Err.fail) (omega (arith, c.requires.0.most)) c.in-Err.ensures.fetched

pub returns-in-None-clause-outcome : goal.returns-in-None-clause-outcome
returns-in-None-clause-outcome g c =
    let held = λ (s : IntegrityStore g.row.V.Denot g.row.C.Denot). held_by g.C.Sealer.opens s in
    let trace = λ (s : IntegrityStore g.row.V.Denot g.row.C.Denot). g.V.Vault.trace s.sealed.vault.vault in
    let faults = λ (s : IntegrityStore g.row.V.Denot g.row.C.Denot). g.V.Vault.faults s.sealed.vault.vault in
    let own = λ (s : IntegrityStore g.row.V.Denot g.row.C.Denot). IsIntact (block_size_of s.sealed) (g.C.Sealer.iv_size (cipher_of s.sealed)) in
    let a = c.args.self.now in
    let id = c.args.id.now.0 in
    idle (lawful_by held trace faults own) a None c.requires
    (λ n. ap (λ live. where_live live (payload_in (held a).opens (held a).size id (file_of (held a) (told_or_none (trace a)) id))) c.in-None.ensures)

pub returns-in-Ok-clause-outcome : goal.returns-in-Ok-clause-outcome
returns-in-Ok-clause-outcome g c =
    let held = λ (s : IntegrityStore g.row.V.Denot g.row.C.Denot). held_by g.C.Sealer.opens s in
    let trace = λ (s : IntegrityStore g.row.V.Denot g.row.C.Denot). g.V.Vault.trace s.sealed.vault.vault in
    let faults = λ (s : IntegrityStore g.row.V.Denot g.row.C.Denot). g.V.Vault.faults s.sealed.vault.vault in
    let own = λ (s : IntegrityStore g.row.V.Denot g.row.C.Denot). IsIntact (block_size_of s.sealed) (g.C.Sealer.iv_size (cipher_of s.sealed)) in
    let live : live_version (held c.args.self.now) c.args.id.now.0 ≡ Some c.in-Some.known = sym c.in-Some.ensures in
    loaded_ok held trace faults own c.args.self.now c.fetch.new.self c.args.id.now.0 c.in-Some.known c.in-Ok.payload c.in-Ok.ensures.intact c.in-Ok.ensures.held c.in-Ok.ensures.faults live c.in-Ok.ensures.quiet (ok_whole g c)

pub returns-in-Ok-clause-stays : goal.returns-in-Ok-clause-stays
returns-in-Ok-clause-stays g c =
    let held = λ (s : IntegrityStore g.row.V.Denot g.row.C.Denot). held_by g.C.Sealer.opens s in
    let trace = λ (s : IntegrityStore g.row.V.Denot g.row.C.Denot). g.V.Vault.trace s.sealed.vault.vault in
    let faults = λ (s : IntegrityStore g.row.V.Denot g.row.C.Denot). g.V.Vault.faults s.sealed.vault.vault in
    let own = λ (s : IntegrityStore g.row.V.Denot g.row.C.Denot). IsIntact (block_size_of s.sealed) (g.C.Sealer.iv_size (cipher_of s.sealed)) in
    let live : live_version (held c.args.self.now) c.args.id.now.0 ≡ Some c.in-Some.known = sym c.in-Some.ensures in
    stays held trace faults own c.args.self.now c.fetch.new.self c.args.id.now.0 c.in-Some.known (Ok c.in-Ok.payload.items) c.in-Ok.ensures.held c.in-Ok.ensures.faults live (ok_whole g c)

pub returns-in-Ok-clause-sized : goal.returns-in-Ok-clause-sized
returns-in-Ok-clause-sized g c =
    let held = λ (s : IntegrityStore g.row.V.Denot g.row.C.Denot). held_by g.C.Sealer.opens s in
    let trace = λ (s : IntegrityStore g.row.V.Denot g.row.C.Denot). g.V.Vault.trace s.sealed.vault.vault in
    let faults = λ (s : IntegrityStore g.row.V.Denot g.row.C.Denot). g.V.Vault.faults s.sealed.vault.vault in
    let own = λ (s : IntegrityStore g.row.V.Denot g.row.C.Denot). IsIntact (block_size_of s.sealed) (g.C.Sealer.iv_size (cipher_of s.sealed)) in
    let live : live_version (held c.args.self.now) c.args.id.now.0 ≡ Some c.in-Some.known = sym c.in-Some.ensures in
    fetched_len (held c.args.self.now) (trace c.args.self.now) (trace c.fetch.new.self) c.args.id.now.0 c.in-Some.known c.in-Ok.payload.items (ok_whole g c)

pub returns-in-Err-clause-outcome : goal.returns-in-Err-clause-outcome
returns-in-Err-clause-outcome g c =
    let held = λ (s : IntegrityStore g.row.V.Denot g.row.C.Denot). held_by g.C.Sealer.opens s in
    let trace = λ (s : IntegrityStore g.row.V.Denot g.row.C.Denot). g.V.Vault.trace s.sealed.vault.vault in
    let faults = λ (s : IntegrityStore g.row.V.Denot g.row.C.Denot). g.V.Vault.faults s.sealed.vault.vault in
    let own = λ (s : IntegrityStore g.row.V.Denot g.row.C.Denot). IsIntact (block_size_of s.sealed) (g.C.Sealer.iv_size (cipher_of s.sealed)) in
    let live : live_version (held c.args.self.now) c.args.id.now.0 ≡ Some c.in-Some.known = sym c.in-Some.ensures in
    loaded_err held trace faults own c.args.self.now c.fetch.new.self c.args.id.now.0 c.in-Some.known c.in-Err.fail c.in-Err.ensures.intact c.in-Err.ensures.held c.in-Err.ensures.faults live c.in-Err.ensures.cause c.in-Err.ensures.quiet (err_whole g c)

pub returns-in-None-clause-loads : goal.returns-in-None-clause-loads
returns-in-None-clause-loads g c =
    let held = λ (s : IntegrityStore g.row.V.Denot g.row.C.Denot). held_by g.C.Sealer.opens s in
    let trace = λ (s : IntegrityStore g.row.V.Denot g.row.C.Denot). g.V.Vault.trace s.sealed.vault.vault in
    loads_none (held c.args.self.now) (trace c.args.self.now) c.args.id.now.0 (sym c.in-None.ensures)

pub returns-in-Ok-clause-loads : goal.returns-in-Ok-clause-loads
returns-in-Ok-clause-loads g c =
    let held = λ (s : IntegrityStore g.row.V.Denot g.row.C.Denot). held_by g.C.Sealer.opens s in
    let trace = λ (s : IntegrityStore g.row.V.Denot g.row.C.Denot). g.V.Vault.trace s.sealed.vault.vault in
    loads_ok (held c.args.self.now) (held c.fetch.new.self) (trace c.args.self.now) (trace c.fetch.new.self) c.args.id.now.0 c.in-Some.known c.in-Ok.payload.items c.in-Ok.ensures.held (sym c.in-Some.ensures) (ok_whole g c)

pub returns-in-Err-clause-loads : goal.returns-in-Err-clause-loads
returns-in-Err-clause-loads g c =
    let held = λ (s : IntegrityStore g.row.V.Denot g.row.C.Denot). held_by g.C.Sealer.opens s in
    let trace = λ (s : IntegrityStore g.row.V.Denot g.row.C.Denot). g.V.Vault.trace s.sealed.vault.vault in
    loads_err (held c.args.self.now) (held c.fetch.new.self) (trace c.args.self.now) (trace c.fetch.new.self) c.args.id.now.0 c.in-Some.known c.in-Err.fail c.in-Err.ensures.held (sym c.in-Some.ensures) (err_whole g c)
