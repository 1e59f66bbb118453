use Rattle.std.proofs.Common.{◌≡◌, ◌-◌, ◌^◌, subst, ap, arith, sym}
use Rattle.std.specs.declared.option.Option.TheVariants.{None, Some}
use Rattle.std.specs.declared.result.Result.TheVariants.{Ok, Err}
use Rattle.block_versions.specs.store_outcome.Outcome.{idle}
use Rattle.found_blocks.specs.declared.store.FoundStore.{FoundStore}
use Rattle.found_blocks.specs.Finding.{IsKept, payload_of, where_found}
use Rattle.found_blocks.specs.Reads.{Fetched}
use Rattle.found_blocks.specs.Rows.{author_in, author_of}
use Rattle.found_blocks.specs.StoreLaws.{lawful_by, settled_by}
use Rattle.found_blocks.specs.Views.{IsIdle, finding_by}
use Rattle.found_blocks.proofs.Fetches.{fetched_len, found_of_blocks, loads_err, loads_none, loads_ok}
use Rattle.found_blocks.proofs.Loading.{fetched_whole, is_found, loaded_err, loaded_ok}
use Rattle.found_blocks.proofs.store.FoundStoreBlocks.load.Given.{Over}
use Rattle.found_blocks.proofs.store.FoundStoreBlocks.load.Goals as goal

-- as many bytes are asked for as a payload can have
ok_whole : (g : Over) (c : goal.In-Ok g) → Fetched (finding_by g.C.Sealer.opens c.args.self.now) (g.V.Vault.trace c.args.self.now.sealed.vault.vault) (g.V.Vault.trace c.fetch.new.store.sealed.vault.vault)
    c.args.id.now.0 (author_of c.in-Some.row) (Ok c.in-Ok.payload.items)
ok_whole g c = fetched_whole _ _ _ c.args.id.now.0 (author_of c.in-Some.row) (2 ^ 64 - 1) (Ok c.in-Ok.payload.items) (omega (arith, c.requires.0.most)) c.in-Ok.ensures.fetched

err_whole : (g : Over) (c : goal.In-Err g) → Fetched (finding_by g.C.Sealer.opens c.args.self.now) (g.V.Vault.trace c.args.self.now.sealed.vault.vault) (g.V.Vault.trace c.fetch.new.store.sealed.vault.vault)
    c.args.id.now.0 (author_of c.in-Some.row) (Err c.in-Err.fail)
err_whole g c = fetched_whole _ _ _ c.args.id.now.0 (author_of c.in-Some.row) (2 ^ 64 - 1) (Err c.in-Err.fail) (omega (arith, c.requires.0.most)) c.in-Err.ensures.fetched

pub returns-in-None-clause-outcome : goal.returns-in-None-clause-outcome
returns-in-None-clause-outcome g c =
    let found = λ (s : FoundStore g.row.V.Denot g.row.C.Denot). finding_by g.C.Sealer.opens s in
    let trace = λ (s : FoundStore g.row.V.Denot g.row.C.Denot). g.V.Vault.trace s.sealed.vault.vault in
    let faults = λ (s : FoundStore g.row.V.Denot g.row.C.Denot). g.V.Vault.faults s.sealed.vault.vault in
    let own = λ (s : FoundStore g.row.V.Denot g.row.C.Denot). IsIdle s.sealed (g.C.Sealer.iv_size s.sealed.cipher) in
    idle (lawful_by found trace faults own) c.args.self.now None c.requires (λ n. ap (λ a. where_found a (payload_of (found c.args.self.now) c.args.id.now.0)) c.in-None.ensures)

pub returns-in-Ok-clause-outcome : goal.returns-in-Ok-clause-outcome
returns-in-Ok-clause-outcome g c =
    let found = λ (s : FoundStore g.row.V.Denot g.row.C.Denot). finding_by g.C.Sealer.opens s in
    let trace = λ (s : FoundStore g.row.V.Denot g.row.C.Denot). g.V.Vault.trace s.sealed.vault.vault in
    let faults = λ (s : FoundStore g.row.V.Denot g.row.C.Denot). g.V.Vault.faults s.sealed.vault.vault in
    let own = λ (s : FoundStore g.row.V.Denot g.row.C.Denot). IsIdle s.sealed (g.C.Sealer.iv_size s.sealed.cipher) in
    let row : author_in (found c.args.self.now).rows c.args.id.now.0 ≡ Some (author_of c.in-Some.row) = sym c.in-Some.ensures in
    let intact : IsKept (found c.fetch.new.store) × own c.fetch.new.store = (subst IsKept (sym c.in-Ok.ensures.same) c.requires.0, c.in-Ok.ensures.idle) in
    loaded_ok found trace faults own c.args.self.now c.fetch.new.store c.args.id.now.0 (author_of c.in-Some.row) c.in-Ok.payload intact c.in-Ok.ensures.same c.in-Ok.ensures.faults row c.in-Ok.ensures.quiet (ok_whole g c)

pub returns-in-Err-clause-outcome : goal.returns-in-Err-clause-outcome
returns-in-Err-clause-outcome g c =
    let found = λ (s : FoundStore g.row.V.Denot g.row.C.Denot). finding_by g.C.Sealer.opens s in
    let trace = λ (s : FoundStore g.row.V.Denot g.row.C.Denot). g.V.Vault.trace s.sealed.vault.vault in
    let faults = λ (s : FoundStore g.row.V.Denot g.row.C.Denot). g.V.Vault.faults s.sealed.vault.vault in
    let own = λ (s : FoundStore g.row.V.Denot g.row.C.Denot). IsIdle s.sealed (g.C.Sealer.iv_size s.sealed.cipher) in
    let row : author_in (found c.args.self.now).rows c.args.id.now.0 ≡ Some (author_of c.in-Some.row) = sym c.in-Some.ensures in
    let intact : IsKept (found c.fetch.new.store) × own c.fetch.new.store = (subst IsKept (sym c.in-Err.ensures.same) c.requires.0, c.in-Err.ensures.idle) in
    loaded_err found trace faults own c.args.self.now c.fetch.new.store c.args.id.now.0 (author_of c.in-Some.row) c.in-Err.fail intact c.in-Err.ensures.same c.in-Err.ensures.faults row c.in-Err.ensures.cause c.in-Err.ensures.quiet (err_whole g c)

pub returns-in-Ok-clause-sized : goal.returns-in-Ok-clause-sized
returns-in-Ok-clause-sized g c =
    fetched_len (finding_by g.C.Sealer.opens c.args.self.now) (g.V.Vault.trace c.args.self.now.sealed.vault.vault) (g.V.Vault.trace c.fetch.new.store.sealed.vault.vault) c.args.id.now.0 (author_of c.in-Some.row) c.in-Ok.payload.items (ok_whole g c)

pub returns-in-Err-clause-of_blocks : goal.returns-in-Err-clause-of_blocks
returns-in-Err-clause-of_blocks g c =
    found_of_blocks (finding_by g.C.Sealer.opens c.args.self.now) (g.V.Vault.trace c.args.self.now.sealed.vault.vault) (g.V.Vault.trace c.fetch.new.store.sealed.vault.vault) c.args.id.now.0 (author_of c.in-Some.row) c.in-Err.fail (err_whole g c)

pub returns-in-None-clause-loads : goal.returns-in-None-clause-loads
returns-in-None-clause-loads g c =
    loads_none (finding_by g.C.Sealer.opens c.args.self.now) (g.V.Vault.trace c.args.self.now.sealed.vault.vault) c.args.id.now.0 (sym c.in-None.ensures)

pub returns-in-Ok-clause-loads : goal.returns-in-Ok-clause-loads
returns-in-Ok-clause-loads g c =
    loads_ok (finding_by g.C.Sealer.opens c.args.self.now) (finding_by g.C.Sealer.opens c.fetch.new.store) (g.V.Vault.trace c.args.self.now.sealed.vault.vault) (g.V.Vault.trace c.fetch.new.store.sealed.vault.vault) c.args.id.now.0 (author_of c.in-Some.row) c.in-Ok.payload.items c.in-Ok.ensures.same (sym c.in-Some.ensures) (ok_whole g c)

pub returns-in-Err-clause-loads : goal.returns-in-Err-clause-loads
returns-in-Err-clause-loads g c =
    loads_err (finding_by g.C.Sealer.opens c.args.self.now) (finding_by g.C.Sealer.opens c.fetch.new.store) (g.V.Vault.trace c.args.self.now.sealed.vault.vault) (g.V.Vault.trace c.fetch.new.store.sealed.vault.vault) c.args.id.now.0 (author_of c.in-Some.row) c.in-Err.fail c.in-Err.ensures.same (sym c.in-Some.ensures) (err_whole g c)

pub returns-in-Ok-clause-stays : goal.returns-in-Ok-clause-stays
returns-in-Ok-clause-stays g c =
    settled_by (λ (s : FoundStore g.row.V.Denot g.row.C.Denot). finding_by g.C.Sealer.opens s) c.args.self.now c.fetch.new.store c.in-Ok.ensures.same

pub returns-in-Ok-clause-none : goal.returns-in-Ok-clause-none
returns-in-Ok-clause-none g c =
    sym (is_found (λ (s : FoundStore g.row.V.Denot g.row.C.Denot). finding_by g.C.Sealer.opens s) (λ s. g.V.Vault.trace s.sealed.vault.vault) (λ s. g.V.Vault.faults s.sealed.vault.vault) (λ s. IsIdle s.sealed (g.C.Sealer.iv_size s.sealed.cipher)) c.args.self.now c.fetch.new.store c.args.id.now.0 (author_of c.in-Some.row) (sym c.in-Some.ensures))

pub returns-in-Err-clause-stays : goal.returns-in-Err-clause-stays
returns-in-Err-clause-stays g c =
    settled_by (λ (s : FoundStore g.row.V.Denot g.row.C.Denot). finding_by g.C.Sealer.opens s) c.args.self.now c.fetch.new.store c.in-Err.ensures.same
