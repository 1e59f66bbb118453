use Rattle.std.proofs.Common.{◌≡◌, subst, ap, sym}
use Rattle.std.specs.declared.option.Option.TheVariants.{None, Some}
use Rattle.block_versions.specs.store_outcome.Outcome.{idle}
use Rattle.store_api.specs.Fronts.{front_of}
use Rattle.found_blocks.specs.declared.store.FoundStore.{FoundStore}
use Rattle.found_blocks.specs.Finding.{IsKept, payload_of, where_found}
use Rattle.found_blocks.specs.Rows.{author_in, author_of}
use Rattle.found_blocks.specs.StoreLaws.{lawful_by, settled_by}
use Rattle.found_blocks.specs.Views.{IsIdle, finding_by}
use Rattle.found_blocks.proofs.Fetches.{found_of_blocks}
use Rattle.found_blocks.proofs.Loading.{front_err, front_failed, front_len, front_ok, is_found}
use Rattle.found_blocks.proofs.store.FoundStoreBlocks.load_front.Goals as goal

pub returns-in-None-clause-outcome : goal.returns-in-None-clause-outcome
returns-in-None-clause-outcome g c =
    let found = λ (s : FoundStore g.row.V.Denot g.row.C.Denot). finding_by g.C.Sealer.opens s in
    let trace = λ (s : FoundStore g.row.V.Denot g.row.C.Denot). g.V.Vault.trace s.sealed.vault.vault in
    let faults = λ (s : FoundStore g.row.V.Denot g.row.C.Denot). g.V.Vault.faults s.sealed.vault.vault in
    let own = λ (s : FoundStore g.row.V.Denot g.row.C.Denot). IsIdle s.sealed (g.C.Sealer.iv_size s.sealed.cipher) in
    idle (lawful_by found trace faults own) c.args.self.now None c.requires (λ n. ap (λ a. front_of c.args.most (where_found a (payload_of (found c.args.self.now) c.args.id.now.0))) c.in-None.ensures)

pub returns-in-Ok-clause-outcome : goal.returns-in-Ok-clause-outcome
returns-in-Ok-clause-outcome g c =
    let found = λ (s : FoundStore g.row.V.Denot g.row.C.Denot). finding_by g.C.Sealer.opens s in
    let trace = λ (s : FoundStore g.row.V.Denot g.row.C.Denot). g.V.Vault.trace s.sealed.vault.vault in
    let faults = λ (s : FoundStore g.row.V.Denot g.row.C.Denot). g.V.Vault.faults s.sealed.vault.vault in
    let own = λ (s : FoundStore g.row.V.Denot g.row.C.Denot). IsIdle s.sealed (g.C.Sealer.iv_size s.sealed.cipher) in
    let row : author_in (found c.args.self.now).rows c.args.id.now.0 ≡ Some (author_of c.in-Some.row) = sym c.in-Some.ensures in
    let intact : IsKept (found c.fetch.new.store) × own c.fetch.new.store = (subst IsKept (sym c.in-Ok.ensures.same) c.requires.0, c.in-Ok.ensures.idle) in
    front_ok found trace faults own c.args.self.now c.fetch.new.store c.args.id.now.0 (author_of c.in-Some.row) c.args.most c.in-Ok.front intact c.in-Ok.ensures.same c.in-Ok.ensures.faults row c.in-Ok.ensures.quiet c.in-Ok.ensures.fetched

pub returns-in-Err-clause-outcome : goal.returns-in-Err-clause-outcome
returns-in-Err-clause-outcome g c =
    let found = λ (s : FoundStore g.row.V.Denot g.row.C.Denot). finding_by g.C.Sealer.opens s in
    let trace = λ (s : FoundStore g.row.V.Denot g.row.C.Denot). g.V.Vault.trace s.sealed.vault.vault in
    let faults = λ (s : FoundStore g.row.V.Denot g.row.C.Denot). g.V.Vault.faults s.sealed.vault.vault in
    let own = λ (s : FoundStore g.row.V.Denot g.row.C.Denot). IsIdle s.sealed (g.C.Sealer.iv_size s.sealed.cipher) in
    let row : author_in (found c.args.self.now).rows c.args.id.now.0 ≡ Some (author_of c.in-Some.row) = sym c.in-Some.ensures in
    let intact : IsKept (found c.fetch.new.store) × own c.fetch.new.store = (subst IsKept (sym c.in-Err.ensures.same) c.requires.0, c.in-Err.ensures.idle) in
    front_err found trace faults own c.args.self.now c.fetch.new.store c.args.id.now.0 (author_of c.in-Some.row) c.args.most c.in-Err.fail intact c.in-Err.ensures.same c.in-Err.ensures.faults row c.in-Err.ensures.cause c.in-Err.ensures.quiet c.in-Err.ensures.fetched

pub returns-in-Ok-clause-sized : goal.returns-in-Ok-clause-sized
returns-in-Ok-clause-sized g c =
    front_len (finding_by g.C.Sealer.opens c.args.self.now) (g.V.Vault.trace c.args.self.now.sealed.vault.vault) (g.V.Vault.trace c.fetch.new.store.sealed.vault.vault) c.args.id.now.0 (author_of c.in-Some.row) c.args.most c.in-Ok.front.items c.in-Ok.ensures.fetched

pub returns-in-Err-clause-of_blocks : goal.returns-in-Err-clause-of_blocks
returns-in-Err-clause-of_blocks g c =
    let f = finding_by g.C.Sealer.opens c.args.self.now in
    let old = g.V.Vault.trace c.args.self.now.sealed.vault.vault in
    let new = g.V.Vault.trace c.fetch.new.store.sealed.vault.vault in
    found_of_blocks f old new c.args.id.now.0 (author_of c.in-Some.row) c.in-Err.fail (front_failed f old new c.args.id.now.0 (author_of c.in-Some.row) c.args.most c.in-Err.fail c.in-Err.ensures.fetched)

pub returns-in-Ok-clause-stays : goal.returns-in-Ok-clause-stays
returns-in-Ok-clause-stays g c =
    settled_by (λ (s : FoundStore g.row.V.Denot g.row.C.Denot). finding_by g.C.Sealer.opens s) c.args.self.now c.fetch.new.store c.in-Ok.ensures.same

pub returns-in-Ok-clause-none : goal.returns-in-Ok-clause-none
returns-in-Ok-clause-none g c =
    sym (is_found (λ (s : FoundStore g.row.V.Denot g.row.C.Denot). finding_by g.C.Sealer.opens s) (λ s. g.V.Vault.trace s.sealed.vault.vault) (λ s. g.V.Vault.faults s.sealed.vault.vault) (λ s. IsIdle s.sealed (g.C.Sealer.iv_size s.sealed.cipher)) c.args.self.now c.fetch.new.store c.args.id.now.0 (author_of c.in-Some.row) (sym c.in-Some.ensures))

pub returns-in-Err-clause-stays : goal.returns-in-Err-clause-stays
returns-in-Err-clause-stays g c =
    settled_by (λ (s : FoundStore g.row.V.Denot g.row.C.Denot). finding_by g.C.Sealer.opens s) c.args.self.now c.fetch.new.store c.in-Err.ensures.same
