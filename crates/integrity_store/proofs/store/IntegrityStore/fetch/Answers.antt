use Rattle.std.proofs.Common.{rules, ◌≡◌, ◌+◌, ◌-◌, ◌^◌, min, refl, ◌∙◌, ap, subst, arith}
use Rattle.std.specs.declared.result.Result.TheVariants.{Err}
use Rattle.block_id.specs.declared.fail.Fail.TheVariants.{Memory, Fault}
use Rattle.block_versions.specs.sealed_store.BlockFiles.{front_seen, seen_file_in}
use Rattle.block_versions.specs.sealed_store.Stores.{Unseen}
use Rattle.block_versions.specs.Held.{waiting}
use Rattle.block_versions.specs.Loads.{FetchedFront, fetched_of}
use Rattle.block_versions.proofs.HeldBlocksFronts.{answer_by, fetched_front}
use Rattle.integrity_store.specs.Views.{held_by}
use Rattle.integrity_store.proofs.store.IntegrityStore.fetch.Goals as goal

pub returns-in-Ok-clause-fetched : goal.returns-in-Ok-clause-fetched
returns-in-Ok-clause-fetched g c =
    let h = held_by g.C.Sealer.opens c.args.self.now in
    let old = g.V.Vault.trace c.args.self.now.sealed.vault.vault in
    let new = g.V.Vault.trace c.get_plain.new.self.vault.vault in
    let id = c.args.id.now.0 in
    let sees = c.in-Ok.ensures.sees in
    let limit = 2 ^ 64 - 31 in
    let asked : c.saturating_add-opened.result ≡ 30 + min c.args.most (2 ^ 64 - 31) = omega (arith, c.saturating_add-opened.ensures) in
    let whole = seen_file_in h.opens h.size h.state.least id sees.answer in
    let same : answer_by c.judge.result ≡ fetched_of c.map_err.result = search rules in
    subst (FetchedFront h old new id c.args.known c.args.most) same
    (fetched_front h old new id c.args.known c.args.most limit sees.answer c.judge.result (omega (arith, c.requires.0.most)) sees.gave
    (c.judge.ensures h.size (min c.args.most (2 ^ 64 - 31)) whole sees.whole (◌∙◌ {b = front_seen c.saturating_add-opened.result whole} sees.shows (ap (λ n. front_seen n whole) asked))))

pub returns-in-Err-Memory-clause-fetched : goal.returns-in-Err-Memory-clause-fetched
returns-in-Err-Memory-clause-fetched g c =
    let h = held_by g.C.Sealer.opens c.args.self.now in
    record {
      whole = Err Memory;
      fetched = subst (Unseen (waiting h c.args.id.now.0) (g.V.Vault.trace c.args.self.now.sealed.vault.vault) (g.V.Vault.trace c.get_plain.new.self.vault.vault))
          c.in-Err-Memory.field-0-is c.in-Err-Memory.ensures.unseen;
      front = refl;
    }

pub returns-in-Err-Failed-clause-fetched : goal.returns-in-Err-Failed-clause-fetched
returns-in-Err-Failed-clause-fetched g c =
    let h = held_by g.C.Sealer.opens c.args.self.now in
    let unseen = subst (Unseen (waiting h c.args.id.now.0) (g.V.Vault.trace c.args.self.now.sealed.vault.vault) (g.V.Vault.trace c.get_plain.new.self.vault.vault))
    c.in-Err-Failed.field-0-is c.in-Err-Failed.ensures.unseen in
    record { whole = Err Fault; fetched = unseen.0; front = refl }
