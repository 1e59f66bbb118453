use Rattle.std.proofs.Common.{rules, ◌≡◌, ◌+◌, ◌-◌, ◌^◌, min, refl, ◌∙◌, ap, subst, arith}
use Rattle.std.specs.declared.result.Result.TheVariants.{Err}
use Rattle.block_id.specs.declared.fail.Fail.TheVariants.{Memory, Fault}
use Rattle.outside.specs.Changes.{change_at}
use Rattle.outside.specs.Trace.{block}
use Rattle.block_versions.specs.sealed_store.BlockFiles.{front_seen, seen_file_in}
use Rattle.block_versions.specs.sealed_store.Stores.{Unseen}
use Rattle.block_versions.specs.redo_vault.Redo.{Gave}
use Rattle.block_versions.proofs.HeldBlocksFronts.{answer_by}
use Rattle.found_blocks.specs.Fetching.{FetchedFront, fetched_of}
use Rattle.found_blocks.specs.Rows.{author_of}
use Rattle.found_blocks.specs.Views.{finding_by}
use Rattle.found_blocks.proofs.Fetches.{front_came}
use Rattle.found_blocks.proofs.fetch.fetch.Goals as goal

pub returns-in-Ok-clause-fetched : goal.returns-in-Ok-clause-fetched
returns-in-Ok-clause-fetched g c =
    let f = finding_by g.C.Sealer.opens c.args.store.now in
    let old = g.V.Vault.trace c.args.store.now.sealed.vault.vault in
    let new = g.V.Vault.trace c.get_plain.new.self.vault.vault in
    let id = c.args.id.now.0 in
    let author = author_of c.args.row.now in
    let sees = c.in-Ok.ensures.sees in
    let limit = 2 ^ 64 - 31 in
    let asked : c.saturating_add-opened.result ≡ 30 + min c.args.most (2 ^ 64 - 31) = omega (arith, c.saturating_add-opened.ensures) in
    let whole = seen_file_in f.opens f.size 1 id sees.answer in
    let same : answer_by c.judge.result ≡ fetched_of c.map_err.result = search rules in
    let came = subst (λ list. Gave (change_at (block id) list) old new (block id) (f.size + 1) sees.answer) c.requires.list sees.gave in
    subst (FetchedFront f old new id author c.args.most) same
    (front_came f old new id author c.args.most limit sees.answer c.judge.result (omega (arith, c.requires.intact.most)) came
    (c.judge.ensures f.size (min c.args.most (2 ^ 64 - 31)) whole sees.whole (◌∙◌ {b = front_seen c.saturating_add-opened.result whole} sees.shows (ap (λ n. front_seen n whole) asked))))

pub returns-in-Err-Memory-clause-fetched : goal.returns-in-Err-Memory-clause-fetched
returns-in-Err-Memory-clause-fetched g c = record {
  whole = Err Memory;
  fetched = subst (Unseen (change_at (block c.args.id.now.0) c.args.store.now.sealed.vault.list) (g.V.Vault.trace c.args.store.now.sealed.vault.vault) (g.V.Vault.trace c.get_plain.new.self.vault.vault))
      c.in-Err-Memory.field-0-is c.in-Err-Memory.ensures.unseen;
  front = refl;
}

pub returns-in-Err-Failed-clause-fetched : goal.returns-in-Err-Failed-clause-fetched
returns-in-Err-Failed-clause-fetched g c =
    let unseen = subst (Unseen (change_at (block c.args.id.now.0) c.args.store.now.sealed.vault.list) (g.V.Vault.trace c.args.store.now.sealed.vault.vault) (g.V.Vault.trace c.get_plain.new.self.vault.vault))
    c.in-Err-Failed.field-0-is c.in-Err-Failed.ensures.unseen in
    record { whole = Err Fault; fetched = unseen.0; front = refl }
