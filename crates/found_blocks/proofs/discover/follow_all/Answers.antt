use Rattle.std.proofs.Common.{refl, ◌∙◌}
use Rattle.found_blocks.specs.Searching.{with_rows}
use Rattle.found_blocks.specs.Views.{finding_by}
use Rattle.found_blocks.proofs.Searching.{searched_on, searched_same}
use Rattle.found_blocks.proofs.discover.follow_all.Goals as goal

pub returns-then-is_err-clause-searched : goal.returns-then-is_err-clause-searched
returns-then-is_err-clause-searched g c =
    searched_same (with_rows (finding_by g.C.Sealer.opens c.args.store.now) c.args.search.now.rows) c.args.search.now.asked c.args.search.now.asked (g.V.Vault.trace c.args.store.now.sealed.vault.vault) (λ id has. has)

pub loop-init : goal.loop-init
loop-init g c = record {
  searched = searched_same (with_rows (finding_by g.C.Sealer.opens c.args.store.now) c.args.search.now.rows) c.args.search.now.asked c.args.search.now.asked (g.V.Vault.trace c.args.store.now.sealed.vault.vault) (λ id has. has);
  idle = c.requires;
  rows = refl;
  faults = refl;
}

pub returns-in-Err-clause-searched : goal.returns-in-Err-clause-searched
returns-in-Err-clause-searched g c =
    searched_on (with_rows (finding_by g.C.Sealer.opens c.args.store.now) c.args.search.now.rows) (with_rows (finding_by g.C.Sealer.opens c.loop.store) c.loop.search.rows)
    (with_rows (finding_by g.C.Sealer.opens c.follow.new.store) c.follow.new.search.rows) c.args.search.now.asked c.loop.search.asked c.follow.new.search.asked
    (g.V.Vault.trace c.args.store.now.sealed.vault.vault) (g.V.Vault.trace c.loop.store.sealed.vault.vault) (g.V.Vault.trace c.follow.new.store.sealed.vault.vault)
    c.loop.invariant.searched c.follow.ensures.searched

pub loop-preserved : goal.loop-preserved
loop-preserved g c = record {
  searched = searched_on (with_rows (finding_by g.C.Sealer.opens c.args.store.now) c.args.search.now.rows) (with_rows (finding_by g.C.Sealer.opens c.loop.store) c.loop.search.rows)
      (with_rows (finding_by g.C.Sealer.opens c.follow.new.store) c.follow.new.search.rows) c.args.search.now.asked c.loop.search.asked c.follow.new.search.asked
      (g.V.Vault.trace c.args.store.now.sealed.vault.vault) (g.V.Vault.trace c.loop.store.sealed.vault.vault) (g.V.Vault.trace c.follow.new.store.sealed.vault.vault)
      c.loop.invariant.searched c.follow.ensures.searched;
  idle = c.follow.ensures.idle;
  rows = c.follow.ensures.rows ∙ c.loop.invariant.rows;
  faults = c.in-Ok.ensures.cause.quiet ∙ c.loop.invariant.faults;
}
