use Rattle.std.proofs.Common.{◌≡◌, ℕ, ◌+◌, ◌-◌, List, [], ◌∷◌, ◌++◌, take, refl, sym, ◌∙◌, ap, subst, suc, arith}
use Rattle.std.specs.Prelude.{Ok, Err}
use Rattle.std.specs.List.{Contains}
use Rattle.std.proofs.lemmas.List.{take_more}
use Rattle.std.proofs.lemmas.List.Elements.{Contains-get_or}
use Rattle.host_attributes.specs.declared.row.AttributedRow.{AttributedRow}
use Rattle.host_attributes.specs.Attributes.{rows_in}
use Rattle.copy_times.specs.Taking.{Sees, TookRows, tree_kids}
use Rattle.copy_times.specs.Tours.{RowsTour, IsTour}
use Rattle.copy_times.proofs.Taken.{took_deep, took_unseen, took_listed, took_memory, took_fails, took_row, took_directory, took_file, took_link, took_none, took_more}
use Rattle.copy_times.proofs.outward.+take.Goals as goal

pub take_below-returns-then-depth-eq0-clause-took : goal.take_below-returns-then-depth-eq0-clause-took
take_below-returns-then-depth-eq0-clause-took g t c =
    took_deep g.A.Asker.asking g.met.A.Asker.lawful c.args.asker.now (g.F.Attributed.attributes c.args.host.now) (λ t. Unit {0}) (λ t. IsTour c.args.depth (tree_kids t) c.args.from.now c.args.to.now) c.args.to.now c.too_deep.result c.too_deep.ensures

pub take_below-returns-in-Err-clause-took : goal.take_below-returns-in-Err-clause-took
take_below-returns-in-Err-clause-took g t c =
    took_unseen g.A.Asker.asking g.met.A.Asker.lawful c.args.asker.now c.ask_attributes.new.asker (g.F.Attributed.attributes c.args.host.now) _ (λ t. Unit {0}) (λ t. IsTour c.args.depth (tree_kids t) c.args.from.now c.args.to.now) c.in-Err.fail c.in-Err.ensures.sees

pub take_below-returns-clause-took : goal.take_below-returns-clause-took
take_below-returns-clause-took g t c =
    let depth : ℕ = c.args.depth in
    let less : depth ≡ suc (depth - 1) = omega (arith, c.if-depth-eq0.false) in
    let rows = c.deref.result.now in
    let s = c.in-Ok.ensures.sees in
    let told : Sees g.A.Asker.asking c.args.asker.now c.ask_attributes.new.asker {X = List AttributedRow} (λ t xs. xs ≡ rows_in t c.args.to.now) (Ok c.in-Ok.rows.items) = record { qs = s.qs; asked = s.asked; ends = s.ends; says = s.says } in
    let seen = subst (λ (z : List AttributedRow). Sees g.A.Asker.asking c.args.asker.now c.ask_attributes.new.asker {X = List AttributedRow} (λ t xs. xs ≡ rows_in t c.args.to.now) (Ok z)) (sym c.deref.ensures.value) told in
    took_listed g.A.Asker.asking g.met.A.Asker.lawful c.args.asker.now c.ask_attributes.new.asker c.take_rows.new.asker (g.F.Attributed.attributes c.args.host.now) (g.F.Attributed.attributes c.take_rows.new.host) rows c.args.from.now c.args.to.now (c.args.depth - 1) c.args.depth c.take_rows.result
    less seen c.take_rows.ensures.took

pub take_row-returns-in-Err-clause-took : goal.take_row-returns-in-Err-clause-took
take_row-returns-in-Err-clause-took g t c =
    took_memory g.A.Asker.asking g.met.A.Asker.lawful c.args.asker.now (g.F.Attributed.attributes c.args.host.now) (λ t. Contains (rows_in t c.args.to.now) c.args.row.now) (λ t. RowsTour (IsTour c.args.depth (tree_kids t)) c.args.from.now c.args.to.now (c.args.row.now ∷ []))

pub take_row-returns-in-Err-take_under-clause-took : goal.take_row-returns-in-Err-take_under-clause-took
take_row-returns-in-Err-take_under-clause-took g t c =
    took_fails g.A.Asker.asking g.met.A.Asker.lawful c.args.asker.now c.take_under.new.asker (g.F.Attributed.attributes c.args.host.now) (g.F.Attributed.attributes c.take_under.new.host) (λ t. Unit {0}) (λ t. Contains (rows_in t c.args.to.now) c.args.row.now) _ (λ t. RowsTour (IsTour c.args.depth (tree_kids t)) c.args.from.now c.args.to.now (c.args.row.now ∷ [])) c.in-Err-take_under.fail (λ t known. tt) c.in-Err-take_under.ensures.took

pub take_row-returns-clause-took : goal.take_row-returns-clause-took
take_row-returns-clause-took g t c =
    took_row g.A.Asker.asking g.met.A.Asker.lawful c.args.asker.now c.take_under.new.asker (g.F.Attributed.attributes c.args.host.now) (g.F.Attributed.attributes c.take_under.new.host) (g.F.Attributed.attributes c.set_row.new.host) c.args.row.now c.args.from.now c.args.to.now _ _ c.args.depth tt c.set_row.result
    c.in-Ok.ensures.0 c.in-Ok.ensures.1 c.in-Ok-take_under.ensures.took c.set_row.ensures.never c.set_row.ensures.ok c.set_row.ensures.err

pub take_under-returns-in-Directory-clause-took : goal.take_under-returns-in-Directory-clause-took
take_under-returns-in-Directory-clause-took g t c =
    took_directory g.A.Asker.asking g.met.A.Asker.lawful c.args.asker.now c.take_below.new.asker (g.F.Attributed.attributes c.args.host.now) (g.F.Attributed.attributes c.take_below.new.host) c.args.kind c.args.from.now c.args.to.now c.args.depth c.take_below.result c.in-Directory.is c.take_below.ensures.took

pub take_under-returns-in-File-clause-took : goal.take_under-returns-in-File-clause-took
take_under-returns-in-File-clause-took g t c =
    took_file g.A.Asker.asking g.met.A.Asker.lawful c.args.asker.now (g.F.Attributed.attributes c.args.host.now) c.args.kind c.args.from.now c.args.to.now c.args.depth tt c.in-File.is

pub take_under-returns-in-Link-clause-took : goal.take_under-returns-in-Link-clause-took
take_under-returns-in-Link-clause-took g t c =
    took_link g.A.Asker.asking g.met.A.Asker.lawful c.args.asker.now (g.F.Attributed.attributes c.args.host.now) c.args.kind c.args.from.now c.args.to.now c.args.depth tt c.in-Link.is

pub take_rows-loop-row-init : goal.take_rows-loop-row-init
take_rows-loop-row-init g t c = record {
  ready = c.requires.ready;
  tree = refl;
  host = refl;
  stops = refl;
  took = took_none g.A.Asker.asking g.met.A.Asker.lawful c.args.asker.now (g.F.Attributed.attributes c.args.host.now) c.args.rows.now c.args.from.now c.args.to.now c.args.depth tt;
}

pub take_rows-returns-in-Err-clause-took : goal.take_rows-returns-in-Err-clause-took
take_rows-returns-in-Err-clause-took g t c =
    let M = g.A.Asker.asking in
    let row = c.row-item.result in
    let i = c.loop-row.row-index in
    let rows = c.args.rows.now in
    let listed = subst (λ (z : AttributedRow). Contains rows z) (sym c.row-item.is) (Contains-get_or rows i row c.loop-row-test.true) in
    took_fails M g.met.A.Asker.lawful c.args.asker.now c.take_row.new.asker (g.F.Attributed.attributes c.args.host.now) (g.F.Attributed.attributes c.take_row.new.host) (λ t. rows ≡ rows_in t c.args.to.now) (λ t. rows ≡ rows_in t c.args.to.now) (λ t. RowsTour (IsTour c.args.depth (tree_kids t)) c.args.from.now c.args.to.now (take i rows ++ row ∷ []))
    (λ t. RowsTour (IsTour c.args.depth (tree_kids t)) c.args.from.now c.args.to.now rows) c.in-Err.fail (λ t known. known)
    (took_more M g.met.A.Asker.lawful c.args.asker.now c.loop-row.asker c.take_row.new.asker (g.F.Attributed.attributes c.args.host.now) (g.F.Attributed.attributes c.loop-row.host) (g.F.Attributed.attributes c.take_row.new.host) rows (take i rows) row c.args.from.now c.args.to.now c.args.depth tt (Err c.in-Err.fail) listed c.loop-row.invariant.took c.in-Err.ensures.took)

pub take_rows-loop-row-preserved : goal.take_rows-loop-row-preserved
take_rows-loop-row-preserved g t c =
    let M = g.A.Asker.asking in
    let row = c.row-item.result in
    let i = c.loop-row.row-index in
    let rows = c.args.rows.now in
    let first = g.F.Attributed.attributes c.args.host.now in
    let last = g.F.Attributed.attributes c.take_row.new.host in
    let listed = subst (λ (z : AttributedRow). Contains rows z) (sym c.row-item.is) (Contains-get_or rows i row c.loop-row-test.true) in
    let more = took_more M g.met.A.Asker.lawful c.args.asker.now c.loop-row.asker c.take_row.new.asker first (g.F.Attributed.attributes c.loop-row.host) last rows (take i rows) row c.args.from.now c.args.to.now c.args.depth tt (Ok tt) listed c.loop-row.invariant.took c.in-Ok.ensures.took in
    record {
      ready = c.in-Ok.ensures.ready;
      tree = c.in-Ok.ensures.tree ∙ c.loop-row.invariant.tree;
      host = c.in-Ok.ensures.host ∙ c.loop-row.invariant.host;
      stops = c.in-Ok.ensures.stops ∙ c.loop-row.invariant.stops;
      took = subst (λ (z : List AttributedRow). TookRows M c.args.asker.now c.take_row.new.asker first last rows z c.args.from.now c.args.to.now c.args.depth {X = Unit {0}} (Ok tt)) (sym (take_more rows i row c.loop-row-test.true ∙ ap (λ (z : AttributedRow). take i rows ++ z ∷ []) (sym c.row-item.is))) more;
    }
