use Rattle.std.proofs.Common.{◌≡◌, ℕ, ◌+◌, ◌-◌, List, [], ◌∷◌, ◌++◌, take, refl, sym, ◌∙◌, ap, subst, suc, arith}
use Rattle.std.specs.Prelude.{IfSome, Ok, Err}
use Rattle.std.proofs.lemmas.List.{take_more}
use Rattle.copy_row.specs.copy_laws.declared.copied.CopyFail.TheVariants as fail
use Rattle.host_attributes.specs.declared.row.AttributedRow.{AttributedRow}
use Rattle.host_attributes.specs.Attributes.{rows_in}
use Rattle.copy_times.specs.Giving.{GaveRow, GaveRows, told_kids}
use Rattle.copy_times.specs.Tours.{BelowIs, RowsTour, IsTour}
use Rattle.copy_times.proofs.Given.{gave_deep, gave_memory, gave_host, gave_listed, gave_none, gave_more, gave_fails, gave_row, gave_directory, gave_file, gave_link}
use Rattle.copy_times.proofs.inward.+give.Goals as goal

pub give_below-returns-then-depth-eq0-clause-gave : goal.give_below-returns-then-depth-eq0-clause-gave
give_below-returns-then-depth-eq0-clause-gave g t c =
    gave_deep g.A.Asker.asking g.met.A.Asker.lawful c.args.asker.now (g.F.Attributed.attributes c.args.host.now) (λ t. IsTour c.args.depth (told_kids t) c.args.from.now c.args.to.now) c.args.to.now c.too_deep.result c.too_deep.ensures

pub give_below-returns-in-Err-Memory-clause-gave : goal.give_below-returns-in-Err-Memory-clause-gave
give_below-returns-in-Err-Memory-clause-gave g t c =
    gave_memory g.A.Asker.asking g.met.A.Asker.lawful c.args.asker.now (g.F.Attributed.attributes c.args.host.now) (λ t. IsTour c.args.depth (told_kids t) c.args.from.now c.args.to.now)

pub give_below-returns-in-Err-Failed-clause-gave : goal.give_below-returns-in-Err-Failed-clause-gave
give_below-returns-in-Err-Failed-clause-gave g t c =
    gave_host g.A.Asker.asking g.met.A.Asker.lawful c.args.asker.now (g.F.Attributed.attributes c.args.host.now) (λ t. IsTour c.args.depth (told_kids t) c.args.from.now c.args.to.now)

pub give_below-returns-clause-gave : goal.give_below-returns-clause-gave
give_below-returns-clause-gave g t c =
    let told = g.F.Attributed.attributes c.args.host.now in
    let depth : ℕ = c.args.depth in
    let less : depth ≡ suc (depth - 1) = omega (arith, c.if-depth-eq0.false) in
    gave_listed g.A.Asker.asking g.met.A.Asker.lawful c.args.asker.now c.give_rows.new.asker told (g.F.Attributed.attributes c.list_attributes.new.self) c.deref.result.now c.args.from.now c.args.to.now (c.args.depth - 1) c.args.depth c.give_rows.result
    c.in-Ok.ensures.same less
    (subst (λ (z : List AttributedRow). IfSome told (λ t. z ≡ rows_in t c.args.from.now)) (sym c.deref.ensures.value) c.in-Ok.ensures.ok)
    c.give_rows.ensures.gave

pub give_row-returns-in-Err-clause-gave : goal.give_row-returns-in-Err-clause-gave
give_row-returns-in-Err-clause-gave g t c =
    gave_memory g.A.Asker.asking g.met.A.Asker.lawful c.args.asker.now (g.F.Attributed.attributes c.args.host.now) (λ t. RowsTour (IsTour c.args.depth (told_kids t)) c.args.from.now c.args.to.now (c.args.row.now ∷ []))

pub give_row-returns-in-Err-give_under-clause-gave : goal.give_row-returns-in-Err-give_under-clause-gave
give_row-returns-in-Err-give_under-clause-gave g t c =
    gave_fails g.A.Asker.asking g.met.A.Asker.lawful c.args.asker.now c.give_under.new.asker (g.F.Attributed.attributes c.args.host.now) _ (λ t. RowsTour (IsTour c.args.depth (told_kids t)) c.args.from.now c.args.to.now (c.args.row.now ∷ [])) c.in-Err-give_under.fail c.in-Err-give_under.ensures.gave

pub give_row-returns-clause-gave : goal.give_row-returns-clause-gave
give_row-returns-clause-gave g t c =
    gave_row g.A.Asker.asking g.met.A.Asker.lawful c.args.asker.now c.give_under.new.asker c.give.new.asker (g.F.Attributed.attributes c.args.host.now) c.args.row.now c.args.from.now c.args.to.now _ _ c.args.depth tt c.give.result
    c.in-Ok.ensures.0 c.in-Ok.ensures.1 c.requires.listed c.in-Ok-give_under.ensures.gave c.give.ensures.asks

pub give_under-returns-in-Directory-clause-gave : goal.give_under-returns-in-Directory-clause-gave
give_under-returns-in-Directory-clause-gave g t c =
    gave_directory g.A.Asker.asking g.met.A.Asker.lawful c.args.asker.now c.give_below.new.asker (g.F.Attributed.attributes c.args.host.now) c.args.kind c.args.from.now c.args.to.now c.args.depth c.give_below.result c.in-Directory.is c.give_below.ensures.gave

pub give_under-returns-in-File-clause-gave : goal.give_under-returns-in-File-clause-gave
give_under-returns-in-File-clause-gave g t c =
    gave_file g.A.Asker.asking g.met.A.Asker.lawful c.args.asker.now (g.F.Attributed.attributes c.args.host.now) c.args.kind c.args.from.now c.args.to.now c.args.depth tt c.in-File.is

pub give_under-returns-in-Link-clause-gave : goal.give_under-returns-in-Link-clause-gave
give_under-returns-in-Link-clause-gave g t c =
    gave_link g.A.Asker.asking g.met.A.Asker.lawful c.args.asker.now (g.F.Attributed.attributes c.args.host.now) c.args.kind c.args.from.now c.args.to.now c.args.depth tt c.in-Link.is

pub give_rows-loop-row-init : goal.give_rows-loop-row-init
give_rows-loop-row-init g t c = record {
  ready = c.requires.ready;
  tree = refl;
  same = refl;
  host = refl;
  stops = refl;
  gave = gave_none g.A.Asker.asking g.met.A.Asker.lawful c.args.asker.now (g.F.Attributed.attributes c.args.host.now) c.args.from.now c.args.to.now c.args.depth tt;
}

pub give_rows-returns-in-Err-clause-gave : goal.give_rows-returns-in-Err-clause-gave
give_rows-returns-in-Err-clause-gave g t c =
    let M = g.A.Asker.asking in
    let told = g.F.Attributed.attributes c.args.host.now in
    let row = c.row-item.result in
    let before = take c.loop-row.row-index c.args.rows.now in
    let one = subst (λ z. GaveRow M c.loop-row.asker c.give_row.new.asker z row c.args.from.now c.args.to.now c.args.depth {X = Unit {0}} (Err c.in-Err.fail)) c.loop-row.invariant.same c.in-Err.ensures.gave in
    gave_fails M g.met.A.Asker.lawful c.args.asker.now c.give_row.new.asker told (λ t. RowsTour (IsTour c.args.depth (told_kids t)) c.args.from.now c.args.to.now (before ++ row ∷ [])) (λ t. RowsTour (IsTour c.args.depth (told_kids t)) c.args.from.now c.args.to.now c.args.rows.now) c.in-Err.fail
    (gave_more M g.met.A.Asker.lawful c.args.asker.now c.loop-row.asker c.give_row.new.asker told before row c.args.from.now c.args.to.now c.args.depth tt (Err c.in-Err.fail) c.loop-row.invariant.gave one)

pub give_rows-loop-row-preserved : goal.give_rows-loop-row-preserved
give_rows-loop-row-preserved g t c =
    let M = g.A.Asker.asking in
    let told = g.F.Attributed.attributes c.args.host.now in
    let row = c.row-item.result in
    let i = c.loop-row.row-index in
    let rows = c.args.rows.now in
    let one = subst (λ z. GaveRow M c.loop-row.asker c.give_row.new.asker z row c.args.from.now c.args.to.now c.args.depth {X = Unit {0}} (Ok tt)) c.loop-row.invariant.same c.in-Ok.ensures.gave in
    let more = gave_more M g.met.A.Asker.lawful c.args.asker.now c.loop-row.asker c.give_row.new.asker told (take i rows) row c.args.from.now c.args.to.now c.args.depth tt (Ok tt) c.loop-row.invariant.gave one in
    record {
      ready = c.in-Ok.ensures.ready;
      tree = c.in-Ok.ensures.tree ∙ c.loop-row.invariant.tree;
      same = c.in-Ok.ensures.same ∙ c.loop-row.invariant.same;
      host = c.in-Ok.ensures.host ∙ c.loop-row.invariant.host;
      stops = c.in-Ok.ensures.stops ∙ c.loop-row.invariant.stops;
      gave = subst (λ (z : List AttributedRow). GaveRows M c.args.asker.now c.give_row.new.asker told z c.args.from.now c.args.to.now c.args.depth {X = Unit {0}} (Ok tt)) (sym (take_more rows i row c.loop-row-test.true ∙ ap (λ (z : AttributedRow). take i rows ++ z ∷ []) (sym c.row-item.is))) more;
    }
