use Rattle.std.proofs.Common.{◌≡◌, ◌+◌, ◌∷◌, ◌++◌, List, [], take, refl, sym, ◌∙◌, ap, subst}
use Rattle.std.specs.Prelude.{Ok}
use Rattle.std.proofs.lemmas.List.{take_more, take_all}
use Rattle.fs_model.specs.declared.attr.Attr.{Attr}
use Rattle.fs_model.specs.declared.reply.ListRow.{ListRow}
use Rattle.host_attributes.specs.declared.row.AttributedRow.{AttributedRow}
use Rattle.copy_times.specs.Taking.{SaysAttr, SaysLooked, SaysNames, Sees}
use Rattle.copy_times.proofs.Taken.{looked_all, looked_none, looked_one, sees_then, sees_fails, sees_fails_after, sees_memory_after}
use Rattle.copy_times.proofs.looking.ask_attributes.Goals as goal

pub returns-in-Err-clause-sees : goal.returns-in-Err-clause-sees
returns-in-Err-clause-sees g c =
    sees_fails g.A.Asker.asking g.met.A.Asker.lawful {X = List ListRow} c.args.asker.now c.ask_names.new.asker (SaysNames c.args.path.now) _ c.in-Err.fail c.in-Err.ensures.sees

pub loop-row-init : goal.loop-row-init
loop-row-init g c = record {
  ready = c.in-Ok.ensures.ready;
  stops = c.in-Ok.ensures.stops;
  sees = looked_none g.A.Asker.asking g.met.A.Asker.lawful c.args.asker.now c.ask_names.new.asker c.args.path.now c.in-Ok.names c.as_slice-listed.result.now c.new-rows.result.items c.as_slice-listed.ensures c.new-rows.ensures.items c.in-Ok.ensures.sees;
}

pub returns-in-Err-ask_attr-clause-sees : goal.returns-in-Err-ask_attr-clause-sees
returns-in-Err-ask_attr-clause-sees g c =
    sees_fails_after g.A.Asker.asking g.met.A.Asker.lawful {X = List AttributedRow} {Y = Attr} c.args.asker.now c.loop-row.asker c.ask_attr.new.asker c.loop-row.rows.items c.in-Err-ask_attr.fail _ (SaysAttr (c.args.path.now ++ c.row-item.result.name ∷ [])) _ c.loop-row.invariant.sees c.in-Err-ask_attr.ensures.sees

pub returns-in-Err-push_row-clause-sees : goal.returns-in-Err-push_row-clause-sees
returns-in-Err-push_row-clause-sees g c =
    sees_memory_after g.A.Asker.asking g.met.A.Asker.lawful {X = Attr} c.args.asker.now c.ask_attr.new.asker _ _ c.in-Ok-ask_attr.attr
    (sees_then g.A.Asker.asking g.met.A.Asker.lawful c.args.asker.now c.loop-row.asker c.ask_attr.new.asker c.loop-row.rows.items (Ok c.in-Ok-ask_attr.attr) (SaysLooked c.args.path.now c.as_slice-listed.result.now (take c.loop-row.row-index c.as_slice-listed.result.now)) (SaysAttr (c.args.path.now ++ c.row-item.result.name ∷ [])) c.loop-row.invariant.sees c.in-Ok-ask_attr.ensures.sees)

pub loop-row-preserved : goal.loop-row-preserved
loop-row-preserved g c =
    let i = c.loop-row.row-index in
    let listed = c.as_slice-listed.result.now in
    let l : ListRow = c.row-item.result in
    let next : take (i + 1) listed ≡ take i listed ++ l ∷ [] = take_more listed i l c.loop-row-test.true ∙ ap (λ (z : ListRow). take i listed ++ z ∷ []) (sym c.row-item.is) in
    record {
      ready = c.in-Ok-ask_attr.ensures.ready;
      stops = c.in-Ok-ask_attr.ensures.stops ∙ c.loop-row.invariant.stops;
      sees = looked_one g.A.Asker.asking g.met.A.Asker.lawful c.args.asker.now c.loop-row.asker c.ask_attr.new.asker c.args.path.now listed (take i listed) (take (i + 1) listed) l c.loop-row.rows.items c.push_row.new.rows.items c.in-Ok-ask_attr.attr next c.in-Ok-push_row.ensures c.loop-row.invariant.sees c.in-Ok-ask_attr.ensures.sees;
    }

pub returns-clause-sees : goal.returns-clause-sees
returns-clause-sees g c =
    let s = looked_all g.A.Asker.asking g.met.A.Asker.lawful c.args.asker.now c.loop-row.asker c.args.path.now c.as_slice-listed.result.now _ c.loop-row.rows.items (take_all c.loop-row.row-index c.as_slice-listed.result.now c.loop-row-test.false) c.loop-row.invariant.sees in
    record { qs = s.qs; asked = s.asked; ends = s.ends; says = s.says }
