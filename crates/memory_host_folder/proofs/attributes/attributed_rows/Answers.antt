use Rattle.std.proofs.Common.{◌≡◌, ◌+◌, ◌≤◌, ◌∷◌, ◌++◌, List, [], map, take, sym, ◌∙◌, ap, subst}
use Rattle.std.specs.FinMap.{entries}
use Rattle.std.proofs.lemmas.List.{take_more, take_all}
use Rattle.std.proofs.lemmas.List.Elements.{All-push}
use Rattle.fs_model.specs.declared.limits.TheConstants.{MAX_MODE}
use Rattle.fs_model.specs.declared.reply.ListRow.{ListRow}
use Rattle.fs_model.specs.Step.{list_row}
use Rattle.fs_model.specs.Tree.{children, upward}
use Rattle.host_attributes.specs.host_folder.Folders.{HostPath}
use Rattle.host_attributes.specs.declared.row.AttributedRow.{AttributedRow}
use Rattle.host_attributes.specs.Attributes.{AreLookedUp, AreWithin}
use Rattle.host_attributes.proofs.Rows.{looked_more, rows_found}
use Rattle.memory_host_folder.proofs.attributes.attributed_rows.Goals as goal

pub loop-row-preserved : goal.loop-row-preserved
loop-row-preserved c =
    let i = c.loop-row.row-index in
    let names = c.deref-row-items.result.now in
    let l : ListRow = c.row-item.result in
    let row : AttributedRow = c.in-Ok-attributed_row.row in
    let next : take (i + 1) names ≡ take i names ++ l ∷ [] = take_more names i l c.loop-row-test.true ∙ ap (λ (z : ListRow). take i names ++ z ∷ []) (sym c.row-item.is) in
    let more = looked_more c.args.table.now c.args.path.now (take i names) l c.loop-row.rows.items row c.loop-row.invariant.looked c.in-Ok-attributed_row.ensures.name c.in-Ok-attributed_row.ensures.attr in
    record {
      looked = subst (λ (z : List ListRow). AreLookedUp c.args.table.now c.args.path.now z c.push.new.self.items) (sym next) (subst (λ (z : List AttributedRow). AreLookedUp c.args.table.now c.args.path.now (take i names ++ l ∷ []) z) (sym c.in-Ok-push.ensures.items) more);
      within = subst AreWithin (sym c.in-Ok-push.ensures.items) (All-push (λ (r : AttributedRow). r.attr.mode ≤ MAX_MODE) c.loop-row.rows.items row c.loop-row.invariant.within c.in-Ok-attributed_row.ensures.within);
    }

pub returns-clause-ok : goal.returns-clause-ok
returns-clause-ok c =
    let t = c.args.table.now in
    let names = c.deref-row-items.result.now in
    let all : take c.loop-row.row-index names ≡ names = take_all c.loop-row.row-index names c.loop-row-test.false in
    rows_found t c.args.path.now c.in-Ok.listed.items c.loop-row.rows.items (c.in-Ok.ensures ∙ ap (λ (z : HostPath). map list_row (entries (children t (upward z)))) c.names.ensures)
    (subst (λ (z : List ListRow). AreLookedUp t c.args.path.now z c.loop-row.rows.items) (all ∙ c.deref-row-items.ensures.value) c.loop-row.invariant.looked)
