use Rattle.std.proofs.Common.{◌≡◌, ℕ, ◌+◌, ◌<◌, List, [], ◌∷◌, ◌++◌, length, get_or, take, map, sym, ap, ◌∙◌}
use Rattle.std.specs.Global.{Box}
use Rattle.std.proofs.lemmas.List.{take_more, map-append}
use Rattle.fs_model.specs.Step.{list_row}
use Rattle.fs_model.specs.declared.attr.Kind.{Kind}
use Rattle.fs_model.specs.declared.reply.ListRow.{ListRow}
use Rattle.plain_rows.specs.declared.rows.Item.{Item}
use Rattle.plain_rows.specs.Rows.{item_entry}
use Rattle.plain_rows.proofs.read.list_items.Goals as goal

abbrev listed : Kind → List ℕ → ListRow
listed kind name = record { kind = kind; name = name }

-- one row more
listed_more : (items : List (Box Item)) (i : ℕ) (x : Box Item) (rows : List ListRow) (row : ListRow) → i < length items → x ≡ get_or items i x → row ≡ list_row (item_entry x)
    → rows ≡ map list_row (map item_entry (take i items)) → rows ++ row ∷ [] ≡ map list_row (map item_entry (take (i + 1) items))
listed_more items i x rows row within at is so_far =
    let before = take i items in
    ap (λ rs. rs ++ row ∷ []) so_far ∙ ap (λ r. map list_row (map item_entry before) ++ r ∷ []) is
    ∙ sym (ap (λ xs. map list_row (map item_entry xs)) (take_more items i x within ∙ ap (λ y. before ++ y ∷ []) (sym at))
    ∙ (ap (map list_row) (map-append item_entry before (x ∷ [])) ∙ map-append list_row (map item_entry before) (item_entry x ∷ [])))

pub loop-item-preserved : goal.loop-item-preserved
loop-item-preserved c =
    let x = c.item-item.result in
    let kind = c.deref-in-loop-item.result.now.attr.kind in
    c.in_ok-push.ensures.items
    ∙ listed_more c.args.items.now c.loop-item.item-index x c.loop-item.rows.items (listed kind c.in_ok-name.name) c.loop-item-test.true c.item-item.is
    (ap (listed kind) (c.in_ok-name.ensures ∙ ap (λ z. z.name) c.deref.ensures) ∙ ap (λ z. listed z.attr.kind x.value.name) c.deref-in-loop-item.ensures) c.loop-item.invariant
