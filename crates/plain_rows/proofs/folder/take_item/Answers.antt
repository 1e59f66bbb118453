use Rattle.std.proofs.Common.{◌≡◌, ◌<◌, ◌-◌, length, ◌∙◌, ap, arith}
use Rattle.std.specs.Prelude.{vec_len}
use Rattle.std.proofs.lemmas.Bool.Decides.{nat_tests}
use Rattle.fs_model.specs.Tree.{entry_size}
use Rattle.plain_rows.specs.declared.rows.Folder.{Folder}
use Rattle.plain_rows.proofs.ItemLemmas.{item_fewer, item_fewer_full, no_items}
use Rattle.plain_rows.proofs.folder.take_item.Goals as goal

pub returns-clause-full : goal.returns-clause-full
returns-clause-full c = λ e.
    let f = c.args.folder.now in
    let v = c.remove-item.new.self in
    let g : Folder = record { path = f.path; items = v; size = f.size - c.name_size.result } in
    let some : 0 < vec_len v = grind (arith, nat_tests, e, c.is_empty-none.ensures) in
    let more : 0 < length v.items = omega (arith, v.ok) in
    item_fewer_full f g c.requires.full c.args.i c.remove-item.result c.requires.in_range c.remove-item.ensures.value c.remove-item.ensures.items
    (ap (λ k. f.size - k) (c.name_size.ensures.value ∙ ap (λ z. entry_size z.name) c.deref.ensures)) more

pub returns-clause-none : goal.returns-clause-none
returns-clause-none c = λ e.
    let f = c.args.folder.now in
    let v = c.remove-item.new.self in
    let g : Folder = record { path = f.path; items = v; size = f.size - c.name_size.result } in
    let zero : vec_len v ≡ 0 = grind (arith, nat_tests, e, c.is_empty-none.ensures) in
    let none : length v.items ≡ 0 = omega (arith, v.ok) in
    no_items g none

pub returns-clause-fewer : goal.returns-clause-fewer
returns-clause-fewer c =
    let f = c.args.folder.now in
    let g : Folder = record { path = f.path; items = c.remove-item.new.self; size = f.size - c.name_size.result } in
    item_fewer f g c.requires.full c.args.i c.remove-item.result c.requires.in_range c.remove-item.ensures.value c.remove-item.ensures.items
