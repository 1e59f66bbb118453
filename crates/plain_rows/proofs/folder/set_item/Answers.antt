use Rattle.std.proofs.Common.{refl, ◌∙◌, ap}
use Rattle.plain_rows.proofs.ItemLemmas.{item_set, item_set_full}
use Rattle.plain_rows.proofs.folder.set_item.Goals as goal

pub returns-clause-full : goal.returns-clause-full
returns-clause-full c =
    let x = c.index_mut-item.result.now in
    item_set_full c.args.folder.now _ c.requires.full c.args.i x _ c.requires.in_range c.index_mut-item.ensures.value (ap (λ z. z.name) (c.deref_mut-2.ensures.value ∙ ap (λ z. record { name = z.name; attr = c.args.attr; bytes = z.bytes }) c.deref_mut.ensures.value)) refl refl

pub returns-clause-set : goal.returns-clause-set
returns-clause-set c = λ d.
    let x = c.index_mut-item.result.now in
    item_set c.args.folder.now c.args.folder.now c.requires.full c.args.i x d _ (record { attr = c.args.attr; bytes = c.args.bytes.items }) c.requires.in_range c.index_mut-item.ensures.value (ap (λ z. z.name) (c.deref_mut-2.ensures.value ∙ ap (λ z. record { name = z.name; attr = c.args.attr; bytes = z.bytes }) c.deref_mut.ensures.value))
    (ap (λ z. record { attr = z.attr; bytes = c.replace.new.dest.items }) c.deref_mut-2.ensures.value ∙ ap (λ z. record { attr = c.args.attr; bytes = z.items }) c.replace.ensures.after)
