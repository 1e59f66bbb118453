-- The edit of the two places that were found.
use Rattle.std.proofs.Common.{◌++◌, sym, ◌∙◌, ap, subst, drop}
use Rattle.dir_entries.specs.Layout.{entry_of, entry_text}
use Rattle.dir_entries.specs.Places.{IsPlace}
use Rattle.dir_entries.proofs.edit.renaming.Goals as goal

pub returns-clause-edits : goal.returns-clause-edits
returns-clause-edits c = λ listing target is present absent.
    let old = c.in-Some-Some.old in
    let new = c.in-Some-Some.new in
    let place = c.in-Some-Some.ensures.place listing is in
    let place2 = c.in-Some-Some.ensures'.place listing is in
    c.exchange.ensures.edits c.args.name.now (entry_of c.args.entry.now) listing target is
    (subst (λ o. IsPlace c.args.name.now listing old.front o (drop old.back c.args.body.now)) (sym place.finds ∙ present) place)
    (subst (λ o. IsPlace c.args.entry.now.name listing new.front o (drop new.back c.args.body.now)) (sym place2.finds ∙ absent) place2)
    c.in_ok-put_entry.ensures.types
    (c.in_ok-put_entry.ensures.text ∙ ap (λ z. z ++ entry_text (entry_of c.args.entry.now)) c.new-bytes.ensures.items)
