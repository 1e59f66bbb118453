use Rattle.std.proofs.Common.{ℕ, List, ◌++◌, sym, ap, subst, ◌∙◌}
use Rattle.std.proofs.lemmas.List.Elements.{All-get_or}
use Rattle.outside.specs.declared.change.Pending.{Pending}
use Rattle.outside.specs.View.{pending_of, change_of}
use Rattle.local_state.specs.Record.{entry_bytes, FitsBytes}
use Rattle.local_state.proofs.Written.{written_all, written_more}
use Rattle.local_state.proofs.writing.put_list.Goals as goal

pub entries-preserved : goal.entries-preserved
entries-preserved c =
    let entry = c.entry-item.result in
    c.in_ok-put_entry.ensures ∙ ap (λ (out : List ℕ). out ++ entry_bytes (pending_of entry)) c.entries.invariant
    ∙ written_more entry_bytes pending_of _ c.args.list.now c.entries.entry-index entry c.entries-test.true c.entry-item.is

pub returns : goal.returns
returns c = c.entries.invariant ∙ written_all entry_bytes pending_of c.args.out.now.items c.args.list.now c.entries.entry-index c.entries-test.false

pub put_entry-requires : goal.put_entry-requires
put_entry-requires c =
    let entry = c.entry-item.result in
    subst (λ (p : Pending). FitsBytes (change_of p.change)) (sym c.entry-item.is) (All-get_or (λ p. FitsBytes (change_of p.change)) c.args.list.now c.entries.entry-index entry c.entries-test.true c.requires)
