use Rattle.std.proofs.Common.{◌+◌, ◌++◌, length, drop, sym, ◌∙◌, ap, subst, arith}
use Rattle.std.proofs.lemmas.List.{length_push}
use Rattle.std.proofs.lemmas.Iterator.Consumers.{YieldsList-turn}
use Rattle.std.proofs.lemmas.Iterator.Adapters.{YieldsList-from_vec}
use Rattle.outside.specs.Changes.{IsIncreasing, set_changes}
use Rattle.outside.specs.ChangeLaws.{IsIncreasing-drop}
use Rattle.outside.specs.View.{change_of, list_of}
use Rattle.pending_list.proofs.Lists.{item_here}
use Rattle.pending_list.proofs.Merges.{pushed}
use Rattle.pending_list.proofs.merging.merge_all.Goals as goal

pub loop-change-preserved : goal.loop-change-preserved
loop-change-preserved c =
    let start = c.into_iter-change-iterator.ensures.into_iter_gives in
    let turn = YieldsList-turn (YieldsList-from_vec {s = c.into_iter-change-iterator.result} c.args.changes.items start.0 (omega (arith, start.1, c.args.changes.ok.0))) c.loop-change.yielded c.loop-change.change-iterator c.loop-change.yielded_by c.next.result c.next.new.self c.in-Some.change c.in-Some.is c.next.ensures.steps in
    let k = length c.loop-change.yielded in
    let all = list_of c.args.changes.items in
    let more = length_push c.loop-change.yielded c.in-Some.change in
    let here = item_here c.args.changes.items k c.in-Some.change turn.0 turn.1 in
    let passed = c.pass_lower.ensures.passed (change_of c.in-Some.change.change) (drop (k + 1) all) (subst IsIncreasing here (IsIncreasing-drop k all c.requires.increasing)) in
    record {
      merged = ap (λ n. list_of c.push_reserved.new.self.items ++ set_changes (drop n all) (list_of c.pass_lower.new.rest.items)) more
          ∙ pushed c.pass_lower.new.merged.items c.push_reserved.new.self.items c.in-Some.change c.push_reserved.ensures.items (set_changes (drop (k + 1) all) (list_of c.pass_lower.new.rest.items))
          ∙ passed
          ∙ ap (λ xs. list_of c.loop-change.merged.items ++ set_changes xs (list_of c.loop-change.rest.items)) (sym here)
          ∙ c.loop-change.invariant.merged;
      len = omega (arith, more, turn.0, c.loop-change.invariant.len, c.pass_lower.ensures.len, c.push_reserved.ensures.len);
      capacity = c.push_reserved.ensures.capacity ∙ c.pass_lower.ensures.capacity ∙ c.loop-change.invariant.capacity;
    }
