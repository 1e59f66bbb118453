use Rattle.std.proofs.Common.{length, drop, arith, ap, sym, subst, ◌∙◌}
use Rattle.std.proofs.lemmas.List.{length_push}
use Rattle.std.proofs.lemmas.Iterator.Consumers.{YieldsList-turn}
use Rattle.std.proofs.lemmas.Iterator.Adapters.{YieldsList-from_vec}
use Rattle.outside.specs.Changes.{IsIncreasing, set_changes}
use Rattle.outside.specs.ChangeLaws.{IsIncreasing-set_change}
use Rattle.outside.specs.View.{at_of, change_of, list_of}
use Rattle.redo_vault.proofs.Lists.{set_more}
use Rattle.redo_vault.proofs.redo_vault.set_all.Goals as goal

pub loop-change-preserved : goal.loop-change-preserved
loop-change-preserved c =
    let start = c.into_iter-change-iterator.ensures.into_iter_gives in
    let turn = YieldsList-turn (YieldsList-from_vec {s = c.into_iter-change-iterator.result} c.args.changes.items start.0 (omega (arith, start.1, c.args.changes.ok.0))) c.loop-change.yielded c.loop-change.change-iterator c.loop-change.yielded_by c.next.result c.next.new.self c.in-Some.change c.in-Some.is c.next.ensures.steps in
    let more = length_push c.loop-change.yielded c.in-Some.change in
    record {
      set = ap (λ n. set_changes (drop n (list_of c.args.changes.items)) (list_of c.set_one-now.new.list.items)) more
          ∙ set_more c.args.changes.items (length c.loop-change.yielded) c.in-Some.change (list_of c.loop-change.list.items) (list_of c.set_one-now.new.list.items) (set_changes (list_of c.args.changes.items) (list_of c.args.list.now.items))
          turn.0 turn.1 c.loop-change.invariant.set c.set_one-now.ensures.items;
      increasing = subst IsIncreasing (sym c.set_one-now.ensures.items) (IsIncreasing-set_change (at_of c.in-Some.change.name) (change_of c.in-Some.change.change) (list_of c.loop-change.list.items) c.loop-change.invariant.increasing);
      sums = c.set_one-now.ensures.sums;
      room = omega (arith, more, turn.0, c.loop-change.invariant.room, c.set_one-now.ensures.len, c.set_one-now.ensures.capacity);
    }
