use Rattle.std.proofs.Common.{◌≡◌, true, sym, ◌∙◌}
use Rattle.std.specs.Option.{option_map}
use Rattle.outside.specs.View.{at_of}
use Rattle.local_state.specs.Record.{comes_after}
use Rattle.shared_records.proofs.Lists.{entries_go_on, may_ahead, says_next}
use Rattle.shared_records.proofs.entries.entries_past.Goals as goal

pub entries-preserved : goal.entries-preserved
entries-preserved c =
    let comes : comes_after (option_map at_of c.entries.previous) (at_of c.in_ok-name.name) ≡ true = sym c.comes_after.ensures ∙ c.if-not-comes_after.false in
    let ahead = c.entries.invariant.ahead in
    let may = sym (may_ahead _ (option_map at_of c.entries.previous) (at_of c.in_ok-name.name) c.in_ok-has_bytes.has_bytes _ _ _ comes ahead) ∙ sym c.may_stand-may.ensures.may ∙ c.if-not-may.false in
    record {
      reads = entries_go_on _ c.args.count c.entries.counter (option_map at_of c.entries.previous) c.entries.rest.now (at_of c.in_ok-name.name) c.in_ok-name.after.now c.in_ok-has_bytes.has_bytes c.in_ok-has_bytes.after.now _ c.entries-test.true (sym c.in_ok-name.ensures) (sym c.in_ok-has_bytes.ensures) comes may c.entries.invariant.reads;
      ahead = says_next _ (option_map at_of c.entries.previous) (at_of c.in_ok-name.name) _ _ _ _ _ _ comes ahead c.may_stand-may.ensures.rows c.may_stand-may.ensures.later;
    }
