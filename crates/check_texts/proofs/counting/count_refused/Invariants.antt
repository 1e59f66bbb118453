-- those so far were counted
use Rattle.std.proofs.Common.{◌≡◌, ◌≤◌, map, take}
use Rattle.check_refused.specs.Surveys.{refusals, ungiven_of}
use Rattle.check_texts.proofs.counting.count_refused.Given as goal

abbrev pub invariant-loop-block : goal.invariant-loop-block
invariant-loop-block l = record {
  count : l.count ≡ refusals (map ungiven_of (take l.block-index l.ungiven));
  small : l.count ≤ l.block-index;
}
