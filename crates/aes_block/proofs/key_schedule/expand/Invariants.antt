use Rattle.std.proofs.Common.{◌≡◌, ◌+◌, ◌*◌, ◌/◌, length, take}
use Rattle.aes_block.specs.KeyExpansion.{key_words, x_power}
use Rattle.aes_block.proofs.key_schedule.expand.Given as goal

abbrev pub invariant-words : goal.invariant-words
invariant-words g l = record {
  whole : length l.k ≡ 240;
  power : l.power ≡ x_power ((l.n + 7) / 8);
  written : take (4 * (l.n + 8)) l.k ≡ key_words l.key l.n;
}
