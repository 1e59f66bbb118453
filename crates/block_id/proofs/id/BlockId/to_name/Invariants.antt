use Rattle.std.proofs.Common.{◌≡◌, ◌*◌, length, take}
use Rattle.block_id.specs.Name.{name_of}
use Rattle.block_id.proofs.id.BlockId.to_name.Given as goal

abbrev pub invariant-bytes : goal.invariant-bytes
invariant-bytes l = record {
  whole : length l.name ≡ 32;
  written : take (2 * l.i) l.name ≡ name_of (take l.i l.self.0);
}
