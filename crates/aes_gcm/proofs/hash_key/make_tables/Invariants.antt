use Rattle.std.proofs.Common.{◌≡◌, ℕ, ◌<◌, ◌*◌, [], length, slice_index, slice_index_or}
use Rattle.aes_gcm.specs.Ghash.{v_at}
use Rattle.aes_gcm.specs.Tables.{entry}
use Rattle.aes_gcm.proofs.hash_key.make_tables.Given as goal

abbrev pub invariant-rows : goal.invariant-rows
invariant-rows l = record {
  whole : length l.t ≡ 32;
  factor : l.v ≡ v_at l.h (4 * l.p);
  made : (q b : ℕ) → q < l.p → b < 16 → slice_index (slice_index_or l.t q []) b ≡ entry (v_at l.h (4 * q)) b;
}
