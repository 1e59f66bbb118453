use Rattle.std.proofs.Common.{◌≡◌, ℕ, ◌*◌}
use Rattle.aes_gcm.specs.Ghash.{z_at}
use Rattle.aes_gcm.specs.Tables.{AreTables}
use Rattle.aes_gcm.proofs.hash_key.times_by.Given as goal

abbrev pub invariant-bytes : goal.invariant-bytes
invariant-bytes l = (h : ℕ) → AreTables h l.t → l.z ≡ z_at l.x h (8 * l.p)
