use Rattle.std.proofs.Common.{◌≡◌}
use Rattle.aes_gcm.specs.Ghash.{v_at, z_at}
use Rattle.format_tests.proofs.plain.times.Given as goal

abbrev pub invariant-bits : goal.invariant-bits
invariant-bits l = record { sum : l.z ≡ z_at l.x l.y l.i; factor : l.v ≡ v_at l.y l.i }
