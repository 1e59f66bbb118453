use Rattle.std.proofs.Common.{◌≡◌}
use Rattle.aes_gcm.specs.Ghash.{hashed}
use Rattle.format_tests.proofs.plain.ghash.Given as goal

abbrev pub invariant-turns : goal.invariant-turns
invariant-turns l = l.hash ≡ hashed l.subkey 0 l.bytes l.i
