use Rattle.std.proofs.Common.{◌≡◌}
use Rattle.aes_gcm.specs.Gcm.{padded}
use Rattle.aes_gcm.specs.Ghash.{hashed}
use Rattle.aes_gcm.proofs.hash_key.HashKey.absorb.Given as goal

abbrev pub invariant-turns : goal.invariant-turns
invariant-turns l = l.hash ≡ hashed l.self l.y (padded l.bytes) l.i
