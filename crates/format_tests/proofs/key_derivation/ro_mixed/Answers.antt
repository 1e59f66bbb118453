use Rattle.std.proofs.Common.{refl}
use Rattle.format_tests.proofs.key_derivation.ro_mixed.Goals as goal

pub ro_mix-requires-clause-power : goal.ro_mix-requires-clause-power
ro_mix-requires-clause-power c = (4, refl)
