use Rattle.aes_gcm.proofs.Product.{zero_tables}
use Rattle.aes_gcm.proofs.hash_key.HashKey.zero.Goals as goal

pub invariant_of-result : goal.invariant_of-result
invariant_of-result c = zero_tables
