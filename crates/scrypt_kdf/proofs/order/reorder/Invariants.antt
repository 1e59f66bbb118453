use Rattle.std.proofs.Common.{◌≡◌, ℕ, ◌<◌, get_or}
use Rattle.scrypt_kdf.specs.Order.{source}
use Rattle.scrypt_kdf.proofs.order.reorder.Given as goal

abbrev pub invariant-loop-k : goal.invariant-loop-k
invariant-loop-k l = (i : ℕ) → i < l.k → get_or l.x i 0 ≡ get_or l.t (source l.step i) 0
