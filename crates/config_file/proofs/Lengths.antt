-- The length of what a sealed text opens to.
use Rattle.std.proofs.Common.{[], ◌≡◌, ℕ, ◌+◌, List, length, Option, Some, None, sym, arith, Vec, Global}
use Rattle.std.specs.Option.{IfSome, option_map}
use Rattle.aes_gcm.specs.Gcm.{opened_of}
use Rattle.aes_gcm.specs.Lengths.{length-opened_of}

pub length_opened : (o : Option (Vec ℕ Global)) (key sealed : List ℕ) → option_map {T = Vec ℕ Global} {U = List ℕ} (λ plain. plain.items) o ≡ opened_of key [] sealed
    → IfSome o (λ plain. length plain.items + 32 ≡ length sealed)
length_opened (Some plain) key sealed e = omega (arith, length-opened_of key [] sealed plain.items (sym e))
length_opened None key sealed e = tt
