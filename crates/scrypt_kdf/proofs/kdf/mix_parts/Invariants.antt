use Rattle.std.proofs.Common.{◌≡◌, ◌*◌, take, drop}
use Rattle.scrypt_kdf.specs.Scrypt.{joined, part, ro_mix}
use Rattle.scrypt_kdf.proofs.kdf.mix_parts.Given as goal

abbrev pub invariant-loop-i : goal.invariant-loop-i
invariant-loop-i l = record {
  done : take (l.len * l.i) l.b ≡ joined (λ i. ro_mix l.r (part l.len l.fn.b i) l.n) l.i;
  left : drop (l.len * l.i) l.b ≡ drop (l.len * l.i) l.fn.b;
}
