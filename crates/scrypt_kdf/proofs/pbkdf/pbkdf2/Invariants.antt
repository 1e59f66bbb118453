use Rattle.std.proofs.Common.{◌≡◌, ◌*◌, take}
use Rattle.scrypt_kdf.specs.Pbkdf2.{blocks}
use Rattle.scrypt_kdf.proofs.pbkdf.pbkdf2.Given as goal

-- the parts so far are the first blocks, cut to the length
abbrev pub invariant-loop-i : goal.invariant-loop-i
invariant-loop-i l = take (32 * l.i) l.out ≡ take l.len (blocks l.password l.salt l.i)
