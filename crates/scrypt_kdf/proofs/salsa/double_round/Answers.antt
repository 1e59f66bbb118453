use Rattle.std.proofs.Common.{ℕ, List, sym, ap}
use Rattle.scrypt_kdf.specs.Rows.{diagonals}
use Rattle.scrypt_kdf.specs.Salsa.{double_round}
use Rattle.scrypt_kdf.proofs.Sixteen.{sixteen}
use Rattle.scrypt_kdf.proofs.salsa.double_round.Goals as goal

pub returns : goal.returns
unfolding double_round
returns c = λ w long same.
    rw (
      c.turned_1.ensures,
      c.turned_2.ensures,
      c.turned_3.ensures,
      c.mixed-a-2.ensures,
      c.mixed-b-2.ensures,
      c.mixed-c-2.ensures,
      c.mixed-d-2.ensures,
      c.turned_3-b.ensures,
      c.turned_2-c.ensures,
      c.turned_1-d.ensures,
      c.mixed-a.ensures,
      c.mixed-d.ensures,
      c.mixed-c.ensures,
      c.mixed-b.ensures,
      same,
    )
    (sym (ap (λ (x : List ℕ). diagonals (double_round x)) (sixteen w long)))
