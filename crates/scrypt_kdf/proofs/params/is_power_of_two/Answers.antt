use Rattle.std.proofs.Common.{◌∙◌, sym}
use Rattle.std.proofs.lemmas.Bool.{eq-eqb, eqb-true}
use Rattle.std.specs.Int.RustNames.{count_ones}
use Rattle.scrypt_kdf.proofs.Powers.{ones-pow, power_from_ones}
use Rattle.scrypt_kdf.proofs.params.is_power_of_two.Goals as goal

pub returns : goal.returns
returns c =
    let n = c.args.n in (
      λ yes. power_from_ones 64 n c.ranges.n.fits (eqb-true (count_ones n) 1 (sym c.is_power_of_two.ensures ∙ yes)),
      λ power. c.is_power_of_two.ensures
          ∙ eq-eqb (count_ones n) 1 (rw power.1 (ones-pow power.0)),
    )
