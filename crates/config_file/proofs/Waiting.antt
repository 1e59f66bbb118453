-- What has its form may wait to be written.
use Rattle.std.proofs.Common.{◌≡◌, ℕ, List, take, arith, ◌∙◌, ap}
use Rattle.std.proofs.lemmas.Slice.Eq.{bytes_eq-Decides}
use Rattle.std.proofs.lemmas.List.{take-take}
use Rattle.config_file.specs.Format.{HasForm, MayWait, outer_front}

pub form_waits : (bytes : List ℕ) → HasForm bytes → MayWait bytes
form_waits bytes form = (
  omega (arith, form.size),
  λ is.
      let front : outer_front ≡ take 22 bytes = (bytes_eq-Decides outer_front (take 22 bytes)).0 form.front in
      let begun : take 14 outer_front ≡ take 14 bytes = ap (take 14) front ∙ take-take 14 22 bytes (omega arith) in
      absurd (cc (begun ∙ is)),
)
