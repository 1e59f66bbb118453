-- One mount, by its parts.
use Rattle.std.proofs.Common.{◌≡◌, refl, sym, subst}
use Rattle.mount.specs.declared.mount.Mount.{Mount}

pub same_mount : {V : Type 0} {K : Type 0} (old new : Mount V K) → new.opened ≡ old.opened → new.core ≡ old.core → new ≡ old
same_mount old new eo ec = subst (λ c. record new { core = c } ≡ old) (sym ec) (subst (λ o. record old { opened = o } ≡ old) (sym eo) refl)
