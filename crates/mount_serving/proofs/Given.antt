-- Known bytes that stay.
use Rattle.std.proofs.Common.{◌≡◌, ◌∙◌, List, ℕ, ◌++◌, ap, refl}
use Rattle.std.specs.declared.option.Option.{Option}
use Rattle.std.specs.declared.option.Option.TheVariants.{Some, None}
use Rattle.std.specs.Io.KnownBytes.{Appends, Keeps}

pub kept_same : (a : Option (List ℕ)) → Keeps a a
kept_same None = tt
kept_same (Some xs) = refl

pub kept_appends : (a b c : Option (List ℕ)) (bytes : List ℕ) → Keeps a b → Appends b c bytes → Appends a c bytes
kept_appends None b c bytes k e = tt
kept_appends (Some xs) None c bytes k e = absurd k
kept_appends (Some xs) (Some ys) None bytes k e = absurd e
kept_appends (Some xs) (Some ys) (Some zs) bytes k e = e ∙ ap (λ x. x ++ bytes) k
