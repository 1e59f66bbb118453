-- What the fitting of a command says of its parts.
use Rattle.std.proofs.Common.{◌≤◌, ℕ, List}
use Rattle.std.specs.Prelude.{IsTrue}
use Rattle.std.proofs.lemmas.Bool.{leb-true}
use Rattle.fs_model.specs.declared.command.Command.TheVariants.{Symlink, Chmod}
use Rattle.fs_model.specs.declared.limits.TheConstants.{MAX_MODE}
use Rattle.fs_model.specs.Fitting.{IsFitting, is_target}

pub target_fits : (target : List ℕ) (p : List (List ℕ)) → IsFitting (Symlink target p) → IsTrue (is_target target)
target_fits target p fits = fits

pub mode_fits_command : (p : List (List ℕ)) (mode : ℕ) → IsFitting (Chmod p mode) → mode ≤ MAX_MODE
mode_fits_command p mode fits = leb-true mode MAX_MODE fits
