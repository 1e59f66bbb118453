-- A file that was found, and its new content.
use Rattle.std.proofs.Common.{◌≡◌, ℕ, true, false, List, [], ◌∷◌, length, refl}
use Rattle.std.specs.Prelude.{◌==◌}
use Rattle.block_id.specs.Contents.{overwritten, written}

-- some bytes overwrite
pub written_some : (old : List ℕ) (from : ℕ) (new : List ℕ) → (length new == 0) ≡ false → written old from new ≡ overwritten old from new
written_some old from [] e = let bad : true ≡ false = e in cc
written_some old from (x ∷ new) e = refl
