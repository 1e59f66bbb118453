-- What applying a batch of changes leaves: a store before, b after.
use Rattle.std.specs.Prelude.{◌≡◌}
use Rattle.std.specs.FinMap as fin
use Rattle.store_outcome.specs.Meanings.{Meanings}
use Rattle.rand_core.specs.Stream.{Stream}
use Rattle.store_api.specs.Content.{Changes}
use Rattle.store_api.specs.Draws.{IsLater}
use Rattle.store_api.specs.Holdings.{Holdings, Changed}

-- the changes were made, and so much was drawn
pub record Applies {S : Type 0} (M : Meanings S) (H : Holdings S) (applied : S → S → Changes → Type 0) (drawn : S → S → Changes → Stream → Stream → Type 0) (a b : S) (changes : Changes) (stream left : Stream) : Type 0 where
  pub changed : Changed M H a b changes
  pub makes : applied a b changes
  pub draws : drawn a b changes stream left

-- none was made, and some fills may have been taken
pub record AppliesNone {S : Type 0} (M : Meanings S) (applied : S → S → Changes → Type 0) (a b : S) (stream left : Stream) : Type 0 where
  pub nothing : applied a b fin.empty
  pub loaded : M.loaded a b
  pub sound : M.sound a → M.sound b
  pub later : IsLater stream left

-- the outside wasn't called
pub record KeepsCounts {S : Type 0} (M : Meanings S) (a b : S) : Type 0 where
  pub forgeries : M.forgeries b ≡ M.forgeries a
  pub lies : M.lies b ≡ M.lies a
  pub faults : M.faults b ≡ M.faults a
