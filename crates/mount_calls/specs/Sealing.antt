-- Where each block's file comes from that waits, or is put, while blocks are written anew, and what of that the records say: old before, new after.
use Rattle.std.specs.Prelude.{◌≡◌, ◌⊎◌, ℕ, false, List}
use Rattle.std.specs.declared.option.Option.{Option}
use Rattle.std.specs.declared.option.Option.TheVariants.{Some}
use Rattle.mount_opening.specs.answers.Sessions.{is_violation}
use Rattle.mount_opening.specs.answers.declared.answer.Answer.{Answer}
use Rattle.mount.specs.declared.mount.Mount.{Mount}
use Rattle.mount.specs.Answering.{kept_of}
use Rattle.mount.specs.Sealing.{Draw, HoldsSealed, SealsKnown, View, view_of}
use Rattle.outside.specs.Trace.{Call}
use Rattle.outside.specs.declared.keeper.Keeper.{Ghosts as KeeperGhosts}
use Rattle.rand_core.specs.Stream.{Stream}
use Rattle.mount_opening.specs.store_api.Durables.{with_mark}

-- it is what it was, or such a record
abbrev pub StaysOrSealed : List Draw → View → Option (List ℕ) → Option (List ℕ) → Type 0
StaysOrSealed drawn before old new = (new ≡ old) ⊎ HoldsSealed drawn before new

-- Each block's file that waits, that was put since, or that waits in the records waited before, or was sealed since with a fill of this stream that served nothing else, and
-- under an id that was known before.
pub record SealsAnew {V : Type 0} {K : Type 0} (trace : V → Option (List Call)) (G : KeeperGhosts K) (stream left : Stream) (old : Mount V K) (answer : Answer) (new : Mount V K) : Type 0 where
  pub seals : SealsKnown stream left (view_of trace old) (view_of trace new)
  -- what is kept may also be the last record with its mark
  pub kept : (kept_of G new ≡ Some (with_mark old.core.saver.last.items)) ⊎ StaysOrSealed seals.fresh.drawn (view_of trace old) (kept_of G old) (kept_of G new)
  pub last : is_violation answer ≡ false → StaysOrSealed seals.fresh.drawn (view_of trace old) (Some old.core.saver.last.items) (Some new.core.saver.last.items)
