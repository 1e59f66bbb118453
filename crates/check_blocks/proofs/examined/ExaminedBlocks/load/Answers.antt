use Rattle.std.proofs.Common.{refl}
use Rattle.check_blocks.proofs.Readying.{examined_call}
use Rattle.check_blocks.proofs.examined.ExaminedBlocks.load.Goals as goal

pub returns-clause-outcome : goal.returns-clause-outcome
returns-clause-outcome g c =
    examined_call g.V.Vault.trace g.V.Vault.faults g.K.Keeper _ _ (record { opened = refl; root = refl; violated = refl; saver = refl; overlay = refl; cached = c.load_below.ensures.cached }) c.requires
    c.load_below.ensures.outcome c.load_below.ensures.stays
