-- A call with words that are equal to its own.
use Rattle.std.proofs.Common.{◌≡◌, ℕ, List, subst}
use Rattle.std.specs.declared.option.Option.{Option}
use Rattle.outside.specs.Trace.{Call}
use Rattle.outside.specs.declared.keeper.Keeper.{Ghosts as KeeperGhosts}
use Rattle.program_run.specs.Calls.{RunCall, IsRunCall}

pub carried : {V : Type 0} {K : Type 0} (trace : V → Option (List Call)) (faults : V → ℕ) (names : V → Option (List (List ℕ))) (G : KeeperGhosts K) (call : RunCall) (words : List (List ℕ)) → call.words ≡ words
    → IsRunCall trace faults names G call → IsRunCall trace faults names G (record call { words = words })
carried trace faults names G call words is h = subst (λ (ws : List (List ℕ)). IsRunCall trace faults names G (record call { words = ws })) is h
