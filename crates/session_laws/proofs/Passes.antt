-- What a mount went through, from its first answer on.
use Rattle.std.proofs.Common.{◌≡◌, ℕ, false, List, [], ◌∷◌, sym, ap, subst}
use Rattle.std.specs.declared.option.Option.{Option}
use Rattle.outside.specs.Trace.{Call}
use Rattle.outside.specs.declared.keeper.Keeper.{Ghosts as KeeperGhosts}
use Rattle.run_frame.specs.answers.Hosts.{Ran}
use Rattle.run_frame.specs.answers.Sessions.{Exchange, RefusesAfterViolation}
use Rattle.run_frame.proofs.answers_lemmas.Running.{refusals}
use Rattle.mount.specs.mount_core.Showing.{Showing}
use Rattle.mount.specs.declared.mount.Mount.{Mount}
use Rattle.session_laws.specs.Answering.{mount_hosting}
use Rattle.session_laws.specs.Lawful.{mount_lawful}
use Rattle.session_laws.specs.Passing.{Passed}
use Rattle.session_laws.proofs.Joining.{passed_none, passed_on}

module _ {H : Type 0} {V : Type 0} {K : Type 0} (mount : H → Mount V K) (shows : Showing) (trace : V → Option (List Call)) (faults : V → ℕ) (G : KeeperGhosts K) where
  pub passed : (old new : H) (es : List Exchange) → (mount old).core.violated ≡ false → Ran (mount_hosting mount shows trace faults G) old es new
      → Passed shows trace faults G (mount old) (mount new) es
  passed old new [] fresh r = subst (λ (m : Mount V K). Passed shows trace faults G (mount old) m []) (sym (ap mount r)) (passed_none shows trace faults G (mount old) fresh)
  passed old new (e ∷ es) fresh r = passed_on shows trace faults G (mount old) (mount r.0) (mount new) e es (passed old r.0 es fresh r.1) r.2

  pub refusing : (old new : H) (es : List Exchange) → (mount old).core.violated ≡ false → Ran (mount_hosting mount shows trace faults G) old es new → RefusesAfterViolation es
  refusing old new es fresh r = refusals (mount_hosting mount shows trace faults G) (mount_lawful mount shows trace faults G) old es new r fresh
