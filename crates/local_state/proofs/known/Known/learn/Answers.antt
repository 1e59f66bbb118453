use Rattle.std.proofs.Common.{◌≡◌, sym, subst, Result, Ok, Err}
use Rattle.std.specs.Prelude.{OnOk, OnErr}
use Rattle.block_id.specs.declared.fail.Memory.{Memory}
use Rattle.local_state.specs.Known.{Lives, FitLives}
use Rattle.local_state.proofs.Fitting.{fit_set}
use Rattle.local_state.proofs.known.Known.learn.Goals as goal

either : (old set new : Lives) (r : Result (Unit {0}) Memory) → OnOk r (new ≡ set) → OnErr r (new ≡ old) → FitLives old → FitLives set → FitLives new
either old set new (Ok u) ok err f g = subst (λ (m : Lives). FitLives m) (sym ok) g
either old set new (Err e) ok err f g = subst (λ (m : Lives). FitLives m) (sym err) f

pub invariant_of-self : goal.invariant_of-self
invariant_of-self c = either _ _ _ c.put_life.result c.put_life.ensures.ok c.put_life.ensures.err c.self.invariant (fit_set _ c.args.id.now.0 c.args.life c.requires c.self.invariant)
