use Rattle.std.proofs.Common.{◌∙◌, subst, arith}
use Rattle.std.proofs.lemmas.Result.{err_from_is_err_and}
use Rattle.std.proofs.lemmas.List.{take_all}
use Rattle.dir_blob.specs.store_outcome.Outcome.{then_, passed, answered}
use Rattle.fs_model.specs.Tree.{upward}
use Rattle.path_walks.specs.Sights.{SpotIs}
use Rattle.path_walks.proofs.Steps.{names_on, walking}
use Rattle.path_walks.proofs.walks.walk.Goals as goal

pub returns-in_err-spot-clause-outcome : goal.returns-in_err-spot-clause-outcome
returns-in_err-spot-clause-outcome g c =
    let p = err_from_is_err_and c.from_residual.result c.from_residual.ensures.1 in
    rw (p.1, p.2) (passed (then_ g.met.B.Blobs.lawful c.loop-name.invariant.outcome (λ n h. walking n _ h.0 h.1) c.in_err-spot.ensures.outcome (λ n h y k. k)))

pub loop-name-preserved : goal.loop-name-preserved
loop-name-preserved g c = record {
  outcome = then_ g.met.B.Blobs.lawful c.loop-name.invariant.outcome (λ n h. walking n _ h.0 h.1) c.in_ok-spot.ensures.outcome
      (λ n h y k. (k.0, subst (λ p. SpotIs n.tree n.ids p y) (names_on c.args.names.now c.loop-name.name-index c.name-item.result c.loop-name-test.true c.name-item.is) k.1));
  mode = c.in_ok-spot.ensures.mode c.loop-name.invariant.mode;
  unchanged = c.in_ok-spot.ensures.unchanged ∙ c.loop-name.invariant.unchanged;
}

pub returns-clause-outcome : goal.returns-clause-outcome
returns-clause-outcome g c = answered c.loop-name.invariant.outcome (λ n h. (h.0, subst (λ ns. SpotIs n.tree n.ids (upward ns) c.loop-name.spot) (take_all c.loop-name.name-index c.args.names.now (omega arith)) h.1))
