use Rattle.std.proofs.Common.{inl, inr, List, ℕ, ap, sym, ◌∙◌}
use Rattle.std.specs.declared.option.Option.TheVariants.{Some}
use Rattle.std.proofs.lemmas.Result.{on_ok_weaker, on_err_weaker}
use Rattle.shared_keeper.specs.Shown.{shows, shown}
use Rattle.shared_keeper.proofs.Fronts.{shown_joined}
use Rattle.shared_keeper.proofs.shared.SharedKeeperKeeper.save.Goals as goal

pub returns-then-joins-clause-ok : goal.returns-then-joins-clause-ok
returns-then-joins-clause-ok g c = on_ok_weaker c.save.result
    (λ f takes. let kept = f (g.met.K.WholeKeeper.takes_all c.deref-then-joins.result.now) in
    (λ i. shows (kept i)) ∙ ap (λ (b : List ℕ). Some (shown b)) (c.deref-then-joins.ensures.value ∙ c.joins.ensures.joined c.if-joins.true)
    ∙ ap Some (shown_joined c.deref.result.now c.args.bytes.now (sym c.joins.ensures.may ∙ c.if-joins.true))) c.save.ensures.ok

pub returns-then-joins-clause-err : goal.returns-then-joins-clause-err
returns-then-joins-clause-err g c = on_err_weaker c.save.result
    (λ f takes. elim (f (g.met.K.WholeKeeper.takes_all c.deref-then-joins.result.now)) [
      | inl same ↦ inl ((λ i. shows (same i)) ∙ ap (λ s. shows (g.K.Keeper.kept s.keeper)) c.self.view_is)
      | inr kept ↦ inr ((λ i. shows (kept i)) ∙ ap (λ (b : List ℕ). Some (shown b)) (c.deref-then-joins.ensures.value ∙ c.joins.ensures.joined c.if-joins.true)
          ∙ ap Some (shown_joined c.deref.result.now c.args.bytes.now (sym c.joins.ensures.may ∙ c.if-joins.true)))
    ]) c.save.ensures.err
