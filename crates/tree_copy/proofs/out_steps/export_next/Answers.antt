use Rattle.std.proofs.Common.{◌≡◌, inl, inr, ◌∷◌, length, ◌∙◌, refl, sym, ap, subst, append-nil, arith}
use Rattle.tree_copy.specs.Exports.{IsOutAt}
use Rattle.tree_copy.specs.Levels.{todo_of, HasTargets, NextIs}
use Rattle.tree_copy.proofs.Stack.{step_on, todo_spent, todo_taken, taken_to, taken_target, targets_front, targets_last, targets_push}
use Rattle.tree_copy.proofs.Stepping.{out_memory}
use Rattle.tree_copy.proofs.Turning.{nothing}
use Rattle.tree_copy.proofs.out_steps.export_next.Goals as goal

pub returns-in-None-clause-ready : goal.returns-in-None-clause-ready
returns-in-None-clause-ready g c = c.requires.ready

pub returns-in-None-clause-host : goal.returns-in-None-clause-host
returns-in-None-clause-host g c = refl

pub returns-in-None-clause-stops : goal.returns-in-None-clause-stops
returns-in-None-clause-stops g c = refl

pub returns-in-Ok-None-clause-ready : goal.returns-in-Ok-None-clause-ready
returns-in-Ok-None-clause-ready g c = c.requires.ready

pub returns-in-Ok-None-clause-host : goal.returns-in-Ok-None-clause-host
returns-in-Ok-None-clause-host g c = refl

pub returns-in-Ok-None-clause-stops : goal.returns-in-Ok-None-clause-stops
returns-in-Ok-None-clause-stops g c = refl

pub returns-in-Err-clause-ready : goal.returns-in-Err-clause-ready
returns-in-Err-clause-ready g c = c.requires.ready

pub returns-in-Err-clause-host : goal.returns-in-Err-clause-host
returns-in-Err-clause-host g c = refl

pub returns-in-Err-clause-stops : goal.returns-in-Err-clause-stops
returns-in-Err-clause-stops g c = refl

pub returns-in-Err-push-clause-ready : goal.returns-in-Err-push-clause-ready
returns-in-Err-push-clause-ready g c = c.requires.ready

pub returns-in-Err-push-clause-host : goal.returns-in-Err-push-clause-host
returns-in-Err-push-clause-host g c = refl

pub returns-in-Err-push-clause-stops : goal.returns-in-Err-push-clause-stops
returns-in-Err-push-clause-stops g c = refl

pub returns-in-None-clause-steps : goal.returns-in-None-clause-steps
returns-in-None-clause-steps g c =
    let same = c.in-None.ensures.items ∙ append-nil c.pop.new.self.items in
    let none : length c.pop.new.self.items ≡ 0 = omega (arith, c.in-None.ensures.cases.1, c.pop.new.self.ok) in
    ((λ a before q targets x. (subst (λ z. IsOutAt g.A.Asker.asking a c.args.asker.now before (g.F.Folder.tree c.args.host.now) q (todo_of z) c.args.totals.now) same x, subst (HasTargets q) same targets)), nothing c.pop.new.self.items none)

pub returns-in-Ok-None-clause-steps : goal.returns-in-Ok-None-clause-steps
returns-in-Ok-None-clause-steps g c =
    let same = c.in-Some.ensures.items in
    let spent = subst (NextIs c.in-Some.level c.next_row.new.level) c.in-Ok-None.field-0-is c.in-Ok-None.ensures in (
      (λ a before q targets x. (
        subst (λ z. IsOutAt g.A.Asker.asking a c.args.asker.now before (g.F.Folder.tree c.args.host.now) q z c.args.totals.now) (ap todo_of same ∙ todo_spent c.pop.new.self.items c.in-Some.level spent) x,
        targets_front q c.pop.new.self.items c.in-Some.level (subst (HasTargets q) same targets),
      )),
      inl (record { level = c.in-Some.level; are = same; spent = spent }),
    )

pub returns-in-Err-clause-steps : goal.returns-in-Err-clause-steps
returns-in-Err-clause-steps g c = ((λ a before q targets x. out_memory g.A.Asker.asking a c.args.asker.now before (g.F.Folder.tree c.args.host.now) q (todo_of c.args.levels.now.items) c.args.totals.now x), tt)

pub returns-in-Err-push-clause-steps : goal.returns-in-Err-push-clause-steps
returns-in-Err-push-clause-steps g c = ((λ a before q targets x. out_memory g.A.Asker.asking a c.args.asker.now before (g.F.Folder.tree c.args.host.now) q (todo_of c.args.levels.now.items) c.args.totals.now x), tt)

pub export_at-requires : goal.export_at-requires
export_at-requires g c = record { ready = c.requires.ready }

pub returns-clause-ready : goal.returns-clause-ready
returns-clause-ready g c = c.in-Ok-export_at.ensures.ready

pub returns-clause-host : goal.returns-clause-host
returns-clause-host g c = c.in-Ok-export_at.ensures.host

pub returns-clause-stops : goal.returns-clause-stops
returns-clause-stops g c = c.in-Ok-export_at.ensures.stops

pub returns-clause-steps : goal.returns-clause-steps
returns-clause-steps g c = (
  (λ a before q targets x.
      let old = subst (HasTargets q) c.in-Some.ensures.items targets in
      let own = targets_last q c.pop.new.self.items c.in-Some.level old in
      let levels = subst (HasTargets q) (sym c.in-Ok.ensures.items) (targets_push q c.pop.new.self.items c.next_row.new.level (targets_front q c.pop.new.self.items c.in-Some.level old) (taken_target q c.in-Some.level c.next_row.new.level c.in-Ok-Some.at (subst (NextIs c.in-Some.level c.next_row.new.level) c.in-Ok-Some.field-0-is c.in-Ok-Some.ensures) own)) in
      c.in-Ok-export_at.ensures.steps a before q (taken_to q c.in-Some.level c.next_row.new.level c.in-Ok-Some.at (subst (NextIs c.in-Some.level c.next_row.new.level) c.in-Ok-Some.field-0-is c.in-Ok-Some.ensures) own) levels (subst (λ z. IsOutAt g.A.Asker.asking a c.args.asker.now before (g.F.Folder.tree c.args.host.now) q z c.args.totals.now) (ap todo_of c.in-Some.ensures.items ∙ (todo_taken c.pop.new.self.items c.in-Some.level c.next_row.new.level c.in-Ok-Some.at (subst (NextIs c.in-Some.level c.next_row.new.level) c.in-Ok-Some.field-0-is c.in-Ok-Some.ensures) ∙ ap (λ z. (c.in-Ok-Some.at.host, c.in-Ok-Some.at.kind) ∷ todo_of z) (sym c.in-Ok.ensures.items))) x)),
  inr (step_on c.pop.new.self.items c.args.levels.now.items c.push.new.self.items c.export_at.new.levels.items c.in-Some.level c.next_row.new.level c.in-Ok-Some.at c.in-Some.ensures.items c.in-Ok.ensures.items (subst (NextIs c.in-Some.level c.next_row.new.level) c.in-Ok-Some.field-0-is c.in-Ok-Some.ensures) c.in-Ok-export_at.ensures.levels),
)

pub returns-in-Err-export_at-clause-ready : goal.returns-in-Err-export_at-clause-ready
returns-in-Err-export_at-clause-ready g c = c.in-Err-export_at.ensures.ready

pub returns-in-Err-export_at-clause-host : goal.returns-in-Err-export_at-clause-host
returns-in-Err-export_at-clause-host g c = c.in-Err-export_at.ensures.host

pub returns-in-Err-export_at-clause-stops : goal.returns-in-Err-export_at-clause-stops
returns-in-Err-export_at-clause-stops g c = c.in-Err-export_at.ensures.stops

pub returns-in-Err-export_at-clause-steps : goal.returns-in-Err-export_at-clause-steps
returns-in-Err-export_at-clause-steps g c = (
  (λ a before q targets x.
      let old = subst (HasTargets q) c.in-Some.ensures.items targets in
      let own = targets_last q c.pop.new.self.items c.in-Some.level old in
      let levels = subst (HasTargets q) (sym c.in-Ok.ensures.items) (targets_push q c.pop.new.self.items c.next_row.new.level (targets_front q c.pop.new.self.items c.in-Some.level old) (taken_target q c.in-Some.level c.next_row.new.level c.in-Ok-Some.at (subst (NextIs c.in-Some.level c.next_row.new.level) c.in-Ok-Some.field-0-is c.in-Ok-Some.ensures) own)) in
      c.in-Err-export_at.ensures.steps a before q (taken_to q c.in-Some.level c.next_row.new.level c.in-Ok-Some.at (subst (NextIs c.in-Some.level c.next_row.new.level) c.in-Ok-Some.field-0-is c.in-Ok-Some.ensures) own) levels (subst (λ z. IsOutAt g.A.Asker.asking a c.args.asker.now before (g.F.Folder.tree c.args.host.now) q z c.args.totals.now) (ap todo_of c.in-Some.ensures.items ∙ (todo_taken c.pop.new.self.items c.in-Some.level c.next_row.new.level c.in-Ok-Some.at (subst (NextIs c.in-Some.level c.next_row.new.level) c.in-Ok-Some.field-0-is c.in-Ok-Some.ensures) ∙ ap (λ z. (c.in-Ok-Some.at.host, c.in-Ok-Some.at.kind) ∷ todo_of z) (sym c.in-Ok.ensures.items))) x)),
  tt,
)
