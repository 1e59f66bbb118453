use Rattle.std.proofs.Common.{◌≡◌, ◌+◌, List, length, sym, subst, ◌∙◌}
use Rattle.std.specs.Prelude.{All}
use Rattle.clients_core.specs.declared.seen.Seen.{Seen}
use Rattle.clients_core.specs.Clients.{AreClients, IsAlive}
use Rattle.clients_core.specs.Worlds.{IsStep, no_lists}
use Rattle.clients_core.proofs.Rows.{any_step, step_at, so_far, lists_of, more_clients, more_answers, all_answers, written_back}
use Rattle.clients_core.proofs.worlds.world.Goals as goal

pub steps-init : goal.steps-init
steps-init c = record { len = c.in_ok-seen.ensures.len; alive = c.in_ok-seen.ensures.alive; clients = c.in_ok-seen.ensures.clients; answers = c.in_ok-answers.ensures.items }

pub make-requires-clause-step : goal.make-requires-clause-step
make-requires-clause-step c =
    let long = (λ i. length (c.deref_mut.ensures.value i)) ∙ c.steps.invariant.len in
    subst (λ n. IsStep n (step_at c.args.steps.now c.steps.step-index)) (sym long) (c.requires c.steps.step-index any_step c.steps-test.true)

pub steps-preserved : goal.steps-preserved
steps-preserved c =
    let xs : List Seen = c.make.new.seen in
    let inv = c.steps.invariant in
    let long : length xs ≡ length c.steps.seen.items = c.make.ensures.len ∙ (λ i. length (c.deref_mut.ensures.value i)) in
    let back = written_back c.steps.seen.len xs c.steps.seen.items (long ∙ sym c.steps.seen.ok.0) in
    let hs = lists_of no_lists (so_far c.args.steps.now c.steps.step-index) in
    let made = c.in_ok-answer.ensures.stepped hs (subst (λ (ys : List Seen). AreClients ys hs) (sym c.deref_mut.ensures.value) inv.clients) in
    record {
      len = (λ i. length (back i)) ∙ long ∙ inv.len;
      alive = subst (All IsAlive) (sym back) c.make.ensures.alive;
      clients = subst (λ (ys : List Seen). AreClients ys (lists_of no_lists (so_far c.args.steps.now (c.steps.step-index + 1)))) (sym back)
          (more_clients c.args.steps.now c.steps.step-index xs c.in_ok-answer.answer c.steps-test.true made);
      answers = more_answers c.args.steps.now c.steps.step-index xs c.steps.answers.items c.push.new.self.items c.in_ok-answer.answer c.steps-test.true made inv.answers c.in_ok-push.ensures.items;
    }

pub returns-clause-answers : goal.returns-clause-answers
returns-clause-answers c = all_answers c.args.steps.now c.steps.step-index c.steps.answers.items c.steps-test.false c.steps.invariant.answers
