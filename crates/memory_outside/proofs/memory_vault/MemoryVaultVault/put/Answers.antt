use Rattle.std.proofs.Common.{◌∙◌, ap, sym, subst, ◌∷◌, true}
use Rattle.std.specs.declared.option.Option.TheVariants.{Some}
use Rattle.outside.specs.Trace.{put}
use Rattle.outside.specs.Changes.{set_change}
use Rattle.outside.specs.View.{at_of, list_of}
use Rattle.outside.specs.Causes.{one_more}
use Rattle.memory_outside.specs.Vaults.{VaultState, IsUntampered}
use Rattle.memory_outside.specs.declared.event.Event.TheVariants.{Put}
use Rattle.memory_outside.proofs.Plain.{pushed, plain_put, plain_failed, plain_failed_put}
use Rattle.memory_outside.proofs.memory_vault.MemoryVaultVault.put.Goals as goal

pub returns-then-change_fails-clause-plain : goal.returns-then-change_fails-clause-plain
returns-then-change_fails-clause-plain c p =
    plain_failed c.fail_change.result c.args.self.now c.fail_change.new.self _ c.fail_change.ensures.failed c.fail_change.ensures.memory
    (plain_failed_put c.args.self.now (at_of c.args.name.now) c.in_ok-told.told.items p) p

pub returns-clause-after : goal.returns-clause-after
returns-clause-after c =
    let told = c.in_ok-told.ensures.items_if_clones_equal (λ x y e. e) in
    let file = c.in_ok-file.ensures.items_if_clones_equal (λ x y e. e) in
    let trace =
    pushed c.self.inside.trace.items c.push.new.self.items (Put c.args.name.now c.in_ok-told.told true) c.args.self.now.trace c.in_ok-push.ensures.items (ap (λ v. v.trace) c.self.view_is)
    ∙ ap (λ bytes. put (at_of c.args.name.now) bytes true ∷ c.args.self.now.trace) told in
    let files =
    c.set.ensures.items ∙ ap (λ bytes. set_change (at_of c.args.name.now) (Some bytes) (list_of c.reserve.new.self.items)) file
    ∙ ap (λ ps. set_change (at_of c.args.name.now) (Some c.args.bytes.now) (list_of ps)) c.in_ok-reserve.ensures.items
    ∙ ap (λ v. set_change (at_of c.args.name.now) (Some c.args.bytes.now) v.files) c.self.view_is in
    let calls = c.saturating_add-self-inside.ensures ∙ ap (λ v. one_more v.calls) c.self.view_is in
    let changes = c.saturating_add-self-inside-2.ensures ∙ ap (λ v. one_more v.changes) c.self.view_is in
    λ i. record (c.self.view_is i) { trace = trace i; files = files i; calls = calls i; changes = changes i }

pub returns-clause-ok : goal.returns-clause-ok
returns-clause-ok c = ap (λ (v : VaultState). Some v.trace) (returns-clause-after c)

pub returns-clause-plain : goal.returns-clause-plain
returns-clause-plain c p = subst IsUntampered (sym (returns-clause-after c)) (plain_put c.args.self.now (at_of c.args.name.now) c.args.bytes.now p)
