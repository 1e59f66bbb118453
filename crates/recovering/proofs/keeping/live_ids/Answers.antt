use Rattle.std.proofs.Common.{◌≡◌, ◌∙◌, sym, subst}
use Rattle.std.specs.Prelude.{IfOk}
use Rattle.cryfs_check.specs.check_rules.data_nodes.Layout.{ids_of}
use Rattle.mount.specs.local_state.Known.{live_ids}
use Rattle.mount.specs.local_state.declared.state.State.{State}
use Rattle.mount.specs.mount_stores.Tower.{sealed_held}
use Rattle.mount.proofs.Living.{ids_rise, ids_live, has_payload, listed}
use Rattle.recovering.proofs.keeping.live_ids.Goals as goal

pub returns : goal.returns
returns g c =
    let lives = (sealed_held c.args.store.now).state.lives in
    listed c.live_ids.result _ _ (λ ids all. record { order = ids_rise lives ids.items all; live = λ id. ids_live lives ids.items all id ∙ sym (has_payload _ _) })
    (subst (λ (s : State). IfOk c.live_ids.result (λ ids. ids_of ids.items ≡ live_ids s.known.lives)) c.state.ensures c.live_ids.ensures)
