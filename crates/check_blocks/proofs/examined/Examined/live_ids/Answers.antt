use Rattle.std.proofs.Common.{◌≡◌, ◌∙◌, ap, sym, subst}
use Rattle.std.specs.Prelude.{IfOk}
use Rattle.mount.specs.config_file.declared.config.Cipher.{Cipher}
use Rattle.mount.specs.data_nodes.Layout.{ids_of}
use Rattle.mount.specs.integrity_store.declared.store.IntegrityStore.{IntegrityStore}
use Rattle.mount.specs.local_state.Known.{live_ids}
use Rattle.mount.specs.local_state.declared.state.State.{State}
use Rattle.check_blocks.specs.Examined.{held_of}
use Rattle.mount.proofs.Living.{ids_rise, ids_live, has_payload, listed}
use Rattle.check_blocks.proofs.examined.Examined.live_ids.Given.{Over}
use Rattle.check_blocks.proofs.examined.Examined.live_ids.Goals as goal

all_listed : (g : Over) (c : goal.After-live_ids g) → IfOk c.live_ids.result (λ ids. ids_of ids.items ≡ live_ids (held_of c.args.self.now).state.lives)
all_listed g c =
    subst (λ (s : State). IfOk c.live_ids.result (λ ids. ids_of ids.items ≡ live_ids s.known.lives))
    (c.state.ensures ∙ ap (λ (s : IntegrityStore g.row.V.Denot Cipher). s.state) c.store-store.ensures) c.live_ids.ensures

pub returns-clause-ids : goal.returns-clause-ids
returns-clause-ids g c = all_listed g c

pub returns-clause-order : goal.returns-clause-order
returns-clause-order g c = listed c.live_ids.result _ _ (λ ids all. ids_rise (held_of c.args.self.now).state.lives ids.items all) (all_listed g c)

pub returns-clause-live : goal.returns-clause-live
returns-clause-live g c =
    listed c.live_ids.result _ _ (λ ids all id. ids_live (held_of c.args.self.now).state.lives ids.items all id ∙ sym (has_payload _ _)) (all_listed g c)
