use Rattle.std.proofs.Common.{refl, ◌∙◌}
use Rattle.mount.specs.integrity_store.WaitingLaws.{in_order}
use Rattle.mount.proofs.Same.{same_mount}
use Rattle.mount.proofs.Sealing.{wrote_sealed}
use Rattle.mount.specs.mount_stores.Tower.{tower_holdings, tower_durables}
use Rattle.mount.proofs.mount_stores_lemmas.Emptied.{emptied_on}
use Rattle.mount_calls.proofs.serving.sync.Goals as goal

pub returns : goal.returns
returns g c =
    let mount = c.args.mount.now in
    let core = c.sync.new.core in
    let r = c.requires.ready in
    let m = c.sync.ensures.moves in
    let z = c.sync.ensures.syncs in
    record {
      moves = record {
        ready = record { core = m.ready; holder = r.holder; identity = m.leaves.identity ∙ r.identity; root = m.root ∙ r.root };
        opened = refl;
        fresh = m.violated ∙ c.requires.fresh;
        leaves = m.leaves;
        least = m.least;
      };
      syncs = record {
        stands = z.stands;
        configures = z.configures;
        emptied = emptied_on g.V.Vault.trace core.blobs.tx.store (g.K.Keeper.kept core.saver.keeper) c.sync.result z.emptied;
        ok = z.ok;
        keeps = z.keeps;
        sealed = wrote_sealed (tower_durables g.V.Vault.trace) (tower_holdings g.V.Vault.trace).used mount.core.blobs.tx.store core.blobs.tx.store (in_order _ _ r.core.intact.0.0.has_record) m.leaves.stays.used z.wrote;
        unmoved = λ unchanged. let u = z.unmoved unchanged in (u.0, same_mount mount (record mount { core = core }) refl u.1);
      };
    }
