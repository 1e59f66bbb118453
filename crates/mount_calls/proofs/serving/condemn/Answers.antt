use Rattle.std.proofs.Common.{◌∙◌, ap, refl}
use Rattle.std.specs.declared.option.Option.TheVariants.{None}
use Rattle.mount.specs.block_versions.Held.{Held}
use Rattle.mount.specs.block_versions.Standing.{records}
use Rattle.mount.specs.integrity_store.EnduringLaws.{enduring_by}
use Rattle.mount_migrating.proofs.mount_answering_lemmas.Lines.{config_marked}
use Rattle.mount.specs.mount_stores.Tower.{Cached, tower_meanings, tower_holdings, tower_durables}
use Rattle.mount_opening.specs.store_api.declared.tx.Tx.{Tx}
use Rattle.mount_opening.specs.mount_core.Showing.{ShowsFiles}
use Rattle.mount_calls.proofs.serving.condemn.Goals as goal

pub returns : goal.returns
returns g c =
    let trace = g.V.Vault.trace in
    let faults = g.V.Vault.faults in
    let old = c.args.mount.now in
    let m = c.mark.ensures in
    let new = c.mark.new.core in
    let laws = enduring_by {S = Held} (λ h. h) (λ h. None) (λ h. 0) (λ h. Unit {0}) in
    record {
      ready = record {
        core = m.ready;
        holder = c.requires.holder;
        identity = ap (λ (t : Tx (Cached g.row.V.Denot)). (tower_durables trace).identity t.store) m.store ∙ c.requires.identity;
        root = m.root ∙ c.requires.root;
      };
      violated = m.violated;
      opened = refl;
      root = m.root;
      blobs = m.store;
      kept = m.kept;
      marked = m.marked;
      keeper_grows = m.keeper_grows;
      configures = λ may present s.
          config_marked ShowsFiles (tower_meanings trace faults) (tower_holdings trace) (tower_durables trace) records g.K.Keeper laws.marked_configures old.core new may present m.store m.kept s;
    }
