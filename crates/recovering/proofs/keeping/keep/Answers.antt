use Rattle.std.proofs.Common.{◌≡◌, [], sym, ◌∙◌, ap, subst}
use Rattle.std.specs.Prelude.{is_some}
use Rattle.cryfs_check.specs.Checks.{IsCertified, OnYes}
use Rattle.cryfs_check.specs.check_rules.Certificates.{Owners}
use Rattle.cryfs_check.specs.check_rules.data_nodes.Layout.{ids_of}
use Rattle.cryfs_check.specs.check_rules.store_api.Content.{Id}
use Rattle.cryfs_check.specs.check_rules.store_api.Holdings.{has_id}
use Rattle.std.specs.declared.option.Option.TheVariants.{Some}
use Rattle.mount.specs.block_versions.Held.{Held}
use Rattle.mount.specs.local_state.Record.{record_bytes}
use Rattle.mount.specs.block_versions.Loads.{loads_by}
use Rattle.mount.specs.block_versions.Reads.{WentOnByReads}
use Rattle.mount.specs.block_versions.Standing.{records}
use Rattle.mount.specs.mount_core.Standing.{Keeps}
use Rattle.mount.specs.path_layer.Showing.{ShowsFiles}
use Rattle.mount.specs.mount_stores.Tower.{sealed_held, sealed_trace, sealed_holdings, sealed_durables}
use Rattle.recovering.proofs.Shown.{held_same, went, tree, kept_empty, keeps}
use Rattle.recovering.proofs.keeping.keep.Goals as goal

pub returns-in-Ok-saved-clause-kept : goal.returns-in-Ok-saved-clause-kept
returns-in-Ok-saved-clause-kept g c =
    let V = g.V.Vault in
    let a = c.args.store in
    let b = c.check.new.store in
    let root = c.args.root.now.0 in
    let live = ids_of c.deref.result.now in
    let owners : Owners = c.in-Ok-Yes.field-0-0 in
    let cert = subst (λ k. OnYes k (IsCertified (loads_by sealed_held (sealed_trace V.trace)) ((sealed_holdings V.trace).payload a) root live a b)) c.in-Ok-Yes.field-0-is c.in-Ok-Yes.ensures.yes in
    let lives : (id : Id) → has_id live id ≡ is_some ((sealed_holdings V.trace).content a id) = λ id. ap (λ l. has_id (ids_of l) id) c.deref.ensures.value ∙ c.in-Ok.ensures.live id in
    let kept = g.K.Keeper.kept c.keep_short-saved.new.self.keeper in
    let saves = c.in-Ok-saved.ensures.saves in
    let bytes = c.keep_short-saved.new.self.last.items in
    let intact = c.in-Ok-Yes.ensures.outcome.intact in
    let back : c.into_vault-in-Ok-saved.result ≡ b.sealed.vault.vault = c.into_vault-in-Ok-saved.ensures.vault ∙ ap (λ s. s.sealed.vault.vault) c.keep_short-saved.ensures.same in
    record {
      tree = tree V.trace V.faults root a b live owners cert lives;
      last = b;
      back = back;
      empty = kept_empty V.trace V.faults root a b live owners cert lives kept bytes saves.1 saves.0 intact;
      kept = saves.1 ∙ ap Some (saves.0 ∙ ap (λ (h : Held). record_bytes h.state []) (held_same V.trace V.faults root a b live owners cert lives));
      same = held_same V.trace V.faults root a b live owners cert lives;
      reads = subst (λ v. WentOnByReads (sealed_held a) (sealed_trace V.trace a) (V.trace v)) (sym back) (went V.trace V.faults root a b live owners cert lives);
      keeps = λ sound unmarked few. subst (λ v. Keeps records (ShowsFiles ((sealed_holdings V.trace).payload a) root) ((sealed_durables V.trace).identity a) kept (V.trace v) (tree V.trace V.faults root a b live owners cert lives)) (sym back) (keeps V.trace V.faults root a b live owners cert lives kept bytes saves.1 saves.0 c.requires.none intact sound unmarked few);
    }
