use Rattle.std.proofs.Common.{ℕ, List}
use Rattle.std.specs.Prelude.{OnOk, Result}
use Rattle.std.specs.declared.result.Result.TheVariants.{Ok, Err}
use Rattle.mount.specs.aes_gcm.Gcm.{opened_of}
use Rattle.mount.specs.block_versions.Views.{held_of}
use Rattle.recovering.specs.Keeping.{KeepsShown}
use Rattle.recovering.specs.Restoring.{IsRestored}
use Rattle.recovering.proofs.Restored.{only_reads, restored, tells_restored, unrestored}
use Rattle.recovering.proofs.restoring.restore.Goals as goal

on_ok : {T E : Type 0} (r : Result T E) (P Q : Type 0) → (P → Q) → OnOk r P → OnOk r Q
on_ok (Ok x) P Q f h = f h
on_ok (Err e) P Q f h = tt

pub returns-clause-restored : goal.returns-clause-restored
returns-clause-restored g c =
    let V = g.V.Vault in
    let K = g.K.Keeper in
    let h = held_of (λ cipher key extra text. opened_of key extra text) c.args.sealed c.args.state in
    let root : List ℕ = c.args.root.now.0 in
    let written = V.trace c.args.sealed.vault.vault in
    let s = c.finish-store.ensures in
    on_ok c.keep.result.0 (KeepsShown V.trace V.faults K c.finish-store.result root c.keep.result.1 c.keep.result.2) (IsRestored V.trace K h root written c.keep.result.1 c.keep.result.2)
    (λ shown. restored V.trace V.faults K h root written (V.faults c.args.sealed.vault.vault) c.finish-store.result c.keep.result.1 c.keep.result.2 s.has_record c.requires.none s.made s.recorded s.sound shown)
    c.keep.ensures.kept

pub returns-clause-unrestored : goal.returns-clause-unrestored
returns-clause-unrestored g c = unrestored g.V.Vault.trace g.K.Keeper c.finish-store.result c.args.keeper c.keep.result.1 c.keep.result.2 c.keep.result.0 c.keep.ensures.unkept

pub returns-clause-reads : goal.returns-clause-reads
returns-clause-reads g c =
    only_reads g.V.Vault.trace c.finish-store.result (g.V.Vault.trace c.args.sealed.vault.vault) c.keep.result.1 c.finish-store.ensures.made.trace c.keep.ensures.reads

pub returns-clause-tells : goal.returns-clause-tells
returns-clause-tells g c =
    tells_restored g.V.Vault.faults g.K.Keeper c.finish-store.result (g.V.Vault.faults c.args.sealed.vault.vault) c.args.keeper c.keep.result.1 c.keep.result.2 c.keep.result.0 c.finish-store.ensures.made.faults c.keep.ensures.tells
