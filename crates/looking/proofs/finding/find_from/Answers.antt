use Rattle.std.proofs.Common.{◌≡◌, ◌∙◌, ap, subst}
use Rattle.block_id.specs.declared.id.BlockId.{BlockId}
use Rattle.std.specs.declared.result.Result.TheVariants.{Err}
use Rattle.outside.specs.Causes.{UnlessFault}
use Rattle.outside.specs.declared.vault.GetFail.{GetFail}
use Rattle.found_blocks.specs.sealed_store.Stores.{Sealed, block_size_of, key_of}
use Rattle.session_laws.specs.redo_vault.Redo.{Redo}
use Rattle.session_laws.specs.config_file.Settings.{settings_of}
use Rattle.session_laws.specs.config_file.declared.config.Cipher.{Cipher}
use Rattle.session_laws.specs.mount_stores.declared.error.OpenError.TheVariants.{Memory, FaultDirectory}
use Rattle.looking.proofs.Beginning.{begins, stopped}
use Rattle.looking.proofs.finding.find_from.Goals as goal

pub returns-in-Ok-clause-begins : goal.returns-in-Ok-clause-begins
returns-in-Ok-clause-begins g c =
    let same = ap (λ (s : Sealed g.row.V.Denot Cipher). s.vault.vault) c.new-store.ensures.sealed ∙ (ap (λ (r : Redo g.row.V.Denot). r.vault) c.new-sealed.ensures.vault ∙ ap (λ (r : Redo g.row.V.Denot). r.vault) c.new-redo.ensures) in
    begins g.V.Vault.trace g.V.Vault.faults c.args.vault c.new-store.result c.discover.new.self same c.discover.ensures.discovered (settings_of c.args.config.now)
    (ap block_size_of c.new-store.ensures.sealed ∙ c.new-sealed.ensures.size) (ap key_of c.new-store.ensures.sealed ∙ c.new-sealed.ensures.key) c.new-store.ensures.rows c.in-Ok.ensures.cause.quiet
    c.look_over.result (ap (λ (r : BlockId). r.0) c.look_over.ensures.root) c.look_over.ensures.ready c.look_over.ensures.fresh c.look_over.ensures.store

pub returns-in-Err-Memory-clause-none : goal.returns-in-Err-Memory-clause-none
returns-in-Err-Memory-clause-none g c =
    let same = ap (λ (s : Sealed g.row.V.Denot Cipher). s.vault.vault) c.new-store.ensures.sealed ∙ (ap (λ (r : Redo g.row.V.Denot). r.vault) c.new-sealed.ensures.vault ∙ ap (λ (r : Redo g.row.V.Denot). r.vault) c.new-redo.ensures) in
    stopped g.V.Vault.trace g.V.Vault.faults c.args.vault c.new-store.result c.discover.new.self same c.discover.ensures.discovered Memory c.into_vault.result c.into_vault.ensures
    (subst (λ (f : GetFail). UnlessFault f (g.V.Vault.faults c.discover.new.self.sealed.vault.vault ≡ g.V.Vault.faults c.new-store.result.sealed.vault.vault)) c.in-Err-Memory.field-0-is c.in-Err-Memory.ensures.cause.quiet) c.in-Err-Memory.ensures.cause.grows

pub returns-in-Err-Failed-clause-none : goal.returns-in-Err-Failed-clause-none
returns-in-Err-Failed-clause-none g c =
    let same = ap (λ (s : Sealed g.row.V.Denot Cipher). s.vault.vault) c.new-store.ensures.sealed ∙ (ap (λ (r : Redo g.row.V.Denot). r.vault) c.new-sealed.ensures.vault ∙ ap (λ (r : Redo g.row.V.Denot). r.vault) c.new-redo.ensures) in
    stopped g.V.Vault.trace g.V.Vault.faults c.args.vault c.new-store.result c.discover.new.self same c.discover.ensures.discovered FaultDirectory c.into_vault-in-Err-Failed.result c.into_vault-in-Err-Failed.ensures
    (c.in-Err-Failed.ensures.cause.failed (ap (λ (f : GetFail). Err f) c.in-Err-Failed.field-0-is)) c.in-Err-Failed.ensures.cause.grows
