use Rattle.std.proofs.Common.{ap, refl}
use Rattle.std.specs.declared.result.Result.TheVariants.{Err}
use Rattle.outside.specs.View.{bytes_of}
use Rattle.found_blocks.specs.Rows.{author_in}
use Rattle.found_blocks.specs.Views.{finding_by}
use Rattle.found_blocks.specs.block_versions.Views.{held_of}
use Rattle.found_anew.proofs.Copying.{not_zero}
use Rattle.found_anew.proofs.Going.{load_puts, load_renewing, load_stops}
use Rattle.found_anew.proofs.renewing.renew_found.Goals as goal

pub renew-requires-clause-not_zero : goal.renew-requires-clause-not_zero
renew-requires-clause-not_zero g c is = not_zero (finding_by g.C.Sealer.opens c.args.found.now) c.args.id.now.0 c.requires.intact.0.no_zero c.requires.there is

pub returns-in-Err-clause-grows : goal.returns-in-Err-clause-grows
returns-in-Err-clause-grows g c =
    let f = finding_by g.C.Sealer.opens c.args.found.now in
    let id = c.args.id.now.0 in
    load_renewing f (g.V.Vault.trace c.args.found.now.sealed.vault.vault) (g.V.Vault.trace c.load.new.self.sealed.vault.vault) id (author_in f.rows id) (Err c.in-Err.fail) refl c.in-Err.ensures.loads.judged

pub returns-in-Ok-clause-grows : goal.returns-in-Ok-clause-grows
returns-in-Ok-clause-grows g c =
    let f = finding_by g.C.Sealer.opens c.args.found.now in
    let V = g.V.Vault in
    let id = c.args.id.now.0 in
    let mid = c.load.new.self.sealed in
    load_puts f (held_of g.C.Sealer.opens mid c.args.state.now) (V.trace c.args.found.now.sealed.vault.vault) (V.trace mid.vault.vault) (V.trace c.renew.new.sealed.vault.vault) id c.in-Ok-Some.payload.items _ _ (bytes_of c.in-Ok-Some.field-0)
    (author_in f.rows id) refl (ap bytes_of c.in-Ok-Some.field-0-is) c.in-Ok-Some.ensures.loads.judged c.in-Ok.ensures.renews.puts

pub returns-in-Err-Memory-clause-grows : goal.returns-in-Err-Memory-clause-grows
returns-in-Err-Memory-clause-grows g c =
    let f = finding_by g.C.Sealer.opens c.args.found.now in
    let V = g.V.Vault in
    let id = c.args.id.now.0 in
    let mid = c.load.new.self.sealed in
    load_stops f (held_of g.C.Sealer.opens mid c.args.state.now) (V.trace c.args.found.now.sealed.vault.vault) (V.trace mid.vault.vault) (V.trace c.renew.new.sealed.vault.vault) id c.in-Ok-Some.payload.items _ _ (bytes_of c.in-Ok-Some.field-0)
    (author_in f.rows id) refl (ap bytes_of c.in-Ok-Some.field-0-is) c.in-Ok-Some.ensures.loads.judged c.in-Err-Memory.ensures.err

pub returns-clause-grows : goal.returns-clause-grows
returns-clause-grows g c =
    let f = finding_by g.C.Sealer.opens c.args.found.now in
    let V = g.V.Vault in
    let id = c.args.id.now.0 in
    let mid = c.load.new.self.sealed in
    load_stops f (held_of g.C.Sealer.opens mid c.args.state.now) (V.trace c.args.found.now.sealed.vault.vault) (V.trace mid.vault.vault) (V.trace c.renew.new.sealed.vault.vault) id c.in-Ok-Some.payload.items _ _ (bytes_of c.in-Ok-Some.field-0)
    (author_in f.rows id) refl (ap bytes_of c.in-Ok-Some.field-0-is) c.in-Ok-Some.ensures.loads.judged c.in-Err-Failed.ensures.err
