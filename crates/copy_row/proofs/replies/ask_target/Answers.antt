use Rattle.std.proofs.Common.{◌≡◌, List, ℕ, true, false, sym, ◌∙◌, subst}
use Rattle.std.specs.Prelude.{IsTrue}
use Rattle.std.specs.declared.result.Result.TheVariants.{Ok}
use Rattle.fs_model.specs.declared.command.Command.TheVariants as command
use Rattle.fs_model.specs.Fitting.{is_target}
use Rattle.copy_row.specs.Reads.{OneRead, SaysTarget}
use Rattle.copy_row.proofs.Served.{reads_none, reads_error, target_read, target_refused}
use Rattle.copy_row.proofs.replies.ask_target.Goals as goal

pub returns-in-Err-clause-reads : goal.returns-in-Err-clause-reads
returns-in-Err-clause-reads g c = reads_none g.A.Asker.asking g.met.A.Asker.lawful {X = List ℕ} c.args.asker.now c.args.tree.now SaysTarget

pub returns-in-Err-ask_reader-clause-reads : goal.returns-in-Err-ask_reader-clause-reads
returns-in-Err-ask_reader-clause-reads g c = reads_error g.A.Asker.asking {X = List ℕ} c.args.asker.now c.ask_reader.new.asker (command.Readlink c.in-Ok.path) c.args.tree.now SaysTarget c.in-Err-ask_reader.stop c.in-Ok.ensures c.in-Err-ask_reader.ensures.read

pub returns-then-not-fits_link-clause-reads : goal.returns-then-not-fits_link-clause-reads
returns-then-not-fits_link-clause-reads g c =
    let misfit : IsTrue (is_target c.in-Ok-Target.target) → ⊥ = λ h. let bad : true ≡ false = sym (c.fits_link.ensures.1 (subst (λ z. IsTrue (is_target z)) (sym c.as_slice.ensures) h)) ∙ c.if-not-fits_link.true in cc in
    target_refused g.A.Asker.asking c.args.asker.now c.ask_reader.new.asker c.in-Ok.path c.args.tree.now c.in-Ok-Target.target c.in-Ok.ensures misfit
    (subst (λ z. OneRead g.A.Asker.asking c.args.asker.now c.ask_reader.new.asker (command.Readlink c.in-Ok.path) (Ok z)) c.in-Ok-Target.field-0-is c.in-Ok-Target.ensures.read)

pub returns-clause-reads : goal.returns-clause-reads
returns-clause-reads g c =
    target_read g.A.Asker.asking c.args.asker.now c.ask_reader.new.asker c.in-Ok.path c.args.tree.now c.in-Ok-Target.target c.in-Ok.ensures
    (subst (λ z. OneRead g.A.Asker.asking c.args.asker.now c.ask_reader.new.asker (command.Readlink c.in-Ok.path) (Ok z)) c.in-Ok-Target.field-0-is c.in-Ok-Target.ensures.read)
