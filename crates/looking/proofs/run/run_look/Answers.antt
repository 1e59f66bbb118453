use Rattle.std.proofs.Common.{refl, inr, subst}
use Rattle.session_laws.specs.line_io.Reading.{coming}
use Rattle.looking.specs.Finding.{BeginsLook}
use Rattle.looking.proofs.Leaving.{look_asked}
use Rattle.looking.proofs.run.run_look.Goals as goal

pub returns-in-Ok-find_files-clause-ran : goal.returns-in-Ok-find_files-clause-ran
returns-in-Ok-find_files-clause-ran g c =
    let b = c.in-Ok in
    let r = b.ensures.read in
    inr (
      b.beginning.password.items,
      coming b.beginning.reader.ahead (g.I.Source.rest c.begin.new.input),
      record { short = r.1.short; is_next = r.1.is_next },
      r.1.stands.quiet,
      inr
          (record {
            looked = c.in-Ok-find_files.looked;
            begins = subst (λ p. BeginsLook g.V.Vault.trace g.V.Vault.faults p c.args.storage.vault c.in-Ok-find_files.looked) c.deref.ensures.value c.in-Ok-find_files.ensures.begins;
            answered = c.answer_over-status.ensures.answered;
          }),
    )

pub returns-in-Ok-find_files-clause-looked : goal.returns-in-Ok-find_files-clause-looked
returns-in-Ok-find_files-clause-looked g c = record {
  kept = refl;
  asked = look_asked g.V.Vault.trace g.V.Vault.faults c.deref.result.now c.args.storage.vault c.in-Ok-find_files.looked (g.V.Vault.trace c.answer_over-status.result.1) c.in-Ok-find_files.ensures.begins c.answer_over-status.ensures.answered.told.only_got;
}
