use Rattle.std.proofs.Common.{refl}
use Rattle.integrity_store.specs.declared.store.IntegrityStore.{IntegrityStore}
use Rattle.integrity_store.specs.Views.{held_by}
use Rattle.integrity_store.proofs.Leasts.{whole_least, configured_least, sound_set}
use Rattle.integrity_store.proofs.durable.IntegrityStoreDurable.set_least.Goals as goal

pub returns-clause-stays : goal.returns-clause-stays
returns-clause-stays g c = record {
  ids = λ id. refl;
  content = λ told id. refl;
  told = refl;
  used = refl;
  spent = λ id. refl;
  version = λ id. refl;
  payload = refl;
}

pub returns-clause-meant : goal.returns-clause-meant
returns-clause-meant g c = record {
  intact = (whole_least (held_by g.C.Sealer.opens c.args.self.now) c.args.least c.requires.may c.requires.intact.0, c.requires.intact.1);
  sound = sound_set (λ (s : IntegrityStore g.row.V.Denot g.row.C.Denot). held_by g.C.Sealer.opens s) (λ (s : IntegrityStore g.row.V.Denot g.row.C.Denot). g.V.Vault.trace s.sealed.vault.vault) c.args.self.now c.args.least c.requires.may;
  forgeries = refl;
  lies = refl;
}

pub returns-clause-sets : goal.returns-clause-sets
returns-clause-sets g c =
    let h = held_by g.C.Sealer.opens c.args.self.now in
    record {
      least = refl;
      identity = refl;
      list = refl;
      trace = refl;
      configures = configured_least h c.args.least (g.V.Vault.trace c.args.self.now.sealed.vault.vault) (whole_least h c.args.least c.requires.may c.requires.intact.0);
    }
