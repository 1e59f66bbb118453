use Rattle.std.proofs.Common.{◌-◌, refl, sym, ◌∙◌, ap, subst}
use Rattle.std.specs.FinMap as fin
use Rattle.block_versions.specs.sealed_store.Stores.{Sealed, IsIntact, block_size_of, cipher_of}
use Rattle.block_versions.specs.Views.{held_of}
use Rattle.block_versions.proofs.Loading.{live_wanted}
use Rattle.integrity_store.specs.Views.{held_by}
use Rattle.integrity_store.proofs.WriteOuts.{Written, written}
use Rattle.integrity_store.proofs.durable.IntegrityStoreDurable.write_out.Given.{Over}
use Rattle.integrity_store.proofs.durable.IntegrityStoreDurable.write_out.Goals as goal

all_written : (g : Over) (c : goal.After-write_out g)
    → Written (held_by g.C.Sealer.opens c.args.self.now) (held_of g.C.Sealer.opens c.write_out.new.self c.args.self.now.state) (g.V.Vault.trace c.args.self.now.sealed.vault.vault) (g.V.Vault.trace c.write_out.new.self.vault.vault)
all_written g c =
    let s = c.args.self.now in
    let held = λ (sealed : Sealed g.row.V.Denot g.row.C.Denot). held_of g.C.Sealer.opens sealed s.state in
    written (held s.sealed) (held c.write_out.new.self) (g.V.Vault.trace s.sealed.vault.vault) (g.V.Vault.trace c.write_out.new.self.vault.vault) c.write_out.result c.requires.0 (ap held c.write_out.ensures.same)
    c.write_out.ensures.ok c.write_out.ensures.all_left c.write_out.ensures.err

pub returns-clause-meant : goal.returns-clause-meant
returns-clause-meant g c =
    let own = λ (sealed : Sealed g.row.V.Denot g.row.C.Denot). IsIntact (block_size_of sealed) (g.C.Sealer.iv_size (cipher_of sealed)) in
    let w = all_written g c in
    record { intact = (w.whole, subst own (sym c.write_out.ensures.same) c.requires.1); sound = w.sound; forgeries = w.forgeries; lies = w.lies }

pub returns-clause-stays : goal.returns-clause-stays
returns-clause-stays g c = record {
  ids = λ id. let life = fin.get c.args.self.now.state.known.lives id in sym (live_wanted life _) ∙ live_wanted life _;
  content = (all_written g c).content;
  told = (all_written g c).told;
  used = refl;
  spent = λ id. refl;
  version = λ id. refl;
  payload = ap (λ (sealed : Sealed g.row.V.Denot g.row.C.Denot). block_size_of sealed - 78) c.write_out.ensures.same;
}

pub returns-clause-keeps : goal.returns-clause-keeps
returns-clause-keeps g c = record {
  empty = refl;
  empty_record = λ kept is. is;
  stands = (all_written g c).stands;
  kept_configures = (all_written g c).kept_configures;
  configures = (all_written g c).configures;
}
