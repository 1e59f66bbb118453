use Rattle.std.proofs.Common.{◌≡◌, refl, sym, ◌∙◌, ap, subst}
use Rattle.outside.specs.Honest.{is_lie, count_told}
use Rattle.block_versions.specs.sealed_store.Stores.{Sealed, IsIntact, block_size_of, cipher_of}
use Rattle.block_versions.specs.Forgeries.{forged}
use Rattle.block_versions.specs.Held.{Held}
use Rattle.block_versions.specs.Soundness.{SoundBy}
use Rattle.block_versions.specs.Stores.{IsWhole}
use Rattle.block_versions.specs.Views.{held_of}
use Rattle.integrity_store.specs.declared.store.IntegrityStore.{IntegrityStore}
use Rattle.integrity_store.specs.Views.{held_by}
use Rattle.integrity_store.proofs.OneWrite.{with_list}
use Rattle.integrity_store.proofs.Configs.{Configured, configured, configured_whole, configured_sound, configured_stays, set_configures}
use Rattle.integrity_store.proofs.durable.IntegrityStoreDurable.put_config.Given.{Over}
use Rattle.integrity_store.proofs.durable.IntegrityStoreDurable.put_config.Goals as goal

-- ---- what is held before and after

abbrev before : (g : Over) (c : goal.After-put_config g) → Held
before g c = held_by g.C.Sealer.opens c.args.self.now

abbrev after : (g : Over) (c : goal.After-put_config g) → Held
after g c = held_of g.C.Sealer.opens c.put_config.new.self c.args.self.now.state

set : (g : Over) (c : goal.After-put_config g) → Configured c.args.bytes.items (before g c).list (after g c).list
set g c = configured (λ (sealed : Sealed g.row.V.Denot g.row.C.Denot). sealed.vault.list) c.put_config.result c.args.bytes.items c.args.self.now.sealed c.put_config.new.self c.put_config.ensures.ok c.put_config.ensures.err c.put_config.ensures.few

held_is : (g : Over) (c : goal.After-put_config g) → after g c ≡ with_list (before g c) (after g c).list
held_is g c = ap (λ (sealed : Sealed g.row.V.Denot g.row.C.Denot). held_of g.C.Sealer.opens sealed c.args.self.now.state) c.put_config.ensures.same

-- ---- the clauses

pub returns-clause-meant : goal.returns-clause-meant
returns-clause-meant g c =
    let own = λ (sealed : Sealed g.row.V.Denot g.row.C.Denot). IsIntact (block_size_of sealed) (g.C.Sealer.iv_size (cipher_of sealed)) in
    let old = g.V.Vault.trace c.args.self.now.sealed.vault.vault in
    let new = g.V.Vault.trace c.put_config.new.self.vault.vault in
    record {
      intact = (
        subst IsWhole (sym (held_is g c)) (configured_whole (before g c) c.args.bytes.items (after g c).list (set g c) c.requires.bytes c.requires.intact.0),
        subst own (sym c.put_config.ensures.same) c.requires.intact.1,
      );
      sound = λ sound. subst (λ h. SoundBy h new) (sym (held_is g c)) (configured_sound (before g c) c.args.bytes.items (after g c).list (set g c) old new (ap g.V.Vault.trace c.put_config.ensures.vault) sound);
      forgeries = ap (λ (h : Held). count_told (forged h.opens h.size) new) (held_is g c) ∙ ap (count_told (forged (before g c).opens (before g c).size)) (ap g.V.Vault.trace c.put_config.ensures.vault);
      lies = ap (count_told is_lie) (ap g.V.Vault.trace c.put_config.ensures.vault);
    }

pub returns-clause-stays : goal.returns-clause-stays
returns-clause-stays g c =
    let held = λ (s : IntegrityStore g.row.V.Denot g.row.C.Denot). held_by g.C.Sealer.opens s in
    let trace = λ (s : IntegrityStore g.row.V.Denot g.row.C.Denot). g.V.Vault.trace s.sealed.vault.vault in
    configured_stays held trace c.args.self.now _ c.args.bytes.items (after g c).list (set g c) (held_is g c) (ap g.V.Vault.trace c.put_config.ensures.vault)

pub returns-clause-keeps : goal.returns-clause-keeps
returns-clause-keeps g c = record {
  empty = refl;
  empty_record = λ kept is. is;
  configures = set_configures c.put_config.result (before g c) (g.V.Vault.trace c.put_config.new.self.vault.vault) c.args.bytes.items (after g c).list c.put_config.ensures.ok
      (configured_whole (before g c) c.args.bytes.items (after g c).list (set g c) c.requires.bytes c.requires.intact.0);
}
