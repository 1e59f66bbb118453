use Rattle.std.proofs.Common.{◌≡◌, ◌∙◌, sym, ap, subst}
use Rattle.outside.specs.View.{list_of}
use Rattle.record_saver.specs.local_state.Record.{plain_state, IsRecord}
use Rattle.outside.specs.Changes.{FileChanges}
use Rattle.integrity_store.specs.block_versions.Held.{Held}
use Rattle.integrity_store.specs.block_versions.Standing.{identity_of}
use Rattle.integrity_store.specs.block_versions.Views.{held_of}
use Rattle.integrity_store.specs.Views.{held_by}
use Rattle.integrity_store.specs.WaitingLaws.{in_order}
use Rattle.tower_tests.proofs.Anew.{reopened}
use Rattle.tower_tests.proofs.reopening.reopen.Goals as goal

pub new-requires : goal.new-requires
new-requires g c = in_order (plain_state c.in-Ok.state) (list_of c.in-Ok.list.items) c.in-Ok.ensures.is_record.has

pub returns-clause-opened : goal.returns-clause-opened
returns-clause-opened g c = λ identity content opens size stands.
    let state = plain_state c.in-Ok.state in
    let h : Held = record { size = c.args.seal.block_size; opens = g.C.Sealer.opens c.args.seal.cipher c.args.seal.key; state = state; list = list_of c.in-Ok.list.items } in
    let vault = c.new-sealed.ensures.vault ∙ c.new.ensures in
    let sealed : identity_of (held_of g.C.Sealer.opens c.new-sealed.result c.in-Ok.state) ≡ identity_of h = λ i. record {
      marked = state.marked;
      fs_id = state.fs_id;
      key_salt = state.key_salt;
      key_digest = state.key_digest;
      client = state.client;
      size = c.new-sealed.ensures.size i;
      opens = g.C.Sealer.opens (c.new-sealed.ensures.cipher i) (c.new-sealed.ensures.key i);
    } in
    let is = c.in-Ok.ensures.is_record in
    let list = ap (λ v. v.list) vault in
    c.new-2.ensures.sound.opened content c.args.kept.now (subst (λ (l : FileChanges). IsRecord state l c.args.kept.now) (sym list) is)
    (reopened identity c.args.kept.now (g.V.Vault.trace c.args.vault) _ content h (held_by g.C.Sealer.opens c.new-2.result) is opens size (c.new-2.ensures.made.identity ∙ sealed)
    (c.new-2.ensures.made.trace ∙ ap (λ v. g.V.Vault.trace v.vault) vault) stands)
