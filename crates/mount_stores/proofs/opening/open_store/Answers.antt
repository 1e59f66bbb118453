use Rattle.std.proofs.Common.{◌≡◌, List, refl, sym, ◌∙◌, ap, subst, arith}
use Rattle.config_file.specs.aes_gcm.Gcm.{opened_of}
use Rattle.outside.specs.Changes.{change_at}
use Rattle.outside.specs.Trace.{Call, config}
use Rattle.std.specs.declared.option.Option.{Option}
use Rattle.outside.specs.View.{list_of}
use Rattle.record_saver.specs.local_state.Record.{plain_state, IsRecord}
use Rattle.integrity_store.specs.redo_vault.Redo.{Redo}
use Rattle.integrity_store.specs.block_versions.Standing.{Stands}
use Rattle.integrity_store.specs.block_versions.Views.{held_of}
use Rattle.integrity_store.specs.block_versions.Stores.{IsNoBlock}
use Rattle.integrity_store.specs.WaitingLaws.{in_order}
use Rattle.config_file.specs.Settings.{settings_of}
use Rattle.config_file.specs.declared.config.Cipher.{Cipher}
use Rattle.mount_stores.specs.Opening.{ReadsConfigOnce}
use Rattle.mount_stores.specs.Stores.{FindsConfig, OpensNone}
use Rattle.mount_stores.specs.declared.error.OpenError.{OpenError}
use Rattle.mount_stores.specs.Identities.{holder_of, identity_for}
use Rattle.mount_stores.specs.Tower.{vault_in}
use Rattle.mount_stores.proofs.Found.{config_open, identity_is, no_block}
use Rattle.mount_stores.proofs.Quiet.{err_same, ok_err}
use Rattle.mount_stores.proofs.Reading.{reads_stands, stands_holder}
use Rattle.mount_stores.proofs.opening.open_store.Given.{Over}
use Rattle.mount_stores.proofs.opening.open_store.Goals as goal

abbrev RedoOf : Over → Type 0
RedoOf g = Redo g.row.V.Denot

pub new-redo-requires : goal.new-redo-requires
new-redo-requires g c = in_order (plain_state c.args.state) (list_of c.args.list.items) c.requires.record_

-- what was said of the files before and after, by the directory that came and the one that goes back
along : (g : Over) (P : RedoOf g → g.row.V.Denot → Type 0) (r first : RedoOf g) (last back : g.row.V.Denot) → r ≡ first → back ≡ last → P r last → P first back
along g P r first last back ef eb p = subst (λ x. P x back) ef (subst (λ v. P r v) (sym eb) p)

pub returns-in-Err-clause-unread : goal.returns-in-Err-clause-unread
returns-in-Err-clause-unread g c =
    let state = plain_state c.args.state in
    let V = g.V.Vault in
    let e = c.in-Err.error in
    along g (λ x v. OpensNone c.args.password.now state x.list (V.trace x.vault) (V.trace v) (V.faults x.vault) (V.faults v) e) _ _ _ _ c.new-redo.ensures c.into_vault.ensures
    (record {
      cause = config_open c.args.password.now state c.new-redo.result.list _ _ _ _ e c.in-Err.ensures.err;
      reads = c.read_config.ensures.reads;
      faults = record { grows = c.read_config.ensures.grows; quiet = λ n. c.in-Err.ensures.quiet (λ is. n (err_same is)) };
    })

pub returns-in-Err-check_identity-clause-unread : goal.returns-in-Err-check_identity-clause-unread
returns-in-Err-check_identity-clause-unread g c =
    let state = plain_state c.args.state in
    let V = g.V.Vault in
    let P = λ (e : OpenError) (x : RedoOf g) (v : g.row.V.Denot). OpensNone c.args.password.now state x.list (V.trace x.vault) (V.trace v) (V.faults x.vault) (V.faults v) e in
    let same = c.in-Ok.ensures.quiet (λ is. ok_err c.in-Ok.opened _ is) in
    along g (P c.in-Err-check_identity.error) _ _ _ _ c.new-redo.ensures c.into_vault-in-Err-check_identity.ensures
    (subst (λ e. P e c.new-redo.result c.read_config.new.vault.vault) (sym c.in-Err-check_identity.ensures.err)
    (record {
      cause = record { o = c.in-Ok.opened; opened_so = c.in-Ok.ensures.ok; other = c.in-Err-check_identity.ensures.other; kept_id = refl; found_id = refl };
      reads = c.read_config.ensures.reads;
      faults = record { grows = c.read_config.ensures.grows; quiet = λ n. same };
    }))

pub returns-in-Err-cached_store-clause-unread : goal.returns-in-Err-cached_store-clause-unread
returns-in-Err-cached_store-clause-unread g c =
    let V = g.V.Vault in
    let trace = λ (x : RedoOf g). V.trace x.vault in
    let faults = λ (x : RedoOf g). V.faults x.vault in
    let et = c.in-Err-cached_store.ensures.back.trace ∙ ap trace c.new-sealed.ensures.vault in
    let ef = c.in-Err-cached_store.ensures.back.faults ∙ (ap faults c.new-sealed.ensures.vault ∙ (c.in-Ok.ensures.quiet (λ is. ok_err c.in-Ok.opened _ is) ∙ ap faults c.new-redo.ensures)) in
    record {
      cause = tt;
      reads = subst (λ t. ReadsConfigOnce (V.trace c.args.vault) t) (sym et) (subst (λ (x : RedoOf g). ReadsConfigOnce (trace x) (trace c.read_config.new.vault)) c.new-redo.ensures c.read_config.ensures.reads);
      faults = record { grows = omega (arith, ef); quiet = λ n. ef };
    }

pub new-sealed-requires-clause-size : goal.new-sealed-requires-clause-size
new-sealed-requires-clause-size g c = (c.in-Ok.ensures.size.low, c.in-Ok.ensures.size.high)

pub cached_store-requires-clause-config : goal.cached_store-requires-clause-config
cached_store-requires-clause-config g c =
    let f = c.in-Ok.ensures.ok in
    let e = ap (λ (x : RedoOf g). x.list) c.new-sealed.ensures.vault ∙ c.read_config.ensures.list in
    subst (λ l. IsNoBlock (change_at config l)) (sym e) (no_block (change_at config c.new-redo.result.list) _ _ f.answer f.gave f.opens.0)

pub returns-in-Ok-cached_store-clause-store : goal.returns-in-Ok-cached_store-clause-store
returns-in-Ok-cached_store-clause-store g c =
    let list = λ (x : RedoOf g). x.list in
    let faults = λ (x : RedoOf g). g.V.Vault.faults x.vault in
    let e = c.in-Ok-cached_store.ensures in
    record {
      intact = e.intact;
      few = e.few;
      waits = e.holds.made.list ∙ (ap list c.new-sealed.ensures.vault ∙ (c.read_config.ensures.list ∙ ap list c.new-redo.ensures));
      holds = e.holds.state;
      identity = e.holds.made.identity
          ∙ identity_is (held_of (λ (cipher : Cipher) key extra text. opened_of key extra text) c.new-sealed.result c.args.state) (settings_of c.in-Ok.opened.config) (plain_state c.args.state) c.new-sealed.ensures.size
          (ap opened_of c.new-sealed.ensures.key) refl c.requires.unmarked c.in-Ok-check_identity.ensures.ok;
      unfailed = e.holds.made.faults ∙ (ap faults c.new-sealed.ensures.vault ∙ (c.in-Ok.ensures.quiet (λ is. ok_err c.in-Ok.opened _ is) ∙ ap faults c.new-redo.ensures));
    }

pub returns-in-Ok-cached_store-clause-found : goal.returns-in-Ok-cached_store-clause-found
returns-in-Ok-cached_store-clause-found g c =
    let trace = λ (x : RedoOf g). g.V.Vault.trace x.vault in
    let o = c.in-Ok.opened in
    let state = plain_state c.args.state in
    let P = λ (x : RedoOf g) (t : Option (List Call)). FindsConfig c.args.password.now state x.list (trace x) t o in
    subst (λ t. P (record { vault = c.args.vault; list = list_of c.args.list.items }) t) (sym (c.in-Ok-cached_store.ensures.holds.made.trace ∙ ap trace c.new-sealed.ensures.vault))
    (subst (λ x. P x (trace c.read_config.new.vault)) c.new-redo.ensures (record { found = c.in-Ok.ensures.ok; is_of = c.in-Ok-check_identity.ensures.ok; reads = c.read_config.ensures.reads }))

pub returns-in-Ok-cached_store-clause-stands : goal.returns-in-Ok-cached_store-clause-stands
returns-in-Ok-cached_store-clause-stands g c holder content kept is s =
    let V = g.V.Vault in
    let state = plain_state c.args.state in
    let list = list_of c.args.list.items in
    let cfg = settings_of c.in-Ok.opened.config in
    let t0 = V.trace c.args.vault in
    let t = V.trace (vault_in c.in-Ok-cached_store.store) in
    let e : holder_of state ≡ holder = stands_holder cfg holder state list kept t0 content is s in
    let reads : ReadsConfigOnce t0 t = (returns-in-Ok-cached_store-clause-found g c).reads in
    let s1 : Stands (identity_for cfg (holder_of state)) kept t0 content = subst (λ x. Stands (identity_for cfg x) kept t0 content) (sym e) s in
    let s2 : Stands (identity_for cfg (holder_of state)) kept t content = reads_stands (identity_for cfg (holder_of state)) kept content t0 t reads s1 in
    let waits : c.new-sealed.result.vault.list ≡ list = ap (λ (x : RedoOf g). x.list) c.new-sealed.ensures.vault ∙ (c.read_config.ensures.list ∙ ap (λ (x : RedoOf g). x.list) c.new-redo.ensures) in
    c.in-Ok-cached_store.ensures.sound.opened content kept (subst (λ l. IsRecord state l kept) (sym waits) is)
    (subst (λ i. Stands i kept t content) (sym (returns-in-Ok-cached_store-clause-store g c).identity) s2)

pub returns-in-Ok-cached_store-clause-version : goal.returns-in-Ok-cached_store-clause-version
returns-in-Ok-cached_store-clause-version g c id = c.in-Ok-cached_store.ensures.holds.made.version id
