use Rattle.std.proofs.Common.{◌≡◌, true, length, inl, inr, refl, sym, ◌∙◌, ap, subst, arith, rules}
use Rattle.mount_core.specs.data_nodes.Layout.{IsPayloadLen}
use Rattle.fs_model.specs.Tree.{empty_tree}
use Rattle.outside.specs.Causes.{RoseBy}
use Rattle.outside.specs.Going.{GoesOn, goes_on_equal}
use Rattle.mount_core.specs.store_api.Durables.{Identity, last_told}
use Rattle.mount_core.specs.path_layer.Showing.{ShowsFiles}
use Rattle.mount_core.proofs.record_saver_lemmas.Steps.{unless_directory, memory_directory, memory_state}
use Rattle.mount_opening.proofs.NewBlock.{fits_one, root_raised, always_ok, on_ok, only_one, made, made_config, fine_ok}
use Rattle.mount_opening.proofs.making.make.Goals as goal

pub root_batch-requires : goal.root_batch-requires
root_batch-requires g c =
    let b = c.put_config.new.self in
    let intact = c.put_config.ensures.meant.intact in
    subst IsPayloadLen (sym c.payload.ensures) (g.met.S.Blocks.steady.at_least b intact, g.met.S.Blocks.steady.at_most b intact)

pub apply-requires-clause-fits : goal.apply-requires-clause-fits
apply-requires-clause-fits g c =
    let puts = c.in-Ok-root_batch.ensures in
    fits_one g.S.Blocks.holdings c.args.store c.put_config.new.self c.in-Ok-root_batch.batch c.args.root.0 puts.bytes puts.one (puts.sized ∙ c.payload.ensures) c.put_config.ensures.stays c.requires.free

pub returns-in-Err : goal.returns-in-Err
returns-in-Err g c =
    let p = c.put_config.ensures in
    let trace = g.S.Durable.durables.trace in
    record {
      makes = record {
        stands = λ sound unmarked. inl (refl, λ name. ap (last_told name) p.lists.trace);
        configures = λ told. inl (refl, λ name. ap (last_told name) p.lists.trace);
        emptied = tt;
        versions = tt;
        intact = p.meant.intact;
      };
      leaves = record {
        identity = p.lists.identity;
        least = p.lists.least;
        goes_on = goes_on_equal (trace c.args.store) (trace c.put_config.new.self) p.lists.trace;
        vault_grows = omega (arith, p.faults);
        vault_cause = λ is. absurd (memory_directory is);
        vault_quiet = p.faults;
        keeper_grows = omega arith;
        keeper_cause = λ is. absurd (memory_state is);
        keeper_quiet = refl;
      };
      draws = inl (record { from = c.args.store; trace = refl; used = refl; loaded = c.in-Err.ensures.lists.err; same = refl });
    }

pub returns-in-Err-root_batch : goal.returns-in-Err-root_batch
returns-in-Err-root_batch g c =
    let p = c.put_config.ensures in
    let trace = g.S.Durable.durables.trace in
    record {
      makes = record {
        stands = λ sound unmarked. inl (refl, λ name. ap (last_told name) p.lists.trace);
        configures = λ told. inl (refl, λ name. ap (last_told name) p.lists.trace);
        emptied = tt;
        versions = tt;
        intact = p.meant.intact;
      };
      leaves = record {
        identity = p.lists.identity;
        least = p.lists.least;
        goes_on = goes_on_equal (trace c.args.store) (trace c.put_config.new.self) p.lists.trace;
        vault_grows = omega (arith, p.faults);
        vault_cause = λ is. absurd (memory_directory is);
        vault_quiet = p.faults;
        keeper_grows = omega arith;
        keeper_cause = λ is. absurd (memory_state is);
        keeper_quiet = refl;
      };
      draws = inl (record { from = c.put_config.new.self; trace = p.lists.trace; used = p.stays.used; loaded = g.met.S.Blocks.lawful.same c.put_config.new.self; same = refl });
    }

pub returns-in-Err-apply : goal.returns-in-Err-apply
returns-in-Err-apply g c =
    let trace = g.S.Durable.durables.trace in
    let endures = g.met.S.Durable.enduring in
    let b = c.put_config.new.self in
    let d = c.apply.new.self in
    let p = c.put_config.ensures in
    let z = c.apply.ensures in
    let loaded = c.in-Err-apply.ensures.err.loaded in
    let faults = z.counts.faults ∙ p.faults in
    record {
      makes = record {
        stands = λ sound unmarked. inl (refl, λ name. endures.loaded_last b d name loaded ∙ ap (last_told name) p.lists.trace);
        configures = λ told. inl (refl, λ name. endures.loaded_last b d name loaded ∙ ap (last_told name) p.lists.trace);
        emptied = tt;
        versions = tt;
        intact = z.intact;
      };
      leaves = record {
        identity = endures.loaded_identity b d loaded ∙ p.lists.identity;
        least = endures.loaded_least b d loaded ∙ p.lists.least;
        goes_on = subst (λ t. GoesOn t (trace d)) p.lists.trace (endures.loaded_goes_on b d loaded);
        vault_grows = omega (arith, faults);
        vault_cause = λ is. absurd (memory_directory is);
        vault_quiet = faults;
        keeper_grows = omega arith;
        keeper_cause = λ is. absurd (memory_state is);
        keeper_quiet = refl;
      };
      draws = inl (record { from = b; trace = p.lists.trace; used = p.stays.used; loaded = loaded; same = refl });
    }

pub returns : goal.returns
returns g c =
    let M = g.S.Blocks.meanings in
    let H = g.S.Blocks.holdings in
    let D = g.S.Durable.durables in
    let endures = g.met.S.Durable.enduring in
    let a = c.args.store in
    let b = c.put_config.new.self in
    let d = c.apply.new.self in
    let last = c.sync-result.new.store in
    let result = c.sync-result.result in
    let root = c.args.root.0 in
    let batch = c.in-Ok-root_batch.batch in
    let puts = c.in-Ok-root_batch.ensures in
    let p = c.put_config.ensures in
    let z = c.apply.ensures in
    let y = c.sync-result.ensures.syncs in
    let m = c.sync-result.ensures.moves in
    let l = m.leaves in
    let changed = c.in-Ok-apply.ensures.ok.changed in
    let applied = c.in-Ok-apply.ensures.ok.makes in
    let identity = endures.applied_identity b d batch applied ∙ p.lists.identity in
    let trace = endures.applied_trace b d batch applied ∙ p.lists.trace in
    let faults = z.counts.faults ∙ p.faults in
    record {
      makes = record {
        stands = λ sound unmarked.
            let told = g.met.S.Blocks.steady.sound_told a sound in
            let only = only_one (H.content a) (H.content b) (H.content d) batch root puts.bytes puts.one c.requires.none (p.stays.content told) (changed.content (p.stays.told ∙ told)) in
            let wide : length root ≡ 16 = search rules in
            let shown = subst (λ n. ShowsFiles n root (H.content d) empty_tree) (c.payload.ensures ∙ p.stays.payload) (puts.shows (H.content d) wide only) in
            made (ShowsFiles (H.payload a) root) D g.S.Durable.records g.K.Keeper a last _ c.sync-result.new.self d (H.content d) result trace shown (λ f. let unchanged = fine_ok result _ f m.ok in (c.sync-result.new.self.last.items, m.whole.kept unchanged, m.whole.last unchanged))
            (y.stands (H.content d) (changed.sound (p.meant.sound sound)) (ap (λ (i : Identity). i.marked) identity ∙ unmarked) (λ id. refl));
        configures = λ told.
            made_config (ShowsFiles (H.payload a) root) D g.S.Durable.records g.K.Keeper a last _ c.sync-result.new.self d c.args.config.items result trace
            (y.configures (D.local_record_of d true) c.args.config.items (changed.told ∙ (p.stays.told ∙ told)) (endures.written d true z.intact) (endures.applied_configures b d batch c.args.config.items applied p.meant.intact z.intact c.in-Ok.ensures.keeps.configures));
        emptied = on_ok result _ _ (λ unchanged. (c.sync-result.new.self.last.items, m.whole.kept unchanged, m.whole.last unchanged)) m.ok;
        versions = always_ok result _ (root_raised M H a b d last batch root puts.bytes puts.one p.stays changed l.stays);
        intact = m.intact;
      };
      leaves = record {
        identity = l.identity ∙ identity;
        least = l.least ∙ (endures.applied_least b d batch applied ∙ p.lists.least);
        goes_on = subst (λ t. GoesOn t (D.trace last)) trace l.goes_on;
        vault_grows = omega (arith, l.vault_grows, faults);
        vault_cause = λ is. subst (λ n. RoseBy 1 n (M.faults last)) faults (l.vault_cause is);
        vault_quiet = unless_directory result _ _ (λ e. e ∙ faults) l.vault_quiet;
        keeper_grows = l.keeper_grows;
        keeper_cause = l.keeper_cause;
        keeper_quiet = l.keeper_quiet;
      };
      draws = inr (record {
        waiting = b;
        used = p.stays.used;
        list = c.in-Ok.ensures.lists.ok;
        trace = p.lists.trace;
        payload = puts.bytes;
        changes = batch;
        one = puts.one;
        filled = d;
        intact = z.intact;
        makes = applied;
        draws = c.in-Ok-apply.ensures.ok.draws;
        wrote = m.wrote;
        keeps = y.keeps;
      });
    }
