use Rattle.std.proofs.Common.{◌≡◌, ◌≤◌, ◌⊎◌, ◌||◌, sym, ◌∙◌, ap, subst, refl, true, false, arith, inl, inr}
use Rattle.std.specs.Prelude.{Ok}
use Rattle.mount_core.specs.Answering.{LineAnswered, StoreAnswers}
use Rattle.mount_core.specs.Drawing.{LineDraws}
use Rattle.mount_core.specs.LineLaws.{refused}
use Rattle.mount_answering.proofs.Draws.{line_synced}
use Rattle.mount_answering.proofs.Stores.{store_synced, store_on}
use Rattle.fs_model.specs.Tree.{Tree}
use Rattle.std.specs.declared.option.Option.TheVariants.{Some}
use Rattle.outside.specs.Causes.{RoseBy}
use Rattle.mount_core.specs.record_saver.declared.saver.Saver.{Saver}
use Rattle.mount_core.specs.store_api.Durables.{with_mark}
use Rattle.mount_core.specs.store_api.declared.tx.Tx.{Tx}
use Rattle.mount_core.specs.path_layer.Performing.{IsReplyTo}
use Rattle.mount_core.specs.path_layer.Showing.{ShowsFiles}
use Rattle.mount_core.specs.path_layer.Sparing.{OnWriteInside}
use Rattle.mount_core.specs.answers.declared.answer.Answer.{Answer}
use Rattle.mount_core.specs.answers.declared.answer.Answer.TheVariants.{Memory, FaultDirectory, FaultState, Refused}
use Rattle.mount_core.specs.answers.Sessions.{is_violation, directory_faults, state_faults}
use Rattle.mount_core.specs.declared.body.Core.{Core}
use Rattle.mount_core.specs.Answers.{is_structure, OnReply, OnSpent, OnFound}
use Rattle.mount_core.specs.Causes.{SpentCause, MadeRoom, FoundCause}
use Rattle.mount_core.specs.Sparing.{FewRaised}
use Rattle.mount_core.specs.Configuring.{ConfigAnswered}
use Rattle.mount_core.specs.Standing.{CoreStands, IsKeptMarked, Roomed}
use Rattle.mount_answering.proofs.Formats.{least_marked}
use Rattle.mount_answering.proofs.Loads.{room_stopped}
use Rattle.mount_answering.proofs.Lines.{answered_err, answered_synced, answered_performed, answered_violation, sync_each, sync_reads, no_violation, config_marked, config_calm, marked_or, true_is_false}
use Rattle.mount_answering.proofs.Keeping.{asked_keeps, marked_kept}
use Rattle.mount_answering.proofs.Versions.{few_stays, few_on, always_inside, on_inside}
use Rattle.mount_answering.proofs.Quiet.{sync_directory, sync_state, sync_directory_rose, sync_state_rose}
use Rattle.mount_answering.proofs.answering.answer.Given.{Over}
use Rattle.mount_answering.proofs.answering.answer.Goals as goal
use Rattle.mount_core.specs.record_saver.Saving.{world}

abbrev CoreOf : Over → Type 0
CoreOf g = Core g.row.S.Denot g.row.K.Denot

-- by either tree that may be kept
either : (g : Over) (core : CoreOf g) (kept present : Tree) (P : Type 0) → Roomed ShowsFiles (world g.S.Blocks.meanings g.S.Blocks.holdings g.S.Durable.durables g.S.Durable.records g.K.Keeper) core kept present
    → ((k : Tree) → CoreStands ShowsFiles (world g.S.Blocks.meanings g.S.Blocks.holdings g.S.Durable.durables g.S.Durable.records g.K.Keeper) core k present → P) → P
either g core kept present P (inl m) f = f kept m
either g core kept present P (inr m) f = f present m

pub returns-then-core : goal.returns-then-core
returns-then-core g c =
    let r = refused ShowsFiles g.S.Blocks.meanings g.S.Blocks.holdings g.S.Durable.durables g.S.Durable.records g.K.Keeper g.met.S.Blocks.lawful c.args.now c.args.core.now (Ok c.args.command.now) c.if-core.true in
    record { ready = c.requires.can.ready; form = r.form; trees = r.trees; store = r.store; saver = record { saver = r.saver; keeps = r.keeps }; draws = line_synced g.S.Blocks.meanings g.S.Blocks.holdings g.S.Durable.durables g.met.S.Blocks.lawful g.S.BlocksMut.applied g.S.BlocksMut.drawn c.args.core.now.blobs.tx.store c.args.core.now.blobs.tx.store (g.R.Rng.stream c.args.chance.now) (inl refl) refl; unmoved = λ is fresh unchanged. absurd (true_is_false (sym c.if-core.true ∙ fresh)) }

pub returns-in-Err : goal.returns-in-Err
returns-in-Err g c =
    let M = g.S.Blocks.meanings in
    let H = g.S.Blocks.holdings in
    let D = g.S.Durable.durables in
    let R = g.S.Durable.records in
    let failed = g.K.Keeper.faults in
    let old = c.args.core.now in
    let store = old.blobs.tx.store in
    let command = c.args.command.now in
    let new = c.sync_first.new.core in
    let z = c.in-Err.ensures in
    let l = z.moves.leaves in
    let error = c.in-Err.error in
    let answer = c.sync_answer.ensures in
    let each : (P : Answer → Type 0) → P Memory → P FaultDirectory → P FaultState → P c.sync_answer.result = λ P memory directory state. subst P (sym answer) (sync_each error P memory directory state) in
    let calm = each (λ a. is_violation a ≡ false) refl refl refl in
    let unsynced = λ (unchanged : old.saver.changed ≡ false). ap (λ (core : CoreOf g). core.blobs.tx.store) (z.makes_room.unmoved unchanged).1 in
    let same = g.met.S.Blocks.lawful.same new.blobs.tx.store in
    let unmoved : old.saver.changed ≡ false → ⊥ = λ unchanged. true_is_false (sym (z.makes_room.unmoved unchanged).0) in
    record {
      ready = z.moves.ready;
      form = record {
        refused = λ violated. absurd (true_is_false (sym violated ∙ c.if-core.false));
        served = λ fresh. each (λ a. a ≡ Refused → ⊥) (λ is. cc) (λ is. cc) (λ is. cc);
        violated = z.moves.violated ∙ sym (ap (λ b. b || old.violated) calm);
        unread = tt;
        root = z.moves.root;
        variant = each (λ a. OnReply a (IsReplyTo command)) tt tt tt;
      };
      trees = record {
        stands = λ kept present fresh s few. subst (λ a. LineAnswered ShowsFiles (world M H D R g.K.Keeper) c.args.now new kept present (Ok command) a) (sym answer) (answered_err ShowsFiles M H D R g.K.Keeper c.args.now new kept present command error (z.makes_room.stands kept present s));
        configures = λ may present s. config_calm ShowsFiles M H D R g.K.Keeper new may present _ calm (z.makes_room.configures may present s);
        alarm = λ kept present fresh s honest. calm;
        built = λ kept present fresh s few. each (λ a. is_structure a ≡ false) refl refl refl;
        sparing = λ kept present s few. always_inside (H.payload store) present command (FewRaised H store new.blobs.tx.store) (λ most. few_stays H store new.blobs.tx.store most l.stays);
      };
      store = store_synced M H D R g.K.Keeper old.violated old.saver.changed command c.sync_answer.result store new.blobs.tx.store old.saver.keeper new.saver.keeper _ same (g.met.S.Blocks.lawful.gave_same new.blobs.tx.store) unsynced z.makes_room.wrote l
          (λ fresh other. subst (λ a. MadeRoom M H D old.saver.changed a store new.blobs.tx.store) (sym answer)
          (room_stopped M H D old.saver.changed error store new.blobs.tx.store unsynced z.makes_room.wrote l.stays (λ few. ap (λ (core : CoreOf g). core.blobs.tx.store) (z.makes_room.spared other few).1) same))
          (each (λ a. OnFound a (FoundCause M H D old.saver.changed store new.blobs.tx.store)) tt tt tt)
          (subst (λ a. RoseBy (directory_faults a) (M.faults store) (M.faults new.blobs.tx.store)) (sym answer) (sync_directory_rose error _ _ l.vault_grows l.vault_cause))
          (λ none. sync_directory error _ l.vault_quiet (subst (λ a. directory_faults a ≡ 0) answer none))
          (each (λ a. OnSpent a (SpentCause H store command)) tt tt tt);
      saver = record {
        saver = record {
          unsaved = λ unchanged calm. absurd (unmoved unchanged);
          unchanged = λ unchanged calm undone. absurd (unmoved unchanged);
          unmoved = λ is fresh unchanged. absurd (unmoved unchanged);
          keeper_cause = subst (λ a. RoseBy (state_faults a) (failed old.saver.keeper) (failed new.saver.keeper)) (sym answer) (sync_state_rose error _ _ l.keeper_grows l.keeper_cause);
          keeper_quiet = λ none calm. sync_state error _ l.keeper_quiet (subst (λ a. state_faults a ≡ 0) answer none);
          marked = λ bad. absurd (true_is_false (sym bad ∙ calm));
          least = z.moves.least;
        };
        keeps = record { calm = λ calm. z.makes_room.keeps; marks = λ bad. absurd (true_is_false (sym bad ∙ calm)) };
      };
      draws = line_synced M H D g.met.S.Blocks.lawful g.S.BlocksMut.applied g.S.BlocksMut.drawn store new.blobs.tx.store (g.R.Rng.stream c.args.chance.now) z.makes_room.wrote l.stays.used;
      unmoved = λ is fresh unchanged. absurd (unmoved unchanged);
    }

pub returns-then-is_sync : goal.returns-then-is_sync
returns-then-is_sync g c =
    let M = g.S.Blocks.meanings in
    let H = g.S.Blocks.holdings in
    let D = g.S.Durable.durables in
    let R = g.S.Durable.records in
    let old = c.args.core.now in
    let store = old.blobs.tx.store in
    let command = c.args.command.now in
    let new = c.sync_first.new.core in
    let z = c.in-Ok.ensures in
    let l = z.moves.leaves in
    let is = sym c.is_sync.ensures ∙ c.if-is_sync.true in
    let unsynced = λ (unchanged : old.saver.changed ≡ false). ap (λ (core : CoreOf g). core.blobs.tx.store) (z.makes_room.unmoved unchanged).1 in
    record {
      ready = z.moves.ready;
      form = record {
        refused = λ violated. absurd (true_is_false (sym violated ∙ c.if-core.false));
        served = λ fresh is. cc;
        violated = z.moves.violated;
        unread = tt;
        root = z.moves.root;
        variant = sync_reads command is;
      };
      trees = record {
        stands = λ kept present fresh s few. answered_synced ShowsFiles M H D R g.K.Keeper c.args.now new kept present command is (z.makes_room.synced is kept present s);
        configures = z.makes_room.configures;
        alarm = λ kept present fresh s honest. refl;
        built = λ kept present fresh s few. refl;
        sparing = λ kept present s few. always_inside (H.payload store) present command (FewRaised H store new.blobs.tx.store) (λ most. few_stays H store new.blobs.tx.store most l.stays);
      };
      store = store_synced M H D R g.K.Keeper old.violated old.saver.changed command _ store new.blobs.tx.store old.saver.keeper new.saver.keeper _ (g.met.S.Blocks.lawful.same new.blobs.tx.store) (g.met.S.Blocks.lawful.gave_same new.blobs.tx.store) unsynced z.makes_room.wrote l
          (λ fresh other. absurd (true_is_false (sym is ∙ other))) tt (omega (arith, l.vault_grows)) (λ none. l.vault_quiet) tt;
      saver = record {
        saver = record {
          unsaved = λ unchanged calm. (ap (λ (core : CoreOf g). core.saver.keeper) (z.makes_room.unmoved unchanged).1, ap (λ (core : CoreOf g). core.saver.last) (z.makes_room.unmoved unchanged).1);
          unchanged = λ unchanged calm undone. ap (λ (core : CoreOf g). core.saver.changed) (z.makes_room.unmoved unchanged).1 ∙ unchanged;
          unmoved = λ is fresh unchanged. (inl refl, (z.makes_room.unmoved unchanged).1);
          keeper_cause = omega (arith, l.keeper_grows);
          keeper_quiet = λ none calm. l.keeper_quiet;
          marked = λ bad. absurd (true_is_false (sym bad));
          least = z.moves.least;
        };
        keeps = record { calm = λ calm. z.makes_room.keeps; marks = λ bad. absurd (true_is_false (sym bad)) };
      };
      draws = line_synced M H D g.met.S.Blocks.lawful g.S.BlocksMut.applied g.S.BlocksMut.drawn store new.blobs.tx.store (g.R.Rng.stream c.args.chance.now) z.makes_room.wrote l.stays.used;
      unmoved = λ is fresh unchanged. (refl, (z.makes_room.unmoved unchanged).1);
    }

pub returns-in-Violation : goal.returns-in-Violation
returns-in-Violation g c =
    let M = g.S.Blocks.meanings in
    let H = g.S.Blocks.holdings in
    let D = g.S.Durable.durables in
    let R = g.S.Durable.records in
    let failed = g.K.Keeper.faults in
    let kept = g.K.Keeper.kept in
    let old = c.args.core.now in
    let store = old.blobs.tx.store in
    let command = c.args.command.now in
    let room = c.sync_first.new.core in
    let asked = c.ask-answer.new.core in
    let new = c.mark.new.core in
    let z = c.in-Ok.ensures in
    let l = z.moves.leaves in
    let w = c.ask-answer.ensures in
    let other = sym c.is_sync.ensures ∙ c.if-is_sync.false in
    let unsynced = λ (unchanged : old.saver.changed ≡ false). ap (λ (core : CoreOf g). core.blobs.tx.store) (z.makes_room.unmoved unchanged).1 in
    let e : new.blobs.tx.store ≡ asked.blobs.tx.store = ap (λ (t : Tx g.row.S.Denot). t.store) c.mark.ensures.store in
    let bad = ap is_violation c.in-Violation.is in
    let unforged : M.forgeries new.blobs.tx.store ≤ M.forgeries store → M.forgeries asked.blobs.tx.store ≤ M.forgeries room.blobs.tx.store = λ few. omega (arith, ap M.forgeries e, l.forgeries, few) in
    let honest : M.lies new.blobs.tx.store ≤ M.lies store → M.lies asked.blobs.tx.store ≤ M.lies room.blobs.tx.store = λ few. omega (arith, ap M.lies e, l.lies, few) in
    record {
      ready = c.mark.ensures.ready;
      form = record {
        refused = λ violated. absurd (true_is_false (sym violated ∙ c.if-core.false));
        served = λ fresh. w.form.served;
        violated = c.mark.ensures.violated ∙ sym (ap (λ b. b || old.violated) bad);
        unread = tt;
        root = c.mark.ensures.root ∙ (w.saver.root ∙ z.moves.root);
        variant = w.form.variant;
      };
      trees = record {
        stands = λ kept present fresh s few. subst (λ a. LineAnswered ShowsFiles (world M H D R g.K.Keeper) c.args.now new kept present (Ok command) a) (sym c.in-Violation.is)
            (answered_violation ShowsFiles M H D R g.K.Keeper c.args.now room asked new kept present command c.in-Violation.field-0 c.mark.ensures.store c.mark.ensures.root
            (marked_or R asked.saver _ w.ready.can_mark c.mark.ensures.kept) (z.makes_room.stands kept present s) (λ k n t. c.in-Violation.ensures.trees.stands k n t (unforged few)));
        configures = λ may present s. subst (ConfigAnswered H D R g.K.Keeper new may present) (sym bad)
            (config_marked ShowsFiles M H D R g.K.Keeper g.met.S.Durable.enduring.marked_configures asked new may present c.mark.ensures.store c.mark.ensures.kept (w.trees.configures may present (z.makes_room.configures may present s)));
        alarm = λ kept present fresh s few. either g _ kept present _ (z.makes_room.stands kept present s) (λ k m. w.trees.alarm k present m (honest few));
        built = λ kept present fresh s few. either g _ kept present _ (z.makes_room.stands kept present s) (λ k m. w.trees.built k present m (unforged few));
        sparing = λ kept present s few. subst (λ t. OnWriteInside (H.payload store) present command (FewRaised H store t)) (sym e)
            (on_inside (H.payload store) present command (FewRaised H room.blobs.tx.store asked.blobs.tx.store) (FewRaised H store asked.blobs.tx.store) (λ most raised. few_on H store room.blobs.tx.store asked.blobs.tx.store most l.stays raised)
            (subst (λ n. OnWriteInside n present command (FewRaised H room.blobs.tx.store asked.blobs.tx.store)) l.stays.payload (either g _ kept present _ (z.makes_room.stands kept present s) (λ k m. w.trees.sparing k present m (unforged few)))));
      };
      store = subst (StoreAnswers M H D old.violated old.saver.changed store (Ok command) c.ask-answer.result) (sym e)
          (store_on M H D R g.K.Keeper old.violated old.saver.changed command c.ask-answer.result store room.blobs.tx.store asked.blobs.tx.store old.saver.keeper room.saver.keeper other unsynced z.makes_room.wrote
          (λ few. ap (λ (core : CoreOf g). core.blobs.tx.store) (z.makes_room.spared other few).1) z.makes_room.few l w.store);
      saver = record {
        saver = record {
          unsaved = λ unchanged calm. absurd (true_is_false (sym bad ∙ calm));
          unchanged = λ unchanged calm undone. absurd (true_is_false (sym bad ∙ calm));
          unmoved = λ is fresh unchanged. absurd (true_is_false (sym is ∙ other));
          keeper_cause = omega (arith, w.form.unfaulted, ap failed w.saver.keeper, l.keeper_quiet, c.mark.ensures.keeper_grows);
          keeper_quiet = λ none calm. absurd (true_is_false (sym bad ∙ calm));
          marked = λ bad. subst (λ n. IsKeptMarked R (g.K.Keeper.kept new.saver.keeper) ⊎ RoseBy 1 n (failed new.saver.keeper)) (ap failed w.saver.keeper ∙ l.keeper_quiet) c.mark.ensures.marked;
          least = least_marked M H D R g.K.Keeper store (kept old.saver.keeper) (kept room.saver.keeper) (kept new.saver.keeper)
              (marked_or R asked.saver (kept new.saver.keeper) w.ready.can_mark (subst (λ k. (kept new.saver.keeper ≡ Some (with_mark asked.saver.last.items)) ⊎ (kept new.saver.keeper ≡ k)) (ap kept w.saver.keeper) c.mark.ensures.kept)) z.moves.least;
        };
        keeps = record { calm = λ calm. absurd (true_is_false (sym bad ∙ calm)); marks = λ bad. marked_kept D g.K.Keeper R store old.saver room.saver asked.saver new.saver z.makes_room.keeps w.saver.keeper w.saver.last w.ready.can_mark.marks c.mark.ensures.kept };
      };
      draws = subst (λ t. LineDraws M H D g.S.BlocksMut.applied g.S.BlocksMut.drawn store t (g.R.Rng.stream c.args.chance.now) (g.R.Rng.stream c.ask-answer.new.chance)) (sym e) (record { synced = room.blobs.tx.store; wrote = z.makes_room.wrote; used = l.stays.used; once = w.draws });
      unmoved = λ is fresh unchanged. absurd (true_is_false (sym is ∙ other));
    }

pub returns-in_default : goal.returns-in_default
returns-in_default g c =
    let M = g.S.Blocks.meanings in
    let H = g.S.Blocks.holdings in
    let D = g.S.Durable.durables in
    let R = g.S.Durable.records in
    let failed = g.K.Keeper.faults in
    let kept = g.K.Keeper.kept in
    let old = c.args.core.now in
    let store = old.blobs.tx.store in
    let command = c.args.command.now in
    let room = c.sync_first.new.core in
    let new = c.ask-answer.new.core in
    let z = c.in-Ok.ensures in
    let l = z.moves.leaves in
    let w = c.ask-answer.ensures in
    let other = sym c.is_sync.ensures ∙ c.if-is_sync.false in
    let unsynced = λ (unchanged : old.saver.changed ≡ false). ap (λ (core : CoreOf g). core.blobs.tx.store) (z.makes_room.unmoved unchanged).1 in
    let calm = no_violation c.ask-answer.result c.in_default.not-Violation in
    let unforged : M.forgeries new.blobs.tx.store ≤ M.forgeries store → M.forgeries new.blobs.tx.store ≤ M.forgeries room.blobs.tx.store = λ few. omega (arith, l.forgeries, few) in
    record {
      ready = w.ready;
      form = record {
        refused = λ violated. absurd (true_is_false (sym violated ∙ c.if-core.false));
        served = λ fresh. w.form.served;
        violated = w.saver.violated ∙ (z.moves.violated ∙ sym (ap (λ b. b || old.violated) calm));
        unread = tt;
        root = w.saver.root ∙ z.moves.root;
        variant = w.form.variant;
      };
      trees = record {
        stands = λ kept present fresh s few. answered_performed ShowsFiles M H D R g.K.Keeper c.args.now room new kept present command c.ask-answer.result calm other (z.makes_room.stands kept present s) (λ k n t. w.trees.stands k n t (unforged few));
        configures = λ may present s. config_calm ShowsFiles M H D R g.K.Keeper new may present _ calm (w.trees.configures may present (z.makes_room.configures may present s));
        alarm = λ kept present fresh s honest. calm;
        built = λ kept present fresh s few. either g _ kept present _ (z.makes_room.stands kept present s) (λ k m. w.trees.built k present m (unforged few));
        sparing = λ kept present s few. on_inside (H.payload store) present command (FewRaised H room.blobs.tx.store new.blobs.tx.store) (FewRaised H store new.blobs.tx.store) (λ most raised. few_on H store room.blobs.tx.store new.blobs.tx.store most l.stays raised)
            (subst (λ n. OnWriteInside n present command (FewRaised H room.blobs.tx.store new.blobs.tx.store)) l.stays.payload (either g _ kept present _ (z.makes_room.stands kept present s) (λ k m. w.trees.sparing k present m (unforged few))));
      };
      store = store_on M H D R g.K.Keeper old.violated old.saver.changed command c.ask-answer.result store room.blobs.tx.store new.blobs.tx.store old.saver.keeper room.saver.keeper other unsynced z.makes_room.wrote
          (λ few. ap (λ (core : CoreOf g). core.blobs.tx.store) (z.makes_room.spared other few).1) z.makes_room.few l w.store;
      saver = record {
        saver = record {
          unsaved = λ unchanged calm. (w.saver.keeper ∙ ap (λ (core : CoreOf g). core.saver.keeper) (z.makes_room.unmoved unchanged).1, w.saver.last ∙ ap (λ (core : CoreOf g). core.saver.last) (z.makes_room.unmoved unchanged).1);
          unchanged = λ unchanged calm undone. ap (λ (saver : Saver g.row.K.Denot). saver.changed) (w.saver.saver undone) ∙ (ap (λ (core : CoreOf g). core.saver.changed) (z.makes_room.unmoved unchanged).1 ∙ unchanged);
          unmoved = λ is fresh unchanged. absurd (true_is_false (sym is ∙ other));
          keeper_cause = omega (arith, w.form.unfaulted, ap failed w.saver.keeper, l.keeper_quiet);
          keeper_quiet = λ none calm. ap failed w.saver.keeper ∙ l.keeper_quiet;
          marked = λ bad. absurd (true_is_false (sym bad ∙ calm));
          least = least_marked M H D R g.K.Keeper store (kept old.saver.keeper) (kept room.saver.keeper) (kept new.saver.keeper) (inr (ap kept w.saver.keeper)) z.moves.least;
        };
        keeps = record { calm = λ calm. asked_keeps D g.K.Keeper store old.saver room.saver new.saver z.makes_room.keeps w.saver.keeper w.saver.last; marks = λ bad. absurd (true_is_false (sym bad ∙ calm)) };
      };
      draws = record { synced = room.blobs.tx.store; wrote = z.makes_room.wrote; used = l.stays.used; once = w.draws };
      unmoved = λ is fresh unchanged. absurd (true_is_false (sym is ∙ other));
    }
