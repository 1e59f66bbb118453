use Rattle.std.specs.FinMap as fin
use Rattle.std.proofs.Common.{◌≡◌, ◌≤◌, ◌+◌, refl, sym, ◌∙◌, ap, subst, false, arith, inl}
use Rattle.mount_core.specs.answers.declared.answer.Answer.{Answer}
use Rattle.mount_core.specs.answers.declared.answer.Answer.TheVariants.{Reply as Replied, Memory, Spent, FaultDirectory, Violation, Refused}
use Rattle.mount_core.specs.answers.Sessions.{is_violation, directory_faults, state_faults}
use Rattle.block_id.specs.declared.fail.Why.{Why}
use Rattle.mount_core.specs.store_outcome.Meanings.{HasCause}
use Rattle.mount_core.specs.store_outcome.Outcome.{alarm as no_alarm}
use Rattle.outside.specs.Causes.{RoseBy}
use Rattle.outside.specs.Going.{goes_on_onward}
use Rattle.mount_core.proofs.store_api_lemmas.Draws.{later_same}
use Rattle.mount_core.specs.store_api.Txs.{tx_laws}
use Rattle.mount_core.specs.path_layer.Performing.{IsReplyTo}
use Rattle.mount_core.specs.path_layer.Showing.{ShowsFiles}
use Rattle.mount_core.proofs.path_layer_lemmas.Shows.{files_same}
use Rattle.mount_core.specs.Answers.{is_done_answer, is_structure, Notices, OnReply, OnSpent, OnFound}
use Rattle.mount_core.specs.Causes.{SpentCause}
use Rattle.mount_core.specs.Drawing.{DrawsOnce, NamesOfSeed}
use Rattle.mount_core.specs.NoticeLaws.{none_came, notices_of}
use Rattle.mount_core.specs.Sparing.{FewRaised}
use Rattle.mount_core.specs.Standing.{CorePerformed}
use Rattle.mount_core.specs.declared.body.Core.{Core}
use Rattle.mount_answering.proofs.Draws.{draws_on}
use Rattle.mount_answering.proofs.Asking.{shown_now, asked, performed_failed}
use Rattle.mount_answering.proofs.Lines.{calm, configures_loaded, fail_each, found_of, of_blocks, settle_each, spent_on, stays_on, whole_loaded}
use Rattle.mount_answering.proofs.Loads.{only_asked, only_loaded}
use Rattle.mount_answering.proofs.Versions.{raised_stays, raised_on, few_stays, few_on, few_changed, always_inside, on_inside, spent_before}
use Rattle.mount_answering.proofs.Quiet.{fail_directory, fail_directory_rose}
use Rattle.mount_answering.proofs.answering.ask_begun.Given.{Over}
use Rattle.mount_answering.proofs.answering.ask_begun.Goals as goal
use Rattle.mount_core.specs.record_saver.Saving.{world}

abbrev CoreOf : Over → Type 0
CoreOf g = Core g.row.S.Denot g.row.K.Denot

pub settle-requires-clause-can : goal.settle-requires-clause-can
settle-requires-clause-can g c =
    let old = c.args.core.now in
    let ready = c.requires.can.ready in
    record {
      intact = c.in-Ok.ensures.outcome.intact;
      room = ready.room;
      can_mark = ready.can_mark;
      whole = whole_loaded ShowsFiles g.S.Blocks.meanings g.S.Blocks.holdings g.S.Durable.durables g.S.Durable.records g.K.Keeper g.S.BlocksMut.applied g.met.S.Durable.enduring old.saver old.blobs.tx.store c.perform.new.blobs.tx.store
          c.in-Ok.ensures.outcome.loaded.0 ready.whole;
    }

pub returns-in-Ok : goal.returns-in-Ok
returns-in-Ok g c =
    let M = g.S.Blocks.meanings in
    let H = g.S.Blocks.holdings in
    let D = g.S.Durable.durables in
    let R = g.S.Durable.records in
    let lawful = g.met.S.Blocks.lawful in
    let endures = g.met.S.Durable.enduring in
    let old = c.args.core.now in
    let store = old.blobs.tx.store in
    let command = c.args.command.now in
    let mid : CoreOf g = record old { blobs = c.perform.new.blobs } in
    let asked_of = mid.blobs.tx.store in
    let new = c.settle.new.core.blobs.tx.store in
    let answer = c.settle.result in
    let o = c.in-Ok.ensures.outcome in
    let z = c.settle.ensures in
    let stays = g.met.S.BlocksMut.settled store asked_of o.loaded.0 in
    let each : (P : Answer → Type 0) → P (Replied c.in-Ok.reply) → P Memory → P Spent → P answer = settle_each answer c.in-Ok.reply z.answers in
    let rose : RoseBy 0 (M.faults store) (M.faults new) = omega (arith, z.store.faults, lawful.faults_grow store asked_of o.loaded.0) in
    let unforged : M.forgeries new ≤ M.forgeries store → M.forgeries asked_of ≤ M.forgeries store = λ few. omega (arith, z.store.forgeries, few) in
    record {
      ready = z.ready;
      form = record {
        unfaulted = each (λ a. state_faults a ≡ 0) refl refl refl;
        variant = each (λ a. OnReply a (IsReplyTo command)) c.in-Ok.ensures.variant tt tt;
        served = each (λ a. a ≡ Refused → ⊥) (λ is. cc) (λ is. cc) (λ is. cc);
      };
      trees = record {
        stands = λ kept present s few.
            let shown = shown_now ShowsFiles M H D R g.K.Keeper files_same g.met.S.Blocks.steady g.S.BlocksMut.applied g.met.S.BlocksMut.settled endures old kept present s c.requires.can.ready.empty in
            z.trees.stands c.args.now kept present
            (asked ShowsFiles M H D R g.K.Keeper files_same g.met.S.Blocks.steady g.S.BlocksMut.applied g.met.S.BlocksMut.settled endures c.args.now old mid kept present command c.in-Ok.reply s o.loaded.0 refl refl (o.sound s.sound (unforged few)) (o.value (record { tree = present; shown = shown }) s.sound (unforged few)));
        configures = λ may present s. z.trees.configures may present (configures_loaded ShowsFiles M H D R g.K.Keeper g.S.BlocksMut.applied endures old mid may present s o.loaded.0 stays refl refl);
        alarm = λ kept present s honest. each (λ a. is_violation a ≡ false) refl refl refl;
        built = λ kept present s few. each (λ a. is_structure a ≡ false) refl refl refl;
        sparing = λ kept present s few.
            let shown = shown_now ShowsFiles M H D R g.K.Keeper files_same g.met.S.Blocks.steady g.S.BlocksMut.applied g.met.S.BlocksMut.settled endures old kept present s c.requires.can.ready.empty in
            on_inside (H.payload store) present command (λ most. fin.len mid.blobs.tx.overlay ≤ fin.len old.blobs.tx.overlay + most) (FewRaised H store new)
            (λ most count. few_on H store asked_of new most stays (few_changed H asked_of new old.blobs.tx.overlay mid.blobs.tx.overlay most c.requires.can.ready.empty count z.store.rests))
            (c.perform.ensures.sparing (record { tree = present; shown = shown }) s.sound (unforged few));
      };
      store = record {
        stays = λ undone. stays_on H store asked_of new stays (z.store.stays undone);
        loads = only_asked M H D (is_done_answer answer) store asked_of new o.loaded.0 (λ undone. lawful.onward store asked_of new o.loaded.0 (z.store.loaded undone)) (λ done. z.store.uncalled);
        goes_on = goes_on_onward _ (D.trace asked_of) _ (endures.loaded_goes_on store asked_of o.loaded.0) z.store.goes_on;
        sound = λ sound few. z.store.sound (o.sound sound (unforged few));
        payload = z.store.payload ∙ stays.payload;
        identity = z.store.identity ∙ endures.loaded_identity store asked_of o.loaded.0;
        least = z.store.least ∙ endures.loaded_least store asked_of o.loaded.0;
        forgeries = omega (arith, z.store.forgeries, lawful.forgeries_grow store asked_of o.loaded.0);
        lies = omega (arith, z.store.lies, lawful.lies_grow store asked_of o.loaded.0);
        unforged = λ sound honest. omega (arith, z.store.forgeries, lawful.honest_unforged store asked_of o.loaded.0 sound (omega (arith, z.store.lies, honest)));
        found = each (λ a. OnFound a (M.met store new)) tt tt tt;
        noticed = none_came answer (M.gave store new) (λ why gave. o.noticed why (endures.gave_along store asked_of new why z.store.uncalled gave));
        vault_grows = omega (arith, z.store.faults, lawful.faults_grow store asked_of o.loaded.0);
        vault_cause = each (λ a. RoseBy (directory_faults a) (M.faults store) (M.faults new)) rose rose rose;
        vault_quiet = λ none. z.store.faults ∙ o.quiet;
        spent = spent_on answer (SpentCause H asked_of command) (SpentCause H store command) (spent_before H store asked_of command stays) z.store.spent;
        raised = raised_on H store asked_of new stays z.store.raised;
      };
      saver = record {
        keeper = z.saver.keeper;
        last = z.saver.last;
        saver = z.saver.saver;
        violated = z.saver.violated;
        root = z.saver.root;
      };
      draws = draws_on M H D lawful g.S.BlocksMut.applied g.S.BlocksMut.drawn (NamesOfSeed H old.blobs.tx.seed) store asked_of new (g.R.Rng.stream c.args.chance.now) (g.R.Rng.stream c.settle.new.chance) o.loaded.0
          (subst (λ seed. DrawsOnce M (NamesOfSeed H seed) g.S.BlocksMut.applied g.S.BlocksMut.drawn asked_of new (g.R.Rng.stream c.args.chance.now) (g.R.Rng.stream c.settle.new.chance)) o.loaded.1 z.draws);
    }

pub returns-in-Err : goal.returns-in-Err
returns-in-Err g c =
    let M = g.S.Blocks.meanings in
    let H = g.S.Blocks.holdings in
    let D = g.S.Durable.durables in
    let R = g.S.Durable.records in
    let lawful = g.met.S.Blocks.lawful in
    let endures = g.met.S.Durable.enduring in
    let old = c.args.core.now in
    let store = old.blobs.tx.store in
    let command = c.args.command.now in
    let new : CoreOf g = record old { blobs = record { tx = c.abandon.new.self } } in
    let after = new.blobs.tx.store in
    let e = c.abandon.ensures.store in
    let fail = c.in-Err.fail in
    let o = c.in-Err.ensures.outcome in
    let loaded = subst (M.loaded store) (sym e) o.loaded.0 in
    let stays = g.met.S.BlocksMut.settled store after loaded in
    let answer = c.fail_answer.ensures in
    let each : (P : Answer → Type 0) → P Memory → P FaultDirectory → ((why : Why) → P (Violation why)) → P c.fail_answer.result = λ P memory fault violation. subst P (sym answer) (fail_each fail P memory fault violation) in
    let unforged : M.forgeries after ≤ M.forgeries store → M.forgeries c.perform.new.blobs.tx.store ≤ M.forgeries store = subst (λ x. M.forgeries x ≤ M.forgeries store) e in
    let sound : M.sound store → M.forgeries after ≤ M.forgeries store → M.sound after = λ sound few. subst M.sound (sym e) (o.sound sound (unforged few)) in
    record {
      ready = record {
        intact = c.abandon.ensures.intact.0;
        empty = c.abandon.ensures.overlay;
        few = c.abandon.ensures.intact.1.few;
        room = c.requires.can.ready.room;
        can_mark = c.requires.can.ready.can_mark;
        whole = whole_loaded ShowsFiles M H D R g.K.Keeper g.S.BlocksMut.applied endures old.saver store after loaded c.requires.can.ready.whole;
      };
      form = record {
        unfaulted = each (λ a. state_faults a ≡ 0) refl refl (λ why. refl);
        variant = each (λ a. OnReply a (IsReplyTo command)) tt tt (λ why. tt);
        served = each (λ a. a ≡ Refused → ⊥) (λ is. cc) (λ is. cc) (λ why is. cc);
      };
      trees = record {
        stands = λ kept present s few. subst (λ a. CorePerformed ShowsFiles (world M H D R g.K.Keeper) c.args.now new kept present command a) (sym answer)
            (performed_failed ShowsFiles M H D R g.K.Keeper files_same g.met.S.Blocks.steady g.S.BlocksMut.applied g.met.S.BlocksMut.settled endures c.args.now old new kept present command fail s loaded refl refl (sound s.sound few));
        configures = λ may present s. configures_loaded ShowsFiles M H D R g.K.Keeper g.S.BlocksMut.applied endures old new may present s loaded stays refl refl;
        alarm = λ kept present s honest.
            let shown = shown_now ShowsFiles M H D R g.K.Keeper files_same g.met.S.Blocks.steady g.S.BlocksMut.applied g.met.S.BlocksMut.settled endures old kept present s c.requires.can.ready.empty in
            subst (λ a. is_violation a ≡ false) (sym answer) (calm fail
            (no_alarm (tx_laws M H lawful) o (record { tree = present; shown = shown }) s.sound (subst (λ x. M.lies x ≤ M.lies store) e honest)));
        built = λ kept present s few.
            let shown = shown_now ShowsFiles M H D R g.K.Keeper files_same g.met.S.Blocks.steady g.S.BlocksMut.applied g.met.S.BlocksMut.settled endures old kept present s c.requires.can.ready.empty in
            subst (λ a. is_structure a ≡ false) (sym answer) (of_blocks fail (o.structure (record { tree = present; shown = shown }) s.sound (unforged few)));
        sparing = λ kept present s few. always_inside (H.payload store) present command (FewRaised H store after) (λ most. few_stays H store after most stays);
      };
      store = record {
        stays = λ undone. stays;
        loads = only_loaded M H D (is_done_answer c.fail_answer.result) store after loaded;
        goes_on = endures.loaded_goes_on store after loaded;
        sound = sound;
        payload = stays.payload;
        identity = endures.loaded_identity store after loaded;
        least = endures.loaded_least store after loaded;
        forgeries = lawful.forgeries_grow store after loaded;
        lies = lawful.lies_grow store after loaded;
        unforged = lawful.honest_unforged store after loaded;
        found = subst (λ a. OnFound a (M.met store after)) (sym answer) (found_of fail (M.met store c.perform.new.blobs.tx.store) (M.met store after) (λ why. subst (λ x. M.met store x why) (sym e)) o.met);
        noticed = subst (λ a. Notices a (M.gave store after)) (sym answer)
            (notices_of fail (M.gave store c.perform.new.blobs.tx.store) (M.gave store after) (λ why. subst (λ x. M.gave store x why) e) o.noticed);
        vault_grows = lawful.faults_grow store after loaded;
        vault_cause = subst (λ a. RoseBy (directory_faults a) (M.faults store) (M.faults after)) (sym answer)
            (fail_directory_rose fail _ _ (lawful.faults_grow store after loaded) (subst (λ x. HasCause fail (M.faults store) (M.faults x)) (sym e) o.fault));
        vault_quiet = λ none. ap M.faults e ∙ fail_directory fail (M.faults c.perform.new.blobs.tx.store ≡ M.faults store) o.quiet (subst (λ a. directory_faults a ≡ 0) answer none);
        spent = each (λ a. OnSpent a (SpentCause H store command)) tt tt (λ why. tt);
        raised = raised_stays H store after stays;
      };
      saver = record {
        keeper = refl;
        last = refl;
        saver = λ undone. refl;
        violated = refl;
        root = refl;
      };
      draws = inl (loaded, later_same (g.R.Rng.stream c.args.chance.now));
    }
