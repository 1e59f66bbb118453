-- What a line leaves of its store, by its steps.
use Rattle.std.proofs.Common.{◌≡◌, ◌⊎◌, ◌<◌, ◌∙◌, Bool, false, sym, arith}
use Rattle.std.specs.Prelude.{Result, Ok}
use Rattle.fs_model.specs.declared.command.Command.{Command}
use Rattle.mount_core.specs.store_outcome.Meanings.{Meanings}
use Rattle.outside.specs.Causes.{RoseBy}
use Rattle.outside.specs.Going.{goes_on_onward}
use Rattle.outside.specs.declared.keeper.Keeper.{Ghosts as KeeperGhosts}
use Rattle.block_id.specs.declared.fail.Fail.TheVariants.{Violation as FailViolation}
use Rattle.mount_core.specs.answers.declared.answer.Answer.{Answer}
use Rattle.mount_core.specs.answers.declared.answer.Answer.TheVariants.{Reply as Replied, Memory, Spent, FaultDirectory, FaultState, Violation, Refused}
use Rattle.mount_core.specs.answers.Sessions.{directory_faults}
use Rattle.mount_core.specs.store_api.Durables.{Durables, Records}
use Rattle.mount_core.specs.store_api.Holdings.{Holdings}
use Rattle.mount_core.specs.store_api.Lists.{waiting_weight}
use Rattle.mount_core.specs.record_saver.Saving.{world, Wrote, Leaves}
use Rattle.mount_core.specs.record_saver.declared.saver.SyncError.{SyncError}
use Rattle.mount_core.specs.path_layer.Performing.{is_sync}
use Rattle.mount_core.specs.Answering.{StoreAnswers}
use Rattle.mount_core.specs.Answers.{is_done_answer, OnFound, OnSpent}
use Rattle.block_id.specs.declared.fail.Why.{Why}
use Rattle.mount_core.specs.Causes.{FoundCause, MadeRoom, OnlyLoaded, SpentCause}
use Rattle.mount_core.specs.NoticeLaws.{none_came}
use Rattle.mount_answering.specs.Asking.{StoreAsked}
use Rattle.mount_answering.proofs.Lines.{found_of, spent_on, stays_on, true_is_false}
use Rattle.mount_answering.proofs.Loads.{found_on, only_on, only_synced, room_on}
use Rattle.mount_answering.proofs.Versions.{raised_on, raised_stays, spent_before}

module _ {S : Type 0} {K : Type 0} (M : Meanings S) (H : Holdings S) (D : Durables S) (R : Records) (G : KeeperGhosts K) (violated changed : Bool) (command : Command) (answer : Answer) where
  -- a sync, and no more
  pub store_synced : (a b : S) (k l : K) (result : Result Unit SyncError) → M.loaded b b → ((why : Why) → M.gave b b why → ⊥) → (changed ≡ false → b ≡ a) → (b ≡ a) ⊎ Wrote D a b → Leaves (world M H D R G) a k b l result
      → (violated ≡ false → is_sync command ≡ false → MadeRoom M H D changed answer a b) → OnFound answer (FoundCause M H D changed a b) → RoseBy (directory_faults answer) (M.faults a) (M.faults b)
      → (directory_faults answer ≡ 0 → M.faults b ≡ M.faults a) → OnSpent answer (SpentCause H a command) → StoreAnswers M H D violated changed a (Ok command) answer b
  store_synced a b k l result same none unsynced wrote z room found cause quiet spent = record {
    stays = λ undone. z.stays;
    stays_synced = λ is. z.stays;
    identity = z.identity;
    least = z.least;
    payload = z.stays.payload;
    goes_on = z.goes_on;
    forgeries = omega (arith, z.forgeries);
    lies = omega (arith, z.lies);
    unforged = λ sound honest. omega (arith, z.forgeries);
    loads = only_synced M H D changed (is_done_answer answer) a b unsynced wrote z.stays same;
    room = room;
    found = found;
    noticed = record {
      since = only_synced M H D changed (is_done_answer answer) a b unsynced wrote z.stays same;
      identity = z.identity;
      least = z.least;
      noticed = none_came answer (M.gave b b) none;
    };
    vault_cause = cause;
    vault_quiet = quiet;
    spent = spent;
    raised = raised_stays H a b z.stays;
  }

  found_after : (given : Answer) (a mid b : S) (k l : K) → (changed ≡ false → mid ≡ a) → (mid ≡ a) ⊎ Wrote D a mid → Leaves (world M H D R G) a k mid l (Ok tt) → OnlyLoaded M H D false (is_done_answer given) mid b → OnFound given (M.met mid b)
      → OnFound given (FoundCause M H D changed a b)
  found_after (Violation why) a mid b k l unsynced wrote z loads h = found_of (FailViolation why) (M.met mid b) (FoundCause M H D changed a b) (λ why met. found_on M H D changed a mid b why unsynced wrote z.stays loads met) h
  found_after (Replied r) a mid b k l unsynced wrote z loads h = tt
  found_after Memory a mid b k l unsynced wrote z loads h = tt
  found_after Spent a mid b k l unsynced wrote z loads h = tt
  found_after FaultDirectory a mid b k l unsynced wrote z loads h = tt
  found_after FaultState a mid b k l unsynced wrote z loads h = tt
  found_after Refused a mid b k l unsynced wrote z loads h = tt

  -- a sync that went well, or none, and then a command
  pub store_on : (a mid b : S) (k l : K) → is_sync command ≡ false → (changed ≡ false → mid ≡ a) → (mid ≡ a) ⊎ Wrote D a mid → (waiting_weight (D.list a) < 8388608 → mid ≡ a) → waiting_weight (D.list mid) < 8388608
      → Leaves (world M H D R G) a k mid l (Ok tt) → StoreAsked M H D mid command answer b → StoreAnswers M H D violated changed a (Ok command) answer b
  store_on a mid b k l other unsynced wrote spared few z w = record {
    stays = λ undone. stays_on H a mid b z.stays (w.stays undone);
    stays_synced = λ is. absurd (true_is_false (sym is ∙ other));
    identity = w.identity ∙ z.identity;
    least = w.least ∙ z.least;
    payload = w.payload ∙ z.stays.payload;
    goes_on = goes_on_onward (D.trace a) (D.trace mid) (D.trace b) z.goes_on w.goes_on;
    forgeries = omega (arith, w.forgeries, z.forgeries);
    lies = omega (arith, w.lies, z.lies);
    unforged = λ sound few. omega (arith, z.forgeries, w.unforged (z.sound sound) (omega (arith, z.lies, few)));
    loads = only_on M H D changed (is_done_answer answer) a mid b unsynced wrote z.stays w.loads;
    room = λ fresh other. room_on M H D changed answer a mid b unsynced wrote z.stays spared few w.loads;
    found = found_after answer a mid b k l unsynced wrote z w.loads w.found;
    noticed = record {
      since = only_on M H D changed (is_done_answer answer) a mid b unsynced wrote z.stays w.loads;
      identity = z.identity;
      least = z.least;
      noticed = w.noticed;
    };
    vault_cause = omega (arith, w.vault_cause, z.vault_quiet);
    vault_quiet = λ none. w.vault_quiet none ∙ z.vault_quiet;
    spent = spent_on answer (SpentCause H mid command) (SpentCause H a command) (spent_before H a mid command z.stays) w.spent;
    raised = raised_on H a mid b z.stays w.raised;
  }
