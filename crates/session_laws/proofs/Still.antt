-- Lines that change nothing save nothing, and only load.
use Rattle.std.proofs.Common.{◌≡◌, ◌⊎◌, ◌||◌, ◌∙◌, ℕ, Bool, true, false, List, [], ◌∷◌, refl, sym, ap, subst, inl, inr}
use Rattle.std.specs.Prelude.{Ok, Err}
use Rattle.std.specs.declared.option.Option.{Option}
use Rattle.std.specs.declared.option.Option.TheVariants.{None, Some}
use Rattle.run_frame.specs.answers.declared.answer.Answer.{Answer}
use Rattle.run_frame.specs.answers.declared.answer.Answer.TheVariants.{Reply as Replied, Memory, Spent, FaultDirectory, FaultState, Violation, Refused}
use Rattle.run_frame.specs.answers.Sessions.{Asked, Exchange, is_violation, violated}
use Rattle.fs_model.specs.declared.command.Command.{Command}
use Rattle.fs_model.specs.declared.command.Command.TheVariants.{List as Listed, Stat, Readlink, Read, Sync}
use Rattle.fs_model.specs.declared.reply.Reply.TheVariants.{Done, Rows, Info, Target, Content, Error}
use Rattle.fs_model.specs.Instant.{Instant}
use Rattle.fs_model.specs.Laws.{OnlyLooks}
use Rattle.mount.specs.block_versions.Held.{Held}
use Rattle.mount.specs.block_versions.Reads.{AllReads, WentOnByReads}
use Rattle.mount.specs.declared.mount.Mount.{Mount}
use Rattle.run_frame.specs.mount_stores.Tower.{Cached, held_in, trace_in, tower_meanings}
use Rattle.run_frame.specs.mount_stores.TowerLaws.{tower_lawful}
use Rattle.mount.specs.mount_core.Answers.{is_done_answer, OnReply}
use Rattle.outside.specs.Trace.{Call}
use Rattle.outside.specs.declared.keeper.Keeper.{Ghosts as KeeperGhosts}
use Rattle.mount.specs.mount_core.Showing.{Showing, is_reader, is_sync, IsReplyTo}
use Rattle.mount.proofs.Same.{same_mount}
use Rattle.session_laws.specs.Answering.{store_of, MountAnswers}
use Rattle.session_laws.specs.Resting.{AsksNoChange, AreIdle, IsGet, AreGets, OnlyGot, Rested}

true_is_false : true ≡ false → ⊥
true_is_false e = cc

pub calm : (es : List Exchange) → AreIdle es → violated es ≡ false
calm [] idle = refl
calm (e ∷ es) idle = ap (λ (b : Bool). b || violated es) idle.0 ∙ calm es idle.2

-- ---- a look has no reply Done

reads : (command : Command) → OnlyLooks command → is_sync command ≡ false → is_reader command ≡ true
reads (Listed p) looks e = refl
reads (Stat p) looks e = refl
reads (Readlink p) looks e = refl
reads (Read p from count) looks e = refl
reads Sync looks e = absurd (true_is_false e)
reads _ looks e = absurd looks

look_undone : (command : Command) (answer : Answer) → OnlyLooks command → is_sync command ≡ false → OnReply answer (IsReplyTo command) → is_done_answer answer ≡ false
look_undone command (Replied Done) looks e form = absurd (true_is_false (sym (reads command looks e) ∙ form))
look_undone command (Replied (Rows rows)) looks e form = refl
look_undone command (Replied (Info attr size)) looks e form = refl
look_undone command (Replied (Target target)) looks e form = refl
look_undone command (Replied (Content bytes)) looks e form = refl
look_undone command (Replied (Error error)) looks e form = refl
look_undone command Memory looks e form = refl
look_undone command Spent looks e form = refl
look_undone command FaultDirectory looks e form = refl
look_undone command FaultState looks e form = refl
look_undone command (Violation why) looks e form = refl
look_undone command Refused looks e form = refl

-- ---- loads are gets

all_gets : (h : Held) (calls : List Call) → AllReads h calls → AreGets calls
all_gets h [] all = tt
all_gets h (call ∷ calls) all = (subst IsGet (sym all.0.is) tt, all_gets h calls all.1)

pub went_got : (h : Held) (old new : Option (List Call)) → WentOnByReads h old new → OnlyGot old new
went_got h None new w = w
went_got h (Some old) new w = (w.0, w.1, all_gets h w.0 w.2)

module _ {V : Type 0} {K : Type 0} (shows : Showing) (trace : V → Option (List Call)) (faults : V → ℕ) (G : KeeperGhosts K) where
  pub loaded_got : (a b : Cached V) → (tower_meanings trace faults).loaded a b → OnlyGot (trace_in trace a) (trace_in trace b)
  loaded_got a b loaded = went_got (held_in a) (trace_in trace a) (trace_in trace b) loaded.trace

  pub rested_none : (mount : Mount V K) → mount.core.saver.changed ≡ false → Rested trace faults mount mount
  rested_none mount none = record { changed = none; keeper = refl; loaded = (tower_lawful trace faults).same (store_of mount) }

  rested_same : (mid new : Mount V K) → mid.core.saver.changed ≡ false → new ≡ mid → Rested trace faults mid new
  rested_same mid new none e = subst (λ (m : Mount V K). Rested trace faults mid m) (sym e) (rested_none mid none)

  undone : (mid new : Mount V K) (now : Instant) (asked : Asked) (answer : Answer) → MountAnswers shows trace faults G now mid asked answer new → mid.core.saver.changed ≡ false → is_violation answer ≡ false
      → is_done_answer answer ≡ false → Rested trace faults mid new
  undone mid new now asked answer a none calm_ e =
      let l = a.line.store.loads in
      record {
        changed = a.line.saver.unchanged none calm_ e;
        keeper = (a.line.saver.unsaved none calm_).0;
        loaded = subst (λ (s : Cached V). (tower_meanings trace faults).loaded (store_of mid) s) (sym (l.undone e)) (subst (λ (s : Cached V). (tower_meanings trace faults).loaded s l.last) (l.unsynced none) l.loaded);
      }

  looked : (mid new : Mount V K) (now : Instant) (command : Command) (answer : Answer) → MountAnswers shows trace faults G now mid (Ok command) answer new → mid.core.saver.changed ≡ false → mid.core.violated ≡ false
      → is_violation answer ≡ false → OnlyLooks command → (sync : Bool) → is_sync command ≡ sync → Rested trace faults mid new
  looked mid new now command answer a none fresh calm_ looks true e = rested_same mid new none (same_mount mid new a.opened (a.line.saver.unmoved e fresh none).1)
  looked mid new now command answer a none fresh calm_ looks false e = undone mid new now (Ok command) answer a none calm_ (look_undone command answer looks e a.line.form.variant)

  rested_step : (mid new : Mount V K) (now : Instant) (asked : Asked) (answer : Answer) → MountAnswers shows trace faults G now mid asked answer new → mid.core.saver.changed ≡ false → mid.core.violated ≡ false
      → is_violation answer ≡ false → AsksNoChange asked ⊎ (is_done_answer answer ≡ false) → Rested trace faults mid new
  rested_step mid new now asked answer a none fresh calm_ (inr e) = undone mid new now asked answer a none calm_ e
  rested_step mid new now (Ok command) answer a none fresh calm_ (inl looks) = looked mid new now command answer a none fresh calm_ looks (is_sync command) refl
  rested_step mid new now (Err error) answer a none fresh calm_ (inl looks) = rested_same mid new none (same_mount mid new a.opened a.line.form.unread.1)

  pub rested_on : (old mid new : Mount V K) (e : Exchange) (es : List Exchange) → Rested trace faults old mid → mid.core.violated ≡ violated es → MountAnswers shows trace faults G e.at mid e.asked e.answer new
      → AreIdle (e ∷ es) → Rested trace faults old new
  rested_on old mid new e es before flag a idle =
      let step = rested_step mid new e.at e.asked e.answer a before.changed (flag ∙ calm es idle.2) idle.0 idle.1 in
      record {
        changed = step.changed;
        keeper = step.keeper ∙ before.keeper;
        loaded = (tower_lawful trace faults).onward (store_of old) (store_of mid) (store_of new) before.loaded step.loaded;
      }
