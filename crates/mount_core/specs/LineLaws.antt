-- An answer where nothing was done, and one whose reply finds no memory.
use Rattle.std.proofs.Common.{◌≡◌, ◌≢◌, ◌⊎◌, ◌||◌, ℕ, Bool, true, false, [], refl, sym, ap, subst, ◌∙◌, inl, inr, arith}
use Rattle.std.specs.Prelude.{Ok, Err, IfOk, IfErr}
use Rattle.block_id.specs.declared.fail.Why.{Why}
use Rattle.fs_model.specs.declared.command.Command.{Command}
use Rattle.fs_model.specs.declared.command.Command.TheVariants.{Write}
use Rattle.fs_model.specs.declared.error.FsError.{FsError}
use Rattle.fs_model.specs.declared.reply.Reply.{Reply}
use Rattle.fs_model.specs.declared.reply.Reply.TheVariants.{Done, Rows, Info, Target, Content, Error}
use Rattle.fs_model.specs.Instant.{Instant}
use Rattle.fs_model.specs.Tree.{Tree}
use Rattle.outside.specs.Going.{goes_on_same}
use Rattle.outside.specs.declared.keeper.Keeper.{Ghosts as KeeperGhosts}
use Rattle.answers.specs.declared.answer.Answer.{Answer}
use Rattle.answers.specs.declared.answer.Answer.TheVariants.{Reply as Replied, Memory, Spent, FaultDirectory, FaultState, Violation, Refused}
use Rattle.answers.specs.Hosts.{IsLongReply}
use Rattle.answers.specs.Sessions.{Asked, FollowsAsked, is_violation, is_sync, is_synced, directory_faults, state_faults}
use Rattle.answers.proofs.Looked.{long_stays}
use Rattle.record_saver.specs.store_api.Holdings.{Holdings}
use Rattle.record_saver.specs.store_outcome.Meanings.{Lawful, Meanings}
use Rattle.record_saver.specs.store_api.Durables.{Durables, Records}
use Rattle.record_saver.proofs.Steps.{stays_same, true_is_false}
use Rattle.mount_core.specs.declared.body.Core.{Core}
use Rattle.mount_core.specs.Answering.{store_of, IsBadLineAnswer, LineAnswers}
use Rattle.mount_core.specs.Answers.{is_done_answer, is_structure, OnFound, OnReply, OnSpent}
use Rattle.mount_core.specs.Causes.{MadeRoom, OnlyLoaded, PassedNone}
use Rattle.mount_core.specs.Configuring.{ConfigAnswered}
use Rattle.mount_core.specs.NoticeLaws.{none_came}
use Rattle.path_layer.specs.Performing.{Showing, IsReplyTo}
use Rattle.path_layer.specs.Performing as performing
use Rattle.path_layer.specs.Sparing.{OnWriteInside}
use Rattle.mount_core.specs.Sparing.{FewRaised}
use Rattle.mount_core.specs.Standing.{Left}
use Rattle.record_saver.specs.Saving.{world}
use Rattle.block_id.proofs.Conditions.{and_false}

-- an answer that says nothing: of what was asked only that nothing was done
abbrev IsNo : Answer → Type 0
IsNo Memory = Unit {0}
IsNo Refused = Unit {0}
IsNo (Replied (Error error)) = Unit {0}
IsNo _ = ⊥

abbrev IsNotRefused : Answer → Type 0
IsNotRefused Refused = ⊥
IsNotRefused _ = Unit {0}

memory_not_refused : ◌≡◌ {A = Answer} Memory Refused → ⊥
memory_not_refused e = subst IsNotRefused e tt

reply_not_refused : (reply : Reply) → ◌≡◌ {A = Answer} (Replied reply) Refused → ⊥
reply_not_refused reply e = subst IsNotRefused e tt

memory_not_synced : (asked : Asked) → is_synced asked Memory ≡ false
memory_not_synced (Ok command) = and_false (is_sync command)
memory_not_synced (Err error) = refl

long_not_synced : (asked : Asked) (reply : Reply) → IsLongReply reply → is_synced asked (Replied reply) ≡ false
long_not_synced (Err error) reply h = refl
long_not_synced (Ok command) (Rows rows) h = and_false (is_sync command)
long_not_synced (Ok command) (Info attr size) h = and_false (is_sync command)
long_not_synced (Ok command) (Target target) h = and_false (is_sync command)
long_not_synced (Ok command) (Content bytes) h = and_false (is_sync command)
long_not_synced (Ok command) Done h = absurd h
long_not_synced (Ok command) (Error error) h = absurd h

long_not_done : (reply : Reply) → IsLongReply reply → is_done_answer (Replied reply) ≡ false
long_not_done (Rows rows) h = refl
long_not_done (Info attr size) h = refl
long_not_done (Target target) h = refl
long_not_done (Content bytes) h = refl
long_not_done Done h = absurd h
long_not_done (Error error) h = absurd h

if_ok : (asked : Asked) (P : Command → Type 0) → ((command : Command) → P command) → IfOk asked P
if_ok (Ok command) P h = h command
if_ok (Err error) P h = tt

none_raised : {S : Type 0} (H : Holdings S) (s : S) (payload : ℕ) (tree : Tree) (command : Command) → OnWriteInside payload tree command (FewRaised H s s)
none_raised H s payload tree (Write p from bytes) = λ row there file least most. record { ids = []; few = omega arith; rest = λ id none. refl }
none_raised H s payload tree _ = tt

-- where nothing was done, nothing was loaded or written
abbrev only_same : {S : Type 0} (M : Meanings S) (H : Holdings S) (D : Durables S) (same : (s : S) → M.loaded s s) (s : S) (changed done : Bool) → OnlyLoaded M H D changed done s s
only_same M H D same s changed done = record { synced = s; unsynced = λ e. refl; wrote = inl refl; stays = stays_same H s; last = s; loaded = same s; undone = λ e. refl; uncalled = refl }

room_same : {S : Type 0} (M : Meanings S) (H : Holdings S) (D : Durables S) (same : (s : S) → M.loaded s s) (s : S) (changed : Bool) → MadeRoom M H D changed Memory s s
room_same M H D same s changed = record { since = only_same M H D same s changed false; spared = λ few. refl; few = λ performed. absurd (true_is_false (sym performed)) }

passed_same : {S : Type 0} (M : Meanings S) (H : Holdings S) (D : Durables S) (laws : Lawful M) (s : S) (changed : Bool) (answer : Answer) → PassedNone M H D changed answer s s
passed_same M H D laws s changed answer = record {
  since = only_same M H D laws.same s changed (is_done_answer answer);
  identity = refl;
  least = refl;
  noticed = none_came answer (M.gave s s) (laws.gave_same s);
}

-- ---- nothing was done

no_violation : (answer : Answer) → IsNo answer → is_violation answer ≡ false
no_violation Memory h = refl
no_violation Refused h = refl
no_violation (Replied reply) h = refl
no_violation Spent h = absurd h
no_violation FaultDirectory h = absurd h
no_violation FaultState h = absurd h
no_violation (Violation why) h = absurd h

no_structure : (answer : Answer) → IsNo answer → is_structure answer ≡ false
no_structure Memory h = refl
no_structure Refused h = refl
no_structure (Replied reply) h = refl
no_structure Spent h = absurd h
no_structure FaultDirectory h = absurd h
no_structure FaultState h = absurd h
no_structure (Violation why) h = absurd h

no_directory : (answer : Answer) → IsNo answer → directory_faults answer ≡ 0
no_directory Memory h = refl
no_directory Refused h = refl
no_directory (Replied reply) h = refl
no_directory Spent h = absurd h
no_directory FaultDirectory h = absurd h
no_directory FaultState h = absurd h
no_directory (Violation why) h = absurd h

no_state : (answer : Answer) → IsNo answer → state_faults answer ≡ 0
no_state Memory h = refl
no_state Refused h = refl
no_state (Replied reply) h = refl
no_state Spent h = absurd h
no_state FaultDirectory h = absurd h
no_state FaultState h = absurd h
no_state (Violation why) h = absurd h

no_found : (answer : Answer) (P : Why → Type 0) → IsNo answer → OnFound answer P
no_found Memory P h = tt
no_found Refused P h = tt
no_found (Replied reply) P h = tt
no_found Spent P h = absurd h
no_found FaultDirectory P h = absurd h
no_found FaultState P h = absurd h
no_found (Violation why) P h = absurd h

no_spent : (answer : Answer) (P : Type 0) → IsNo answer → OnSpent answer P
no_spent Memory P h = tt
no_spent Refused P h = tt
no_spent (Replied reply) P h = tt
no_spent Spent P h = absurd h
no_spent FaultDirectory P h = absurd h
no_spent FaultState P h = absurd h
no_spent (Violation why) P h = absurd h

no_reply : (answer : Answer) (command : Command) → IsNo answer → OnReply answer (IsReplyTo command)
no_reply Memory command h = tt
no_reply Refused command h = tt
no_reply (Replied (Error error)) command h = tt
no_reply (Replied Done) command h = absurd h
no_reply (Replied (Rows rows)) command h = absurd h
no_reply (Replied (Info attr size)) command h = absurd h
no_reply (Replied (Target target)) command h = absurd h
no_reply (Replied (Content bytes)) command h = absurd h
no_reply Spent command h = absurd h
no_reply FaultDirectory command h = absurd h
no_reply FaultState command h = absurd h
no_reply (Violation why) command h = absurd h

no_sync : (asked : Asked) (answer : Answer) → IsNo answer → is_synced asked answer ≡ false
no_sync (Err error) answer h = refl
no_sync (Ok command) Memory h = and_false (is_sync command)
no_sync (Ok command) Refused h = and_false (is_sync command)
no_sync (Ok command) (Replied (Error error)) h = and_false (is_sync command)
no_sync (Ok command) (Replied Done) h = absurd h
no_sync (Ok command) (Replied (Rows rows)) h = absurd h
no_sync (Ok command) (Replied (Info attr size)) h = absurd h
no_sync (Ok command) (Replied (Target target)) h = absurd h
no_sync (Ok command) (Replied (Content bytes)) h = absurd h
no_sync (Ok command) Spent h = absurd h
no_sync (Ok command) FaultDirectory h = absurd h
no_sync (Ok command) FaultState h = absurd h
no_sync (Ok command) (Violation why) h = absurd h

module _ {S : Type 0} {K : Type 0} (shows : Showing) (M : Meanings S) (H : Holdings S) (D : Durables S) (R : Records) (G : KeeperGhosts K) (laws : Lawful M) (now : Instant) where
  pub idle : (core : Core S K) (asked : Asked) (answer : Answer) → IsNo answer → (core.violated ≡ true → answer ≡ Refused) → (core.violated ≡ false → answer ≢ Refused)
      → IfErr asked (λ error. IsBadLineAnswer error answer × (core ≡ core)) → ((tree : Tree) → core.violated ≡ false → FollowsAsked now tree asked answer tree)
      → IfOk asked (λ command. performing.is_sync command ≡ true → core.violated ≡ false → core.saver.changed ≡ false → ((answer ≡ Replied Done) ⊎ (answer ≡ Memory)) × (core ≡ core))
      → IfOk asked (λ command. core.violated ≡ false → performing.is_sync command ≡ false → MadeRoom M H D core.saver.changed answer (store_of core) (store_of core))
      → LineAnswers shows (world M H D R G) now core asked answer core
  idle core asked answer none refuses serves unread follows unmoved room =
      let calm = no_violation answer none in
      let d = no_directory answer none in
      let s = no_state answer none in
      record {
        form = record {
          refused = λ t. (refuses t, refl);
          served = serves;
          violated = sym (ap (λ (b : Bool). b || core.violated) calm);
          unread = unread;
          root = refl;
          variant = if_ok asked _ (λ command. no_reply answer command none);
        };
        trees = record {
          stands = λ kept present f stands few. record {
            next = present;
            follows = follows present f;
            left = subst (λ b. Left shows (world M H D R G) core kept present present b (is_synced asked answer)) (sym calm)
                (subst (λ b. Left shows (world M H D R G) core kept present present false b) (sym (no_sync asked answer none)) (inl stands));
          };
          configures = λ may present c. subst (λ b. ConfigAnswered H D R G core may present b) (sym calm) c;
          alarm = λ kept present f stands few. calm;
          built = λ kept present f stands few. no_structure answer none;
          sparing = if_ok asked _ (λ command kept present stands few. none_raised H (store_of core) (H.payload (store_of core)) present command);
        };
        store = record {
          stays = λ e. stays_same H (store_of core);
          stays_synced = if_ok asked _ (λ command is. stays_same H (store_of core));
          identity = refl;
          least = refl;
          payload = refl;
          goes_on = goes_on_same (D.trace (store_of core));
          forgeries = omega arith;
          lies = omega arith;
          unforged = λ sound honest. omega arith;
          loads = only_same M H D laws.same (store_of core) core.saver.changed (is_done_answer answer);
          room = room;
          found = no_found answer _ none;
          noticed = passed_same M H D laws (store_of core) core.saver.changed answer;
          vault_cause = omega (arith, d);
          vault_quiet = λ e. refl;
          spent = if_ok asked _ (λ command. no_spent answer _ none);
          raised = λ id. omega arith;
        };
        saver = record {
          unsaved = λ e f. (refl, refl);
          unchanged = λ e f d. e;
          unmoved = unmoved;
          keeper_cause = omega (arith, s);
          keeper_quiet = λ e f. refl;
          marked = λ e. absurd (true_is_false (sym e ∙ calm));
          least = λ k. k;
        };
        keeps = record { calm = λ f. record { kept = inl refl; last = inl refl }; marks = λ e. absurd (true_is_false (sym e ∙ calm)) };
      }

  refused_unread : (core : Core S K) (asked : Asked) → IfErr asked (λ error. IsBadLineAnswer error Refused × (core ≡ core))
  refused_unread core (Ok command) = tt
  refused_unread core (Err error) = (inr (inr refl), refl)

  memory_unread : (core : Core S K) (asked : Asked) → IfErr asked (λ error. IsBadLineAnswer error Memory × (core ≡ core))
  memory_unread core (Ok command) = tt
  memory_unread core (Err error) = (inr (inl refl), refl)

  memory_follows : (tree : Tree) (asked : Asked) → FollowsAsked now tree asked Memory tree
  memory_follows tree (Ok command) = refl
  memory_follows tree (Err error) = (inr refl, refl)

  pub refused : (core : Core S K) (asked : Asked) → core.violated ≡ true → LineAnswers shows (world M H D R G) now core asked Refused core
  refused core asked v =
      idle core asked Refused tt (λ t. refl) (λ f. absurd (true_is_false (sym v ∙ f))) (refused_unread core asked) (λ tree f. absurd (true_is_false (sym v ∙ f)))
      (if_ok asked _ (λ command is f. absurd (true_is_false (sym v ∙ f)))) (if_ok asked _ (λ command f is. absurd (true_is_false (sym v ∙ f))))

  pub bad : (core : Core S K) (error : FsError) → core.violated ≡ false → LineAnswers shows (world M H D R G) now core (Err error) (Replied (Error error)) core
  bad core error v =
      idle core (Err error) (Replied (Error error)) tt (λ t. absurd (true_is_false (sym t ∙ v))) (λ f. reply_not_refused (Error error)) (inl refl, refl) (λ tree f. (inl refl, refl)) tt tt

  pub wanting : (core : Core S K) (asked : Asked) → core.violated ≡ false → LineAnswers shows (world M H D R G) now core asked Memory core
  wanting core asked v =
      idle core asked Memory tt (λ t. absurd (true_is_false (sym t ∙ v))) (λ f. memory_not_refused) (memory_unread core asked) (λ tree f. memory_follows tree asked)
      (if_ok asked _ (λ command is f none. (inr refl, refl))) (if_ok asked _ (λ command f is. room_same M H D laws.same (store_of core) core.saver.changed))

  -- ---- a reply whose text finds no memory

  unsaid_unread : (old new : Core S K) (asked : Asked) (reply : Reply) → IfErr asked (λ error. IsBadLineAnswer error (Replied reply) × (new ≡ old)) → IfErr asked (λ error. IsBadLineAnswer error Memory × (new ≡ old))
  unsaid_unread old new (Ok command) reply w = tt
  unsaid_unread old new (Err error) reply w = (inr (inl refl), w.1)

  unsaid_follows : (tree next : Tree) (asked : Asked) (reply : Reply) → IsLongReply reply → FollowsAsked now tree asked (Replied reply) next → FollowsAsked now tree asked Memory next
  unsaid_follows tree next (Ok command) reply long f = long_stays tree now command reply next f long
  unsaid_follows tree next (Err error) reply long f = (inr refl, f.1)

  unsaid_unmoved : (old new : Core S K) (asked : Asked) (reply : Reply)
      → IfOk asked (λ command. performing.is_sync command ≡ true → old.violated ≡ false → old.saver.changed ≡ false → ((Replied reply ≡ Replied Done) ⊎ (Replied reply ≡ Memory)) × (new ≡ old))
      → IfOk asked (λ command. performing.is_sync command ≡ true → old.violated ≡ false → old.saver.changed ≡ false → ((Memory ≡ Replied Done) ⊎ (Memory ≡ Memory)) × (new ≡ old))
  unsaid_unmoved old new (Ok command) reply w = λ is fresh none. (inr refl, (w is fresh none).1)
  unsaid_unmoved old new (Err error) reply w = tt

  abbrev unsaid_since : (a b : S) (changed : Bool) (reply : Reply) → IsLongReply reply → OnlyLoaded M H D changed (is_done_answer (Replied reply)) a b → OnlyLoaded M H D changed false a b
  unsaid_since a b changed reply long l = record {
    synced = l.synced;
    unsynced = l.unsynced;
    wrote = l.wrote;
    stays = l.stays;
    last = l.last;
    loaded = l.loaded;
    undone = λ e. l.undone (long_not_done reply long);
    uncalled = l.uncalled;
  }

  unsaid_passed : (a b : S) (changed : Bool) (reply : Reply) → IsLongReply reply → PassedNone M H D changed (Replied reply) a b → PassedNone M H D changed Memory a b
  unsaid_passed a b changed reply long n = record {
    since = unsaid_since a b changed reply long n.since;
    identity = n.identity;
    least = n.least;
    noticed = n.noticed;
  }

  unsaid_room : (old new : Core S K) (asked : Asked) (reply : Reply) → IsLongReply reply
      → IfOk asked (λ command. old.violated ≡ false → performing.is_sync command ≡ false → MadeRoom M H D old.saver.changed (Replied reply) (store_of old) (store_of new))
      → IfOk asked (λ command. old.violated ≡ false → performing.is_sync command ≡ false → MadeRoom M H D old.saver.changed Memory (store_of old) (store_of new))
  unsaid_room old new (Ok command) reply long w = λ f is.
      let r = w f is in
      record {
        since = unsaid_since (store_of old) (store_of new) old.saver.changed reply long r.since;
        spared = r.spared;
        few = λ performed. absurd (true_is_false (sym performed));
      }
  unsaid_room old new (Err error) reply long w = tt

  pub unsaid : (old new : Core S K) (asked : Asked) (reply : Reply) → IsLongReply reply → LineAnswers shows (world M H D R G) now old asked (Replied reply) new → LineAnswers shows (world M H D R G) now old asked Memory new
  unsaid old new asked reply long w =
      let l = w.store in
      record {
        form = record {
          refused = λ t. absurd (reply_not_refused reply (w.form.refused t).0);
          served = λ f. memory_not_refused;
          violated = w.form.violated;
          unread = unsaid_unread old new asked reply w.form.unread;
          root = w.form.root;
          variant = if_ok asked _ (λ command. tt);
        };
        trees = record {
          stands = λ kept present f stands few.
              let a = w.trees.stands kept present f stands few in
              record {
                next = a.next;
                follows = unsaid_follows present a.next asked reply long a.follows;
                left = subst (λ b. Left shows (world M H D R G) new kept present a.next false b) (long_not_synced asked reply long ∙ sym (memory_not_synced asked)) a.left;
              };
          configures = w.trees.configures;
          alarm = λ kept present f stands few. refl;
          built = λ kept present f stands few. refl;
          sparing = w.trees.sparing;
        };
        store = record {
          stays = λ e. l.stays (long_not_done reply long);
          stays_synced = l.stays_synced;
          identity = l.identity;
          least = l.least;
          payload = l.payload;
          goes_on = l.goes_on;
          forgeries = l.forgeries;
          lies = l.lies;
          unforged = l.unforged;
          loads = subst (λ d. OnlyLoaded M H D old.saver.changed d (store_of old) (store_of new)) (long_not_done reply long) l.loads;
          room = unsaid_room old new asked reply long l.room;
          found = tt;
          noticed = unsaid_passed (store_of old) (store_of new) old.saver.changed reply long l.noticed;
          vault_cause = l.vault_cause;
          vault_quiet = l.vault_quiet;
          spent = if_ok asked _ (λ command. tt);
          raised = l.raised;
        };
        saver = record {
          unsaved = λ e f. w.saver.unsaved e refl;
          unchanged = λ e f d. w.saver.unchanged e refl (long_not_done reply long);
          unmoved = unsaid_unmoved old new asked reply w.saver.unmoved;
          keeper_cause = w.saver.keeper_cause;
          keeper_quiet = λ e f. w.saver.keeper_quiet e f;
          marked = λ e. absurd (true_is_false (sym e));
          least = w.saver.least;
        };
        keeps = record { calm = λ f. w.keeps.calm refl; marks = λ e. absurd (true_is_false (sym e)) };
      }
