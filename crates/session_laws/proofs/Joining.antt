-- One more answer.
use Rattle.std.proofs.Common.{◌≡◌, ◌⊎◌, ◌≤◌, ◌+◌, ◌^◌, ◌||◌, ℕ, Bool, true, false, List, [], ◌∷◌, length, refl, sym, ap, subst, ◌∙◌, inl, inr, arith}
use Rattle.std.specs.Prelude.{Ok, Err}
use Rattle.std.specs.declared.option.Option.{Option}
use Rattle.std.proofs.lemmas.Bool.{or_parts}
use Rattle.fs_model.specs.Instant.{Instant}
use Rattle.fs_model.specs.Tree.{Tree}
use Rattle.outside.specs.Causes.{RoseBy}
use Rattle.mount.specs.store_api.Durables.{Identity}
use Rattle.outside.specs.Going.{goes_on_same, goes_on_onward}
use Rattle.outside.specs.Trace.{Call}
use Rattle.outside.specs.declared.keeper.Keeper.{Ghosts as KeeperGhosts}
use Rattle.run_frame.specs.answers.declared.answer.Answer.{Answer}
use Rattle.run_frame.specs.answers.declared.answer.Answer.TheVariants.{Reply as Replied, Memory, Spent, FaultDirectory, FaultState, Violation, Refused}
use Rattle.run_frame.specs.answers.Sessions.{Asked, Exchange, Next, IsSession, IsKeptPoint, is_violation, is_sync, is_synced, latest, violated, state_faults, all_state_faults}
use Rattle.mount.specs.block_versions.Standing.{records}
use Rattle.mount.specs.mount_core.Answers.{is_structure, OnSpent}
use Rattle.mount.specs.mount_core.Configuring.{ConfigAnswered}
use Rattle.mount.specs.mount_core.Showing.{Showing}
use Rattle.mount.specs.mount_core.Standing.{IsKeptMarked, Left}
use Rattle.mount.specs.declared.mount.Mount.{Mount}
use Rattle.mount.specs.Tower.{tower, TowerStands}
use Rattle.run_frame.specs.mount_stores.Tower.{tower_holdings, tower_durables}
use Rattle.mount.proofs.Formats.{stays_at}
use Rattle.mount.proofs.Same.{same_mount}
use Rattle.session_laws.specs.Answering.{store_of, calls_of, forgeries_of, lies_of, keeper_faults, version_of, kept_of, LineAnswered, MountAnswers}
use Rattle.session_laws.specs.Causes.{IsAnswerTo, AreBuilt}
use Rattle.session_laws.specs.Passing.{MountKeeps, KeptAfter, LeftAt, PassedTrees, Passed}
use Rattle.session_laws.proofs.Keeping.{kept_line}
use Rattle.session_laws.proofs.Still.{rested_none, rested_on}
use Rattle.session_laws.proofs.Rising.{on_spent, unread_spent, rose_on, spent_on}
use Rattle.block_id.proofs.Conditions.{and_false}

pub true_is_false : true ≡ false → ⊥
true_is_false e = cc

violation_no_fault : (answer : Answer) → is_violation answer ≡ true → state_faults answer ≡ 0
violation_no_fault (Violation why) e = refl
violation_no_fault (Replied reply) e = refl
violation_no_fault Memory e = refl
violation_no_fault Spent e = refl
violation_no_fault FaultDirectory e = refl
violation_no_fault FaultState e = absurd (true_is_false (sym e))
violation_no_fault Refused e = refl

or_true : (a b : Bool) → b ≡ true → (a || b) ≡ true
or_true true b e = refl
or_true false b e = e

or_false : (a b : Bool) → b ≡ false → (a || b) ≡ a
or_false true b e = refl
or_false false b e = e

violation_not_synced : (asked : Asked) (answer : Answer) → is_violation answer ≡ true → is_synced asked answer ≡ false
violation_not_synced (Err error) answer e = refl
violation_not_synced (Ok command) (Violation why) e = and_false (is_sync command)
violation_not_synced (Ok command) (Replied reply) e = absurd (true_is_false (sym e))
violation_not_synced (Ok command) Memory e = and_false (is_sync command)
violation_not_synced (Ok command) Spent e = and_false (is_sync command)
violation_not_synced (Ok command) FaultDirectory e = and_false (is_sync command)
violation_not_synced (Ok command) FaultState e = and_false (is_sync command)
violation_not_synced (Ok command) Refused e = and_false (is_sync command)

refused_not_synced : (asked : Asked) → is_synced asked Refused ≡ false
refused_not_synced (Ok command) = and_false (is_sync command)
refused_not_synced (Err error) = refl

pub latest_kept : (first : Tree) (es : List Exchange) (trees : List Tree) → IsSession first es trees → IsKeptPoint first es trees (latest first trees)
latest_kept first [] [] s = refl
latest_kept first (e ∷ es) (tree ∷ trees) s = inl refl
latest_kept first [] (tree ∷ trees) s = absurd s
latest_kept first (e ∷ es) [] s = absurd s

module _ {V : Type 0} {K : Type 0} (shows : Showing) (trace : V → Option (List Call)) (faults : V → ℕ) (G : KeeperGhosts K) where
  refused_of : (mid new : Mount V K) (now : Instant) (asked : Asked) (answer : Answer) → MountAnswers shows trace faults G now mid asked answer new → mid.core.violated ≡ true → (answer ≡ Refused) × (new ≡ mid)
  refused_of mid new now asked answer a v = let r = a.line.form.refused v in (r.0, same_mount mid new a.opened r.1)

  is_answer : (mid new : Mount V K) (now : Instant) (asked : Asked) (answer : Answer) → MountAnswers shows trace faults G now mid asked answer new → IsAnswerTo asked answer
  is_answer mid new now (Ok command) answer a = (a.line.form.variant, on_spent answer _ _ (λ cause. cause.changes) a.line.store.spent)
  is_answer mid new now (Err error) answer a = a.line.form.unread.0

  -- where the answer is Spent, a version stood at the last of 64 bits
  last_of : (mid new : Mount V K) (now : Instant) (asked : Asked) (answer : Answer) → MountAnswers shows trace faults G now mid asked answer new → OnSpent answer ((id : List ℕ) × (version_of trace mid id + 1 ≡ 2 ^ 64))
  last_of mid new now (Ok command) answer a = on_spent answer _ _ (λ cause. (cause.id, cause.last)) a.line.store.spent
  last_of mid new now (Err error) answer a = unread_spent error answer _ a.line.form.unread.0

  left_on : (new : Mount V K) (first : Tree) (e : Exchange) (es : List Exchange) (trees : List Tree) (kept next : Tree) (bad synced : Bool)
      → is_violation e.answer ≡ bad → is_synced e.asked e.answer ≡ synced → IsSession first es trees → IsKeptPoint first es trees kept
      → Left shows (tower trace faults G) new.core kept (latest first trees) next bad synced
      → LeftAt shows trace faults G new first (e ∷ es) (next ∷ trees) (bad || false)
  left_on new first e es trees kept next true synced eb ey s k (inl m) = inl m
  left_on new first e es trees kept next true synced eb ey s k (inr (inl r)) = inr (kept, inr (violation_not_synced e.asked e.answer eb, k), r)
  left_on new first e es trees kept next true synced eb ey s k (inr (inr r)) = inr (latest first trees, inr (violation_not_synced e.asked e.answer eb, latest_kept first es trees s), r)
  left_on new first e es trees kept next false true eb ey s k m = (next, inl refl, m)
  left_on new first e es trees kept next false false eb ey s k (inl m) = (kept, inr (ey, k), m)
  left_on new first e es trees kept next false false eb ey s k (inr m) = (latest first trees, inr (ey, latest_kept first es trees s), m)

  left_refused : (mid new : Mount V K) (e : Exchange) (es : List Exchange) (first : Tree) (trees : List Tree) → is_synced e.asked e.answer ≡ false → new ≡ mid
      → LeftAt shows trace faults G mid first es trees true → LeftAt shows trace faults G new first (e ∷ es) (latest first trees ∷ trees) true
  left_refused mid new e es first trees ns is (inl marked) = inl (subst (λ (m : Mount V K). IsKeptMarked records (kept_of G m)) (sym is) marked)
  left_refused mid new e es first trees ns is (inr k) = inr (k.0, inr (ns, k.1), subst (λ (m : Mount V K). MountKeeps shows trace G m k.0) (sym is) k.2)

  trees_on : (old mid new : Mount V K) (e : Exchange) (es : List Exchange) (first : Tree) (flag : Bool) → violated es ≡ flag → mid.core.violated ≡ flag
      → MountAnswers shows trace faults G e.at mid e.asked e.answer new → forgeries_of trace faults new ≤ forgeries_of trace faults mid → lies_of trace faults old ≤ lies_of trace faults mid
      → (trees : List Tree) → IsSession first es trees → LeftAt shows trace faults G mid first es trees flag → (lies_of trace faults mid ≤ lies_of trace faults old → flag ≡ false) → AreBuilt es
      → PassedTrees shows trace faults G old new first (e ∷ es)
  trees_on old mid new e es first false ev em a few grew trees s left honest built =
      let t : LineAnswered shows trace faults G e.at new left.0 (latest first trees) e.asked e.answer = a.line.trees.stands left.0 (latest first trees) em left.2 few in
      record {
        trees = t.next ∷ trees;
        session = (subst (λ b. Next b e.at (latest first trees) e.asked e.answer t.next) (sym ev) t.follows, s);
        left = subst (λ b. LeftAt shows trace faults G new first (e ∷ es) (t.next ∷ trees) (is_violation e.answer || b)) (sym ev)
            (left_on new first e es trees left.0 t.next _ _ refl refl s left.1 t.left);
        alarm = λ h. ap (λ (b : Bool). is_violation e.answer || b) ev ∙ ap (λ (b : Bool). b || false) (a.line.trees.alarm left.0 (latest first trees) em left.2 (omega (arith, grew, h)));
        built = (a.line.trees.built left.0 (latest first trees) em left.2 few, built);
      }
  trees_on old mid new e es first true ev em a few grew trees s left honest built =
      let r = refused_of mid new e.at e.asked e.answer a em in
      let ns : is_synced e.asked e.answer ≡ false = subst (λ x. is_synced e.asked x ≡ false) (sym r.0) (refused_not_synced e.asked) in
      record {
        trees = latest first trees ∷ trees;
        session = (subst (λ b. Next b e.at (latest first trees) e.asked e.answer (latest first trees)) (sym ev) (r.0, refl), s);
        left = subst (λ b. LeftAt shows trace faults G new first (e ∷ es) (latest first trees ∷ trees) b) (sym (ap (λ x. is_violation x || violated es) r.0 ∙ ev))
            (left_refused mid new e es first trees ns r.1 left);
        alarm = λ h. absurd (true_is_false (honest (omega (arith, a.line.store.lies, h))));
        built = (ap is_structure r.0, built);
      }

  marked_on : (old mid new : Mount V K) (e : Exchange) (es : List Exchange) → Passed shows trace faults G old mid es → MountAnswers shows trace faults G e.at mid e.asked e.answer new
      → (bad : Bool) → is_violation e.answer ≡ bad → (bad || violated es) ≡ true
      → IsKeptMarked records (kept_of G new) ⊎ RoseBy (state_faults e.answer + all_state_faults es + 1) (keeper_faults G old) (keeper_faults G new)
  marked_on old mid new e es p a true eb h =
      elim (a.line.saver.marked eb) [ inl m ↦ inl m | inr r ↦ inr (let z = violation_no_fault e.answer eb in omega (arith, z, r, p.keeper_cause)) ]
  marked_on old mid new e es p a false eb h =
      let r = refused_of mid new e.at e.asked e.answer a (p.flag ∙ h) in
      elim (p.marked h) [
        | inl m ↦ inl (subst (λ (x : Mount V K). IsKeptMarked records (kept_of G x)) (sym r.1) m)
        | inr q ↦ inr (let z : state_faults e.answer ≡ 0 = ap state_faults r.0 in let k : keeper_faults G new ≡ keeper_faults G mid = ap (keeper_faults G) r.1 in omega (arith, z, q, k))
      ]

  keeps_on : (old mid new : Mount V K) (e : Exchange) (es : List Exchange) → Passed shows trace faults G old mid es → MountAnswers shows trace faults G e.at mid e.asked e.answer new
      → ((tower_durables trace).identity (store_of old)).marked ≡ false → KeptAfter (is_violation e.answer || violated es) (λ id. version_of trace old id + length (e ∷ es)) (kept_of G old) (kept_of G new)
  keeps_on old mid new e es p a unmarked =
      kept_line trace G (store_of mid) (ap (λ (i : Identity). i.marked) p.identity ∙ unmarked) (kept_of G old) mid.core.saver new.core.saver (violated es) e.answer (is_violation e.answer) refl (is_violation e.answer || violated es)
      (λ bad. ap (λ b. b || violated es) bad) (λ before. or_true (is_violation e.answer) (violated es) before) (λ id. version_of trace old id + length es) (λ id. version_of trace old id + length (e ∷ es))
      (λ id. omega arith) (λ id. let r = p.rose id in omega (arith, r)) (p.keeps unmarked) a.line.keeps

  configures_on : (mid new : Mount V K) (e : Exchange) (es : List Exchange) (may : List (List ℕ)) (present : List ℕ) (flag : Bool) → violated es ≡ flag → mid.core.violated ≡ flag
      → MountAnswers shows trace faults G e.at mid e.asked e.answer new → ConfigAnswered (tower_holdings trace) (tower_durables trace) records G mid.core may present flag
      → ConfigAnswered (tower_holdings trace) (tower_durables trace) records G new.core may present (is_violation e.answer || violated es)
  configures_on mid new e es may present false ev em a c =
      subst (λ b. ConfigAnswered (tower_holdings trace) (tower_durables trace) records G new.core may present b) (sym (or_false (is_violation e.answer) (violated es) ev)) (a.line.trees.configures may present c)
  configures_on mid new e es may present true ev em a c =
      let r = refused_of mid new e.at e.asked e.answer a em in
      subst (λ b. ConfigAnswered (tower_holdings trace) (tower_durables trace) records G new.core may present b) (sym (ap (λ x. is_violation x || violated es) r.0 ∙ ev))
      (subst (λ (x : Mount V K). ConfigAnswered (tower_holdings trace) (tower_durables trace) records G x.core may present true) (sym r.1) c)

  -- before a violation the mount stands for trees, so that the next answer brings no forgery where it brings no lie
  unforged_at : (mid new : Mount V K) (e : Exchange) (es : List Exchange) (first : Tree) (trees : List Tree) (flag : Bool) → flag ≡ false → mid.core.violated ≡ flag → LeftAt shows trace faults G mid first es trees flag
      → MountAnswers shows trace faults G e.at mid e.asked e.answer new → lies_of trace faults new ≤ lies_of trace faults mid → forgeries_of trace faults new ≤ forgeries_of trace faults mid
  unforged_at mid new e es first trees true f em left a honest = absurd (true_is_false f)
  unforged_at mid new e es first trees false f em left a honest = a.line.store.unforged left.2.sound honest

  unforged_on : (old mid new : Mount V K) (e : Exchange) (es : List Exchange) (first : Tree) → Passed shows trace faults G old mid es → MountAnswers shows trace faults G e.at mid e.asked e.answer new
      → TowerStands shows trace faults G old.core first first → lies_of trace faults new ≤ lies_of trace faults old → forgeries_of trace faults new ≤ forgeries_of trace faults old
  unforged_on old mid new e es first p a stands honest =
      let before : lies_of trace faults mid ≤ lies_of trace faults old = omega (arith, honest, a.line.store.lies) in
      let few = p.unforged first stands before in
      let t : PassedTrees shows trace faults G old mid first es = p.passes first stands few in
      let step = unforged_at mid new e es first t.trees (violated es) (t.alarm before) p.flag t.left a (omega (arith, honest, p.lies)) in
      omega (arith, few, step)

  pub passed_none : (mount : Mount V K) → mount.core.violated ≡ false → Passed shows trace faults G mount mount []
  passed_none mount fresh = record {
    flag = fresh;
    answered = tt;
    rose = λ id. omega arith;
    spent = tt;
    opened = refl;
    identity = refl;
    level = refl;
    least = λ k. k;
    rests = λ none idle. rested_none shows trace faults G mount none;
    goes_on = goes_on_same (calls_of trace mount);
    forgeries = omega arith;
    lies = omega arith;
    vault_cause = omega arith;
    keeper_cause = omega arith;
    vault_quiet = λ e. refl;
    keeper_quiet = λ v e. refl;
    marked = λ h. absurd (true_is_false (sym h));
    keeps = λ unmarked. inr (inl refl);
    configures = λ may present c. c;
    unforged = λ first stands honest. omega arith;
    passes = λ first stands few. record { trees = []; session = tt; left = (first, refl, stands); alarm = λ h. refl; built = tt };
  }

  pub passed_on : (old mid new : Mount V K) (e : Exchange) (es : List Exchange) → Passed shows trace faults G old mid es → MountAnswers shows trace faults G e.at mid e.asked e.answer new
      → Passed shows trace faults G old new (e ∷ es)
  passed_on old mid new e es p a = record {
    flag = a.line.form.violated ∙ ap (λ (b : Bool). is_violation e.answer || b) p.flag;
    answered = (is_answer mid new e.at e.asked e.answer a, p.answered);
    rose = rose_on (version_of trace old) e es (version_of trace mid) p.rose (version_of trace new) a.line.store.raised;
    spent = spent_on (version_of trace old) e es (version_of trace mid) p.rose (last_of mid new e.at e.asked e.answer a) p.spent;
    opened = a.opened ∙ p.opened;
    identity = a.line.store.identity ∙ p.identity;
    level = a.line.store.least ∙ p.level;
    least = λ k. stays_at trace faults G ((tower_durables trace).least (store_of old)) (store_of mid) (kept_of G mid) (kept_of G new) p.level a.line.saver.least (p.least k);
    rests = λ none idle. rested_on shows trace faults G old mid new e es (p.rests none idle.2) p.flag a idle;
    goes_on = goes_on_onward (calls_of trace old) (calls_of trace mid) (calls_of trace new) p.goes_on a.line.store.goes_on;
    forgeries = omega (arith, p.forgeries, a.line.store.forgeries);
    lies = omega (arith, p.lies, a.line.store.lies);
    vault_cause = omega (arith, p.vault_cause, a.line.store.vault_cause);
    keeper_cause = omega (arith, p.keeper_cause, a.line.saver.keeper_cause);
    vault_quiet = λ n. a.line.store.vault_quiet (omega (arith, n)) ∙ p.vault_quiet (omega (arith, n));
    keeper_quiet = λ v n. a.line.saver.keeper_quiet (omega (arith, n)) (or_parts (is_violation e.answer) (violated es) v).0 ∙ p.keeper_quiet (or_parts (is_violation e.answer) (violated es) v).1 (omega (arith, n));
    marked = λ h. marked_on old mid new e es p a (is_violation e.answer) refl h;
    keeps = λ unmarked. keeps_on old mid new e es p a unmarked;
    configures = λ may present c. configures_on mid new e es may present (violated es) refl p.flag a (p.configures may present c);
    unforged = λ first stands honest. unforged_on old mid new e es first p a stands honest;
    passes = λ first stands few.
        let t : PassedTrees shows trace faults G old mid first es = p.passes first stands (omega (arith, few, a.line.store.forgeries)) in
        trees_on old mid new e es first (violated es) refl p.flag a (omega (arith, few, p.forgeries)) p.lies t.trees t.session t.left t.alarm t.built;
  }
