-- Where nothing lies and nothing fails, a mount's answer is the tree's.
use Rattle.std.proofs.Common.{◌≡◌, ◌∙◌, ◌||◌, ℕ, Bool, true, false, List, refl, sym, ap, subst, inl, inr}
use Rattle.std.specs.Prelude.{IfOk}
use Rattle.std.specs.declared.option.Option.{Option}
use Rattle.copy_file.specs.answers.Sessions.{Asked, FollowsAsked, is_violation, is_synced}
use Rattle.copy_file.specs.answers.declared.answer.Answer.{Answer}
use Rattle.fs_model.specs.Instant.{Instant}
use Rattle.fs_model.specs.Tree.{Tree}
use Rattle.check_runs.specs.mount_stores.Tower.{tower_holdings}
use Rattle.check_runs.specs.mount.declared.mount.Mount.{Mount}
use Rattle.check_runs.specs.mount_core.Answers.{OnSpent}
use Rattle.check_runs.specs.mount_core.Causes.{SpentCause}
use Rattle.check_runs.specs.mount_core.Standing.{Left}
use Rattle.outside.specs.Trace.{Call}
use Rattle.outside.specs.declared.keeper.Keeper.{Ghosts as KeeperGhosts}
use Rattle.session_laws.specs.Answering.{store_of, LineAnswered, MountAnswers}
use Rattle.session_laws.specs.Lawful.{mount_lawful}
use Rattle.check_runs.specs.mount_core.Showing.{ShowsFiles}
use Rattle.program_laws.specs.Mounts.{MountStands, MountUntroubled, IsKeptNext, MountAnswered}
use Rattle.program_laws.specs.Sessions.{IsFaultless}
use Rattle.program_laws.proofs.Serving.{none_rose, one_unfailed}
use Rattle.check_runs.specs.mount.Tower.{tower}

module _ {V : Type 0} {K : Type 0} (trace : V → Option (List Call)) (faults : V → ℕ) (G : KeeperGhosts K) (now : Instant) (before after : Mount V K) (asked : Asked) (answer : Answer) (kept present : Tree) where
  abbrev Outcome : Type 0
  Outcome = MountAnswered trace faults G now kept present asked answer before after

  left_so : IfOk asked (λ command. OnSpent answer (SpentCause (tower_holdings trace) (store_of before) command)) → (synced : Bool) (next : Tree) → is_synced asked answer ≡ synced → IsFaultless answer → FollowsAsked now present asked answer next → after.core.violated ≡ false
      → Left ShowsFiles (tower trace faults G) after.core kept present next false synced → Outcome
  left_so spent true next e unfailed follows fresh stands =
      record { unfailed = unfailed; spent = spent; next = next; follows = follows; tree = next; point = subst (λ b. IsKeptNext b kept present next next) (sym e) refl; stands = record { unviolated = fresh; stands = stands } }
  left_so spent false next e unfailed follows fresh (inl stands) =
      record { unfailed = unfailed; spent = spent; next = next; follows = follows; tree = kept; point = subst (λ b. IsKeptNext b kept present next kept) (sym e) (inl refl); stands = record { unviolated = fresh; stands = stands } }
  left_so spent false next e unfailed follows fresh (inr stands) =
      record { unfailed = unfailed; spent = spent; next = next; follows = follows; tree = present; point = subst (λ b. IsKeptNext b kept present next present) (sym e) (inr refl); stands = record { unviolated = fresh; stands = stands } }

  pub answered : MountAnswers ShowsFiles trace faults G now before asked answer after → MountStands trace faults G kept present before → MountUntroubled trace faults G before after → Outcome
  answered a stands quiet =
      let calm : is_violation answer ≡ false = a.line.trees.alarm kept present stands.unviolated stands.stands quiet.honest in
      let served = (mount_lawful (λ (m : Mount V K). m) ShowsFiles trace faults G).refusal before after now asked answer a ∙ stands.unviolated in
      let directory = none_rose _ _ _ a.line.store.vault_cause quiet.directory_unfailed in
      let state = none_rose _ _ _ a.line.saver.keeper_cause quiet.state_unfailed in
      let t : LineAnswered ShowsFiles trace faults G now after kept present asked answer = a.line.trees.stands kept present stands.unviolated stands.stands (a.line.store.unforged stands.stands.sound quiet.honest) in
      let fresh : after.core.violated ≡ false = a.line.form.violated ∙ (ap (λ b. b || before.core.violated) calm ∙ stands.unviolated) in
      left_so a.line.store.spent (is_synced asked answer) t.next refl (one_unfailed answer calm served directory state) t.follows fresh
      (subst (λ b. Left ShowsFiles (tower trace faults G) after.core kept present t.next b (is_synced asked answer)) calm t.left)
