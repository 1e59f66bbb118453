-- What a mount answers where nothing lies and nothing fails.
use Rattle.std.specs.Prelude.{◌≡◌, ◌⊎◌, ◌≤◌, ℕ, Bool, true, false, List, IfOk}
use Rattle.std.specs.declared.option.Option.{Option}
use Rattle.copy_file.specs.answers.Sessions.{Asked, FollowsAsked, is_synced}
use Rattle.copy_file.specs.answers.declared.answer.Answer.{Answer}
use Rattle.fs_model.specs.Instant.{Instant}
use Rattle.fs_model.specs.Tree.{Tree}
use Rattle.check_runs.specs.mount.Tower.{TowerStands}
use Rattle.check_runs.specs.mount_stores.Tower.{tower_holdings}
use Rattle.check_runs.specs.mount_core.Answers.{OnSpent}
use Rattle.check_runs.specs.mount_core.Causes.{SpentCause}
use Rattle.check_runs.specs.mount.declared.mount.Mount.{Mount}
use Rattle.outside.specs.Causes.{RoseBy}
use Rattle.outside.specs.Trace.{Call}
use Rattle.outside.specs.declared.keeper.Keeper.{Ghosts as KeeperGhosts}
use Rattle.session_laws.specs.Answering.{MountAnswers, store_of, lies_of, vault_faults, keeper_faults}
use Rattle.check_runs.specs.mount_core.Showing.{ShowsFiles}
use Rattle.program_laws.specs.Sessions.{IsFaultless}

-- there was no violation, and the mount stands for these trees
pub record MountStands {V : Type 0} {K : Type 0} (trace : V → Option (List Call)) (faults : V → ℕ) (G : KeeperGhosts K) (kept present : Tree) (mount : Mount V K) : Type 0 where
  pub unviolated : mount.core.violated ≡ false
  pub stands : TowerStands ShowsFiles trace faults G mount.core kept present

-- the directory gave what was last written, and no count of faults rose: of the directory and the record
pub record MountUntroubled {V : Type 0} {K : Type 0} (trace : V → Option (List Call)) (faults : V → ℕ) (G : KeeperGhosts K) (before after : Mount V K) : Type 0 where
  pub honest : lies_of trace faults after ≤ lies_of trace faults before
  pub directory_unfailed : ¬ RoseBy 1 (vault_faults trace faults before) (vault_faults trace faults after)
  pub state_unfailed : ¬ RoseBy 1 (keeper_faults G before) (keeper_faults G after)

-- after an acknowledged sync the next tree is kept, after another answer what was kept or what was present
abbrev pub IsKeptNext : Bool → Tree → Tree → Tree → Tree → Type 0
IsKeptNext true kept present next tree = tree ≡ next
IsKeptNext false kept present next tree = (tree ≡ kept) ⊎ (tree ≡ present)

-- the answer is that of the tree that was present, and the mount stands for the trees that it leaves
pub record MountAnswered {V : Type 0} {K : Type 0} (trace : V → Option (List Call)) (faults : V → ℕ) (G : KeeperGhosts K) (now : Instant) (kept present : Tree) (asked : Asked) (answer : Answer) (before after : Mount V K) : Type 0 where
  pub unfailed : IsFaultless answer
  pub spent : IfOk asked (λ command. OnSpent answer (SpentCause (tower_holdings trace) (store_of before) command))
  pub next : Tree
  pub follows : FollowsAsked now present asked answer next
  pub tree : Tree
  pub point : IsKeptNext (is_synced asked answer) kept present next tree
  pub stands : MountStands trace faults G tree next after

-- where nothing lies and nothing fails, each answer is the tree's, and the mount stands for trees again
abbrev pub AnswersComplete : {V : Type 0} → {K : Type 0} → (V → Option (List Call)) → (V → ℕ) → KeeperGhosts K → Type 0
AnswersComplete {V = V} {K = K} trace faults G =
    (now : Instant) (before after : Mount V K) (asked : Asked) (answer : Answer) (kept present : Tree)
    → MountAnswers ShowsFiles trace faults G now before asked answer after
    → MountStands trace faults G kept present before
    → MountUntroubled trace faults G before after
    → MountAnswered trace faults G now kept present asked answer before after
