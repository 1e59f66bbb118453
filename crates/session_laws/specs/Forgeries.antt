-- What a session answered before the directory gave the first forged file of a block. The newest exchange and tree stand first.
use Rattle.std.specs.Prelude.{◌≡◌, ◌⊎◌, ◌<◌, ℕ, List, ◌∷◌, ◌++◌, Result}
use Rattle.std.specs.declared.option.Option.{Option}
use Rattle.mount.specs.aes_gcm.Gcm.{opened_of}
use Rattle.run_frame.specs.answers.Hosts.{Hosting, Ran}
use Rattle.run_frame.specs.answers.Sessions.{Exchange, IsSession, violated}
use Rattle.mount.specs.config_file.Settings.{Settings}
use Rattle.fs_model.specs.Tree.{Tree}
use Rattle.mount.specs.block_versions.Forgeries.{forged}
use Rattle.mount.specs.Answering.{calls_of}
use Rattle.mount.specs.declared.mount.Mount.{Mount}
use Rattle.outside.specs.Honest.{count_told}
use Rattle.outside.specs.Trace.{Call}
use Rattle.outside.specs.declared.keeper.Keeper.{Ghosts as KeeperGhosts}
use Rattle.session_laws.specs.Answering.{mount_hosting}
use Rattle.session_laws.specs.Causes.{AreBuilt}
use Rattle.session_laws.specs.Passing.{LeftAt}
use Rattle.session_laws.specs.Runs.{OpensTo, forgeries, outside_of}
use Rattle.session_laws.specs.Turns.{OnMount}
use Rattle.mount.specs.record_saver.declared.saver.SyncError.{SyncError}
use Rattle.mount.specs.mount_core.Showing.{Showing}

-- how many files of blocks the directory gave up to now that open and were never put
abbrev pub forgeries_at : {V : Type 0} → {K : Type 0} → (V → Option (List Call)) → Settings → Mount V K → ℕ
forgeries_at trace c mount = count_told (forged (opened_of c.key) c.block_size) (calls_of trace mount)

-- in the answer to this line the count rose, and the later ones came after it
pub record RoseAt {H : Type 0} (M : Hosting H) (count : H → ℕ) (old last : H) (earlier es : List Exchange) : Type 0 where
  pub line : Exchange
  pub new : H
  pub answers : M.answers old line.at line.asked line.answer new
  pub rose : count old < count new
  pub later : List Exchange
  pub ran : Ran M new later last
  pub all : es ≡ later ++ line ∷ earlier

-- The earlier answers are the plain tree's, and the mount that they left stands for the tree of a kept point. With the next line, if there is one, the directory
-- gave the first forged file of a block.
pub record RightUntilForged {V : Type 0} {K : Type 0} (shows : Showing) (trace : V → Option (List Call)) (faults : V → ℕ) (G : KeeperGhosts K) (c : Settings) (first : Tree) (count : ℕ) (opened last : Mount V K) (es : List Exchange) : Type 0 where
  pub earlier : List Exchange
  pub mount : Mount V K
  pub ran : Ran (mount_hosting (λ (m : Mount V K). m) shows trace faults G) opened earlier mount
  pub unforged : forgeries_at trace c mount ≡ count
  pub trees : List Tree
  pub replies : IsSession first earlier trees
  pub stands : LeftAt shows trace faults G mount first earlier trees (violated earlier)
  pub built : AreBuilt earlier
  pub until : ((es ≡ earlier) × (last ≡ mount)) ⊎ RoseAt (mount_hosting (λ (m : Mount V K). m) shows trace faults G) (forgeries_at trace c) mount last earlier es

-- whatever the directory gave in a session, its answers are right until a forged file of a block came
abbrev pub RepliesStayRight : {V : Type 0} → {K : Type 0} → Showing → (V → Option (List Call)) → (V → ℕ) → KeeperGhosts K → Type 0
RepliesStayRight {V = V} {K = K} shows trace faults G =
    (password : List ℕ) (vault last_vault : V) (keeper last_keeper : K) (closing : Result Unit SyncError) (es : List Exchange)
    → (m : OnMount shows trace faults G password vault keeper closing last_vault last_keeper es)
    → (c : Settings) (first : Tree) → OpensTo shows password c first (outside_of trace faults G vault keeper) (outside_of trace faults G last_vault last_keeper)
    → RightUntilForged shows trace faults G c first (forgeries c (outside_of trace faults G vault keeper)) m.opened m.left es
