-- The record of what was written anew stands for the tree that its blocks show.
use Rattle.std.specs.Prelude.{◌≡◌, ◌≤◌, ℕ, true, List, [], take, is_some, Result}
use Rattle.std.specs.declared.option.Option.{Option}
use Rattle.std.specs.declared.result.Result.TheVariants.{Ok, Err}
use Rattle.block_id.specs.Formats.{magic}
use Rattle.fs_model.specs.Tree.{Tree}
use Rattle.outside.specs.Causes.{RoseBy}
use Rattle.outside.specs.Honest.{count_told}
use Rattle.outside.specs.Trace.{Call}
use Rattle.outside.specs.declared.keeper.Keeper.{Ghosts as KeeperGhosts}
use Rattle.anew.specs.Begun.{HasNewClient, IsBegun}
use Rattle.mount.specs.Representing.{Represents}
use Rattle.mount.specs.aes_gcm.Gcm.{opened_of}
use Rattle.mount.specs.block_versions.Forgeries.{forged}
use Rattle.mount.specs.block_versions.Held.{Held}
use Rattle.mount.specs.block_versions.Reads.{WentOnByReads}
use Rattle.mount.specs.block_versions.Standing.{identity_of, records}
use Rattle.mount.specs.config_file.Settings.{Settings}
use Rattle.mount.specs.mount_stores.Identities.{KeepsRecord, holder_of, identity_for}
use Rattle.mount.specs.path_layer.Showing.{ShowsFiles}
use Rattle.mount.specs.record_saver.Saving.{KeptConfigures}
use Rattle.block_id.specs.declared.fail.Fail.TheVariants.{Fault}
use Rattle.mount.specs.record_saver.declared.saver.SyncError.TheVariants.{FaultState}
use Rattle.recovering.specs.declared.keeping.Unkept.{Unkept}
use Rattle.recovering.specs.declared.keeping.Unkept.TheVariants.{Failed, Unsaved}

-- The record of this state is kept, with an empty list. Under each configuration that it is of, where the number of its client was new before the first call and each block was written anew
-- since, it stands over all calls there ever were for a tree, unless a file that opens was forged since the writing. And the configuration's file holds the bytes that were put.
pub record IsRestored {V : Type 0} {K : Type 0} (trace : V → Option (List Call)) (G : KeeperGhosts K) (h : Held) (root : List ℕ) (written : Option (List Call)) (vault : V) (keeper : K) : Type 0 where
  pub tree : Tree
  pub kept : KeepsRecord (G.kept keeper) h.state []
  pub stands : (c : Settings) (file : List ℕ) (before : Option (List Call)) → c.root ≡ root → identity_of h ≡ identity_for c (holder_of h.state) → (take 14 file ≡ magic → ⊥)
      → HasNewClient h before → IsBegun h file before written
      → count_told (forged (opened_of c.key) c.block_size) (trace vault) ≤ count_told (forged (opened_of c.key) c.block_size) written
      → Represents ShowsFiles (G.kept keeper) (trace vault) c tree
  pub configures : (file : List ℕ) (before : Option (List Call)) → is_some before ≡ true → IsBegun h file before written → KeptConfigures records (G.kept keeper) (trace vault) file

-- after the writing the directory was only asked for blocks, live ones of what is held so
pub record OnlyReads (written after : Option (List Call)) : Type 0 where
  pub reader : Held
  pub reads : WentOnByReads reader written after

-- after an error nothing is kept anew, but that a save that failed may have kept the record
abbrev pub LeavesUnrestored : {K : Type 0} → (K → Option (List ℕ)) → K → K → Result Unit Unkept → Type 0
LeavesUnrestored kept keeper after (Ok _) = Unit {0}
LeavesUnrestored kept keeper after (Err (Unsaved FaultState)) = Unit {0}
LeavesUnrestored kept keeper after (Err error) = kept after ≡ kept keeper

-- each fault is told just where its count rose
abbrev pub TellsRestored : {K : Type 0} → KeeperGhosts K → ℕ → ℕ → K → K → Result Unit Unkept → Type 0
TellsRestored G failed fails keeper after (Err (Failed Fault)) = RoseBy 1 failed fails × (G.faults after ≡ G.faults keeper)
TellsRestored G failed fails keeper after (Err (Unsaved FaultState)) = RoseBy 1 (G.faults keeper) (G.faults after) × (fails ≡ failed)
TellsRestored G failed fails keeper after result = (fails ≡ failed) × (G.faults after ≡ G.faults keeper)
