-- What `create` does.
use Rattle.std.specs.Prelude.{◌≡◌, ◌⊎◌, ℕ, List, Result, IsErr, OnOk}
use Rattle.std.specs.declared.option.Option.{Option}
use Rattle.std.specs.declared.option.Option.TheVariants.{None}
use Rattle.block_id.specs.declared.id.BlockId.{BlockId}
use Rattle.rand_core.specs.Stream.{Stream as Chance}
use Rattle.scrypt_kdf.specs.Cost.{Cost}
use Rattle.session_laws.specs.config_file.ConfigOf.{IsOnly, opened}
use Rattle.session_laws.specs.config_file.Settings.{Settings}
use Rattle.session_laws.specs.line_io.Streams.{Stream}
use Rattle.session_laws.specs.mount_stores.Drawing.{drawn}
use Rattle.session_laws.specs.mount_stores.declared.error.OpenError.{OpenError}
use Rattle.mount_calls.specs.Migrating.{KeepsNewest}
use Rattle.session_laws.specs.mount.Making.{Created as Made, HasClient, HasSalt, KnowsOnly, MakesOnlyAnew, TellsMade}
use Rattle.session_laws.specs.config_file.Sealing.{sealed_file}
use Rattle.session_laws.specs.mount_stores.Making.{IsUnchanged, new_settings, root_of}
use Rattle.outside.specs.Trace.{Call}
use Rattle.outside.specs.declared.keeper.Keeper.{Ghosts as KeeperGhosts}
use Rattle.session_laws.specs.run_frame.Passwords.{PasswordUnread}
use Rattle.session_laws.specs.Drawing.{SealsFirst}
use Rattle.session_laws.specs.Openings.{HasPassword, IsUnread}
use Rattle.session_laws.specs.Runs.{outside_of}
use Rattle.run_status.specs.declared.ended.Ended.{Ended}
use Rattle.session_laws.specs.session_lines.Driven.{IsUnfailed}
use Rattle.session_laws.specs.mount_core.Showing.{ShowsFiles}
use Rattle.setup_runs.specs.CreateText.{Reports}

-- what the configuration is made of: the settings by what a stream draws, and the text of its file
abbrev pub settings_drawn : ℕ → Chance → Settings
settings_drawn block_size chance = new_settings block_size (drawn chance).0

abbrev pub file_drawn : Cost → ℕ → Chance → List ℕ → List ℕ
file_drawn cost block_size chance password = sealed_file password cost (drawn chance).0.seal (settings_drawn block_size chance)

-- A file system of this cost and block size was made under the password, of what was drawn from a stream, which is left so, or it wasn't by an error.
pub record IsCreated {V : Type 0} {K : Type 0} (trace : V → Option (List Call)) (faults : V → ℕ) (G : KeeperGhosts K) (cost : Cost) (block_size : ℕ) (chance left : Chance) (password : List ℕ) (output : Stream) (vault : V) (keeper : K) (ended : Ended V K) : Type 0 where
  pub made : Result BlockId OpenError
  pub reports : Reports made output ended.status
  -- where nothing was there, the empty tree is kept, or after an error perhaps nothing
  pub stands : IsUnchanged (trace vault) → G.kept keeper ≡ None
      → Made ShowsFiles (settings_drawn block_size chance) (file_drawn cost block_size chance password) (G.kept keeper) (G.kept ended.keeper) (trace ended.vault) made
  -- the configuration's text opens under the password and nothing else, where it was put
  pub opens : IsOnly password (file_drawn cost block_size chance password) (opened (settings_drawn block_size chance) cost)
      ⊎ ((G.kept ended.keeper ≡ G.kept keeper) × IsErr made)
  pub anew : MakesOnlyAnew trace G vault keeper ended.vault ended.keeper made
  pub tells : TellsMade trace faults G (drawn chance).0.fs_id vault keeper ended.vault ended.keeper made
  -- the new record knows the root's block at its first version at most, and no other
  pub versions : OnOk made (KnowsOnly (G.kept ended.keeper) (root_of (drawn chance).0.root))
  -- and it has no mark, and takes block files of the newest format alone
  pub newest : OnOk made (KeepsNewest (G.kept ended.keeper))
  -- and the digest of the key in it has the drawn salt
  pub salt : OnOk made (HasSalt (G.kept ended.keeper) (drawn chance).0.key_salt)
  -- and it is the record of client 1
  pub client : OnOk made (HasClient (G.kept ended.keeper) 1)
  -- no block's file was sealed but the root's, with the next 16 bytes of the stream as its vector; and nothing was put or left waiting but that and the configuration's text
  pub sealed : SealsFirst (file_drawn cost block_size chance password) (root_of (drawn chance).0.root) (drawn chance).1 left (outside_of trace faults G vault keeper) (outside_of trace faults G ended.vault ended.keeper)

-- the password line wasn't read and nothing was done, or its password is the one
abbrev pub RanCreate : {V : Type 0} → {K : Type 0} → (V → Option (List Call)) → (V → ℕ) → KeeperGhosts K → Cost → ℕ → Chance → Chance → Stream → Stream → V → K → Ended V K → Type 0
RanCreate trace faults G cost block_size chance left input output vault keeper ended =
    IsUnread (PasswordUnread input) output vault keeper ended
    ⊎ ((password : List ℕ) × (after : Option (List ℕ)) × HasPassword input password after × IsUnfailed input
    × IsCreated trace faults G cost block_size chance left password output vault keeper ended)
