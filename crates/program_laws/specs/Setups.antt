-- What `info`, `passwd` and `create` do where nothing lies and nothing fails.
use Rattle.std.specs.Prelude.{◌≡◌, ◌⊎◌, ℕ, List}
use Rattle.std.specs.declared.option.Option.{Option}
use Rattle.std.specs.declared.option.Option.TheVariants.{None, Some}
use Rattle.session_laws.specs.config_file.Settings.{Settings}
use Rattle.check_runs.specs.setup_runs.Create.{RanCreate}
use Rattle.check_runs.specs.setup_runs.CreateText.{created_text}
use Rattle.check_runs.specs.setup_runs.Info.{Told}
use Rattle.check_runs.specs.setup_runs.InfoText.{info_text}
use Rattle.check_runs.specs.setup_runs.Passwd.{RanPasswd}
use Rattle.check_runs.specs.setup_runs.PasswdText.{changed_text}
use Rattle.fs_model.specs.Tree.{Tree, empty_tree}
use Rattle.copy_file.specs.line_io.Lines.{first_line}
use Rattle.copy_file.specs.line_io.Streams.{Stream, Untouched}
use Rattle.check_runs.specs.mount_stores.Drawing.{drawn}
use Rattle.check_runs.specs.mount_stores.Making.{IsUnchanged, new_settings}
use Rattle.check_runs.specs.mount_stores.Identities.{HasEmptyList}
use Rattle.outside.specs.Streams.{appends}
use Rattle.outside.specs.Trace.{At, Call}
use Rattle.outside.specs.declared.keeper.Keeper.{Ghosts as KeeperGhosts}
use Rattle.shell_runs.specs.run_frame.Passwords.{second_line, IsLongLine}
use Rattle.rand_core.specs.Stream.{Stream as Chance}
use Rattle.session_laws.specs.Openings.{HasCauses}
use Rattle.run_status.specs.declared.ended.Ended.{Ended}
use Rattle.run_status.specs.declared.status.Status.{Status}
use Rattle.run_status.specs.declared.status.Status.TheVariants.{Done, Memory}
use Rattle.scrypt_kdf.specs.Cost.{Cost}
use Rattle.session_laws.specs.Runs.{Outside, PasswordOpens}
use Rattle.copy_file.specs.store_api.Durables.{last_told}
use Rattle.program_laws.specs.Premises.{OfRun, IsUntroubled, Finds, Leaves}
use Rattle.program_laws.specs.Sessions.{FindsNoMemory}

-- it is done, this text was written, and this tree is there under the password, with nothing left to be written
pub record IsDone (output : Stream) (text password : List ℕ) (c : Settings) (tree : Tree) (after : Outside) (status : Status) : Type 0 where
  pub ends : status ≡ Done
  pub written : output.new ≡ appends output.old text
  pub leaves : Leaves password c tree after
  pub emptied : HasEmptyList after.kept

-- ---- info

-- the parameters with which the password opens the configuration
abbrev pub cost_of : (password : List ℕ) (c : Settings) (o : Outside) → PasswordOpens password c o → Cost
cost_of password c o opens = opens.1

-- where nothing lies and nothing fails, `info` tells the configuration, or finds no memory
abbrev pub InfoCompletes : {V : Type 0} → {K : Type 0} → (V → Option (List Call)) → (V → ℕ) → KeeperGhosts K → Type 0
InfoCompletes {V = V} {K = K} trace faults G =
    (input output : Stream) (vault : V) (keeper : K) (ended : Ended V K) (bytes : List ℕ) (c : Settings) (tree : Tree)
    → Told trace faults G input output vault keeper ended
    → OfRun trace faults G vault keeper ended (λ before after. (finds : Finds input bytes c tree before) → IsUntroubled input output before after
    → FindsNoMemory output (first_line bytes) c tree after ended.status
    ⊎ IsDone output (info_text c (cost_of (first_line bytes) c before finds.opens)) (first_line bytes) c tree after ended.status)

-- ---- passwd

-- memory was refused: the tree is there, under the old password or the new one
pub record StaysOrChanges (output : Stream) (old new : List ℕ) (c : Settings) (tree : Tree) (after : Outside) (status : Status) : Type 0 where
  pub ends : status ≡ Memory
  pub unwritten : Untouched output
  pub leaves : Leaves old c tree after ⊎ Leaves new c tree after

-- where nothing lies and nothing fails, `passwd` puts the second line of the input in the place of the first, or finds no memory
abbrev pub PasswdCompletes : {V : Type 0} → {K : Type 0} → (V → Option (List Call)) → (V → ℕ) → KeeperGhosts K → Type 0
PasswdCompletes {V = V} {K = K} trace faults G =
    (chance left : Chance) (input output : Stream) (vault : V) (keeper : K) (ended : Ended V K) (bytes : List ℕ) (c : Settings) (tree : Tree)
    → RanPasswd trace faults G chance left input output vault keeper ended
    → OfRun trace faults G vault keeper ended (λ before after. HasCauses before after ended.status → Finds input bytes c tree before → ¬ IsLongLine (second_line bytes) → IsUntroubled input output before after
    → StaysOrChanges output (first_line bytes) (second_line bytes) c tree after ended.status
    ⊎ IsDone output changed_text (second_line bytes) c tree after ended.status)

-- ---- create

-- nothing is kept, and no file was changed
pub record IsBare (o : Outside) : Type 0 where
  pub kept : o.kept ≡ None
  pub unchanged : IsUnchanged o.calls

-- memory was refused: it is bare still, or the empty tree is there
pub record StaysOrMakes (output : Stream) (password : List ℕ) (c : Settings) (after : Outside) (status : Status) : Type 0 where
  pub ends : status ≡ Memory
  pub unwritten : Untouched output
  pub leaves : ((after.kept ≡ None) × ((name : At) → last_told name after.calls ≡ None)) ⊎ Leaves password c empty_tree after

-- where nothing lies, nothing fails and nothing is there, `create` makes a file system with the empty tree, or finds no memory
abbrev pub CreateCompletes : {V : Type 0} → {K : Type 0} → (V → Option (List Call)) → (V → ℕ) → KeeperGhosts K → Type 0
CreateCompletes {V = V} {K = K} trace faults G =
    (cost : Cost) (block_size : ℕ) (chance left : Chance) (input output : Stream) (vault : V) (keeper : K) (ended : Ended V K) (bytes : List ℕ)
    → RanCreate trace faults G cost block_size chance left input output vault keeper ended
    → OfRun trace faults G vault keeper ended (λ before after. IsBare before → input.old ≡ Some bytes → ¬ IsLongLine (first_line bytes) → IsUntroubled input output before after
    → StaysOrMakes output (first_line bytes) (new_settings block_size (drawn chance).0) after ended.status
    ⊎ IsDone output (created_text (drawn chance).0.fs_id) (first_line bytes) (new_settings block_size (drawn chance).0) empty_tree after ended.status)
