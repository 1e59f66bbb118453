-- A new file of the bytes that come: what is asked for it, and how that ends.
use Rattle.std.specs.Prelude.{◌≡◌, ◌⊎◌, ℕ, ◌<◌, ◌≤◌, ◌^◌, List, ◌∷◌, length, IfSome, IfOk, OnOk}
use Rattle.std.specs.declared.option.Option.{Option}
use Rattle.std.specs.declared.result.Result.{Result}
use Rattle.std.specs.declared.result.Result.TheVariants.{Ok, Err}
use Rattle.outside.specs.Streams.{WereTaken, Ends}
use Rattle.outside.specs.declared.vault.GetFail.{GetFail}
use Rattle.outside.specs.declared.vault.GetFail.TheVariants as get_fail
use Rattle.copy_sessions.specs.line_io.Streams.{Stream, HasFailed, TookMost}
use Rattle.copy_sessions.specs.session_lines.Driven.{IsUnfailed}
use Rattle.fs_model.specs.declared.command.Command.{Command}
use Rattle.fs_model.specs.declared.command.Command.TheVariants as command
use Rattle.copy_row.specs.host_folder.Folders.{HostPath}
use Rattle.copy_row.specs.copy_laws.declared.copied.Totals.{Totals}
use Rattle.copy_row.specs.copy_laws.Ends.{counted, up_to}
use Rattle.copy_row.specs.copy_laws.Importing.{writes, pieces_of}
use Rattle.copy_row.specs.copy_laws.Questions.{Question, Asking, Asked, commands_of}
use Rattle.copy_row.specs.declared.stop.Stop.{Stop}
use Rattle.copy_row.specs.declared.stop.Stop.TheVariants as stop
use Rattle.copy_row.specs.Rows.{Asks, AsksFor, RowEnds}

-- a new file, and its bytes in pieces
abbrev pub put_commands : HostPath → List ℕ → List Command
put_commands p bytes = command.Mkfile p ∷ writes p 0 (pieces_of bytes)

-- one file of these bytes
abbrev pub one_file : List ℕ → Totals
one_file bytes = record { dirs = 0; files = 1; links = 0; bytes = up_to (length bytes) }

-- the commands for a file of these bytes were asked in order: all were done, or the last that was asked says why not
pub record IsPut (p : HostPath) (bytes : List ℕ) (qs : List Question) (result : Result Totals Stop) : Type 0 where
  pub ends : RowEnds p qs result
  pub commands : AsksFor result (commands_of qs) (put_commands p bytes)
  pub counts : IfOk result (λ totals. totals ≡ one_file bytes)

-- the same of what an asker was asked; where the bytes that come are told, it is these
pub record FilePut {A : Type 0} (M : Asking A) (old new : A) (come : Option (List ℕ)) (p : HostPath) (result : Result Totals Stop) : Type 0 where
  pub bytes : List ℕ
  pub qs : List Question
  pub told : IfSome come (λ w. w ≡ bytes)
  pub asked : Asked M old new qs
  pub is : IsPut p bytes qs result

-- how the input goes of a put that ends so: it was read to its end, or it failed
abbrev pub InputBy : {X : Type 0} → ℕ → Stream → Result X Stop → Type 0
InputBy taken input (Ok x) = Ends input.new × IsUnfailed input
InputBy taken input (Err stop.Memory) = IsUnfailed input
InputBy taken input (Err stop.Host) = HasFailed input ⊎ TookMost taken input
InputBy taken input (Err stop.Stopped) = IsUnfailed input
InputBy taken input (Err (stop.Refused e)) = IsUnfailed input

-- ---- piece by piece

-- a piece was taken of what comes: 1,048,576 bytes, or fewer, and then nothing is left
pub record IsTaken (before after : Option (List ℕ)) (piece : List ℕ) : Type 0 where
  pub took : WereTaken before after piece
  pub few : length piece ≤ 1048576
  pub last : length piece < 1048576 → Ends after

abbrev pub PieceFaults : {X : Type 0} → ℕ → Stream → Result X GetFail → Type 0
PieceFaults taken input (Ok x) = IsUnfailed input
PieceFaults taken input (Err get_fail.Memory) = IsUnfailed input
PieceFaults taken input (Err get_fail.Failed) = HasFailed input ⊎ (taken ≡ 2 ^ 63)

-- the bytes that come were written into a new file, in pieces
pub record BytesPut {A : Type 0} (M : Asking A) (old new : A) (come : Option (List ℕ)) (to : HostPath) (before after : Totals) {X : Type 0} (result : Result X Stop) : Type 0 where
  pub bytes : List ℕ
  pub told : IfSome come (λ w. w ≡ bytes)
  pub asks : Asks M old new to (writes to 0 (pieces_of bytes)) result
  pub counts : OnOk result (after ≡ counted before (writes to 0 (pieces_of bytes)))
