-- The bytes of a file: what is asked for them, and what is written.
use Rattle.std.specs.Prelude.{◌≡◌, ℕ, ◌+◌, ◌*◌, ◌<◌, ◌≤◌, List, [], ◌∷◌, ◌++◌, length}
use Rattle.std.specs.declared.result.Result.{Result}
use Rattle.std.specs.declared.result.Result.TheVariants.{Ok, Err}
use Rattle.outside.specs.Streams.{appends}
use Rattle.copy_sessions.specs.line_io.Streams.{Stream, HasFailed, Cut}
use Rattle.copy_sessions.specs.session_lines.Driven.{IsUnfailed}
use Rattle.fs_model.specs.declared.command.Command.TheVariants as command
use Rattle.fs_model.specs.declared.reply.Reply.{Reply}
use Rattle.fs_model.specs.declared.reply.Reply.TheVariants.{Content, Error}
use Rattle.copy_row.specs.host_folder.Folders.{HostPath}
use Rattle.copy_row.specs.copy_laws.declared.asker.Stopped.{Stopped}
use Rattle.copy_row.specs.copy_laws.Importing.{joined}
use Rattle.copy_row.specs.copy_laws.Questions.{Question, Asking, Asked}
use Rattle.copy_row.specs.declared.stop.Stop.{Stop}
use Rattle.copy_row.specs.declared.stop.Stop.TheVariants as stop

-- a piece of a file was asked for, and this came of it
abbrev pub read_at : HostPath → ℕ → Result Reply Stopped → Question
read_at p place outcome = record { command = command.Read p place 1048576; outcome = outcome }

-- pieces of a file from this place on, one behind the other
abbrev pub reads : HostPath → ℕ → List (List ℕ) → List Question
reads p from [] = []
reads p from (piece ∷ more) = read_at p from (Ok (Content piece)) ∷ reads p (from + 1048576) more

-- none is shorter than was asked for
abbrev pub AreWhole : List (List ℕ) → Type 0
AreWhole [] = Unit {0}
AreWhole (piece ∷ more) = (1048576 ≤ length piece) × AreWhole more

-- the place behind so many of them
abbrev pub place_behind : List (List ℕ) → ℕ
place_behind pieces = 1048576 * length pieces

-- these bytes were written, and nothing failed
abbrev pub Wrote : Stream → List ℕ → Type 0
Wrote output bytes = (output.new ≡ appends output.old bytes) × IsUnfailed output

-- behind these pieces, which are whole and were written: a shorter one ends the file; or why there is no more of it
abbrev pub GetEnds : {X : Type 0} → HostPath → List (List ℕ) → List Question → Stream → Result X Stop → Type 0
GetEnds p pieces qs output (Ok x) = (last : List ℕ) × (((length last < 1048576) × (qs ≡ reads p 0 (pieces ++ last ∷ []))) × Wrote output (joined pieces ++ last))
GetEnds p pieces qs output (Err stop.Memory) = (qs ≡ reads p 0 pieces) × Wrote output (joined pieces)
GetEnds p pieces qs output (Err stop.Host) = (piece : List ℕ) × ((qs ≡ reads p 0 (pieces ++ piece ∷ [])) × (Cut (appends output.old (joined pieces)) output.new piece × HasFailed output))
GetEnds p pieces qs output (Err stop.Stopped) = (stopped : Stopped) × ((qs ≡ reads p 0 pieces ++ read_at p (place_behind pieces) (Err stopped) ∷ []) × Wrote output (joined pieces))
GetEnds p pieces qs output (Err (stop.Refused e)) = (qs ≡ reads p 0 pieces ++ read_at p (place_behind pieces) (Ok (Error e)) ∷ []) × Wrote output (joined pieces)

-- pieces of the file were asked for in order and written as they came, and nothing else
pub record IsGet (p : HostPath) (qs : List Question) (output : Stream) {X : Type 0} (result : Result X Stop) : Type 0 where
  pub pieces : List (List ℕ)
  pub whole : AreWhole pieces
  pub ends : GetEnds p pieces qs output result

-- the same of what an asker was asked
pub record FileGot {A : Type 0} (M : Asking A) (old new : A) (p : HostPath) (output : Stream) {X : Type 0} (result : Result X Stop) : Type 0 where
  pub qs : List Question
  pub asked : Asked M old new qs
  pub is : IsGet p qs output result

-- one piece was asked for, or there was no memory for that
abbrev pub PieceAsked : {A : Type 0} → Asking A → A → A → HostPath → ℕ → Result (List ℕ) Stop → Type 0
PieceAsked M old new p place (Ok bytes) = Asked M old new (read_at p place (Ok (Content bytes)) ∷ [])
PieceAsked M old new p place (Err stop.Memory) = new ≡ old
PieceAsked M old new p place (Err stop.Host) = ⊥
PieceAsked M old new p place (Err stop.Stopped) = (stopped : Stopped) × Asked M old new (read_at p place (Err stopped) ∷ [])
PieceAsked M old new p place (Err (stop.Refused e)) = Asked M old new (read_at p place (Ok (Error e)) ∷ [])
