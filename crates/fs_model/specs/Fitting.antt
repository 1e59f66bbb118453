-- Commands that a tree takes.
use Rattle.std.specs.Prelude.{ℕ, Bool, true, not, ◌&&◌, nat_le, nat_lt, IsTrue, List, length}
use Rattle.std.specs.List.{All, list_any}
use Rattle.fs_model.specs.declared.limits.TheConstants.{MAX_TARGET, MAX_MODE}
use Rattle.fs_model.specs.declared.command.Command.{Command}
use Rattle.fs_model.specs.declared.command.Command.TheVariants.{Symlink, Chmod}
use Rattle.fs_model.specs.declared.command.Command.TheVariants as command
use Rattle.fs_model.specs.Names.{IsName, is_zero}

-- 1 to 4,095 bytes, none of them zero
abbrev pub is_target : List ℕ → Bool
is_target t = nat_lt 0 (length t) && (nat_le (length t) MAX_TARGET && not (list_any is_zero t))

abbrev pub is_mode : ℕ → Bool
is_mode m = nat_le m MAX_MODE

-- a link's target and a mode are within their limits
abbrev pub is_fitting : Command → Bool
is_fitting (Symlink target p) = is_target target
is_fitting (Chmod p mode) = is_mode mode
is_fitting _ = true

abbrev pub IsFitting : Command → Type 0
IsFitting c = IsTrue (is_fitting c)

-- each element of its paths is a name
abbrev pub HoldsNames : Command → Type 0
HoldsNames (command.List p) = All IsName p
HoldsNames (command.Stat p) = All IsName p
HoldsNames (command.Mkdir p) = All IsName p
HoldsNames (command.Rmdir p) = All IsName p
HoldsNames (command.Mkfile p) = All IsName p
HoldsNames (command.Rm p) = All IsName p
HoldsNames (command.Mv p q) = All IsName p × All IsName q
HoldsNames (command.Symlink target p) = All IsName p
HoldsNames (command.Readlink p) = All IsName p
HoldsNames (command.Write p from bytes) = All IsName p
HoldsNames (command.Read p from count) = All IsName p
HoldsNames (command.Truncate p n) = All IsName p
HoldsNames (command.Chmod p mode) = All IsName p
HoldsNames (command.Chown p uid gid) = All IsName p
HoldsNames (command.Utime p atime mtime) = All IsName p
HoldsNames command.Sync = Unit {0}
