-- The commands that numbers make.
use Rattle.std.specs.Prelude.{ℕ, ◌+◌, ◌*◌, ◌/◌, ◌%◌, ◌==◌, if◌then◌else◌, List, [], ◌∷◌, replicate}
use Rattle.std.specs.Fmt.{decimal}
use Rattle.fs_model.specs.declared.command.Command.{Command}
use Rattle.fs_model.specs.declared.command.Command.TheVariants.{Mkdir, Mkfile, Write, Mv, Truncate, Symlink, Read, Rm}

-- Eight numbers make a group. A group has a directory, one of sixteen, and a size.
abbrev pub group_of : ℕ → ℕ
group_of i = i / 8

abbrev pub directory_of : ℕ → ℕ
directory_of k = (5 * k + 3) % 16

abbrev pub size_of : ℕ → ℕ
size_of k = (37 * k + 11) % 1000

-- a letter and a number
abbrev pub numbered : ℕ → ℕ → List ℕ
numbered letter n = letter ∷ decimal n

-- `/d` and the number of the group's directory
abbrev pub folder : ℕ → List (List ℕ)
folder k = numbered 100 (directory_of k) ∷ []

-- in that directory, a letter and the number of the group
abbrev pub child : ℕ → ℕ → List (List ℕ)
child k letter = numbered 100 (directory_of k) ∷ numbered letter k ∷ []

-- The letters are `f` (102), `g` (103) and `l` (108).
abbrev pub in_group : ℕ → ℕ → Command
in_group k j =
    if j == 0 then Mkdir (folder k)
    else if j == 1 then Mkfile (child k 102)
    else if j == 2 then Write (child k 102) 0 (replicate 40 (k % 256))
    else if j == 3 then Mv (child k 102) (child k 103)
    else if j == 4 then Truncate (child k 103) (size_of k)
    else if j == 5 then Symlink (numbered 103 k) (child k 108)
    else if j == 6 then Read (child k 103) 0 1000
    else Rm (child k 108)

unfoldable pub generated_of : ℕ → Command
generated_of i = in_group (group_of i) (i % 8)
