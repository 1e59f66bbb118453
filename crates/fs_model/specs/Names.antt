-- Names of a directory, and what a command may carry.
use Rattle.std.specs.Prelude.{ℕ, Bool, false, not, ◌&&◌, ◌||◌, ◌==◌, nat_le, nat_lt, IsTrue, List, [], ◌∷◌, length}
use Rattle.std.specs.List.{list_any}
use Rattle.fs_model.specs.declared.limits.TheConstants.{MAX_NAME}

-- `.` or `..`
abbrev pub is_dots : List ℕ → Bool
is_dots [] = false
is_dots (a ∷ []) = a == 46
is_dots (a ∷ b ∷ []) = (a == 46) && (b == 46)
is_dots (a ∷ b ∷ c ∷ rest) = false

abbrev pub is_zero : ℕ → Bool
is_zero b = b == 0

-- a zero byte, or the slash between the names of a path
abbrev pub is_reserved : ℕ → Bool
is_reserved b = (b == 0) || (b == 47)

abbrev pub is_name : List ℕ → Bool
is_name n = nat_lt 0 (length n) && (nat_le (length n) MAX_NAME && (not (list_any is_reserved n) && not (is_dots n)))

-- 1 to 255 bytes without `/` and zero, not `.` or `..`
abbrev pub IsName : List ℕ → Type 0
IsName n = IsTrue (is_name n)
