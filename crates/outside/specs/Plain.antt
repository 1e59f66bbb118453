-- Records that every keeper keeps as they are given.
use Rattle.std.specs.Prelude.{◌≡◌, ℕ, false, List, [], ◌∷◌, ◌++◌, codes, nat_eq}
use Rattle.std.specs.List.{starts_with}

-- what a record begins with that is one of several clients
abbrev pub shared_magic : List ℕ
shared_magic = codes "cryfs.localstate;3" ++ 0 ∷ []

-- these bytes begin otherwise
abbrev pub IsPlain : List ℕ → Type 0
IsPlain bytes = starts_with nat_eq bytes shared_magic ≡ false
