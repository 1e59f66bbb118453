-- The words of blocks in the order of their diagonals, in which Salsa20/8 works on them.
use Rattle.std.specs.Prelude.{ℕ, ◌+◌, ◌*◌, ◌/◌, ◌%◌, List, length, map, slice_index}
use Rattle.std.specs.List.{range_with_len}

-- where byte k comes from: its word from step times its place in the block, modulo 16
abbrev pub source : ℕ → ℕ → ℕ
source step k = 64 * (k / 64) + (4 * ((step * (k / 4)) % 16) + k % 4)

-- blocks with their words in that order
unfoldable pub reordered : ℕ → List ℕ → List ℕ
reordered step b = map (λ k. slice_index b (source step k)) (range_with_len 0 (length b))

-- the words 0, 5, 10, 15; 4, 9, 14, 3; 8, 13, 2, 7; 12, 1, 6, 11
abbrev pub on_diagonals : List ℕ → List ℕ
on_diagonals b = reordered 5 b
