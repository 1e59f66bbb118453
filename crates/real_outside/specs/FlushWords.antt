-- What a helper is asked for, and how it answers: a word in 8 bytes, and the number of the request in 8, the lowest first.
use Rattle.std.specs.Prelude.{ℕ, List, [], ◌∷◌, ◌++◌, codes}
use Rattle.std.specs.Int.{w64, to_le_bytes}

-- three bytes of 0 behind the word
abbrev pub request_of : ℕ → List ℕ
request_of number = codes "flush" ++ (0 ∷ 0 ∷ 0 ∷ []) ++ to_le_bytes w64 number

-- the request of this number was done; four bytes of 0 behind the word
abbrev pub done_of : ℕ → List ℕ
done_of number = codes "done" ++ (0 ∷ 0 ∷ 0 ∷ 0 ∷ []) ++ to_le_bytes w64 number
