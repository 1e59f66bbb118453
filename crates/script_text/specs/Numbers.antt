-- The numbers and moments that words write.
use Rattle.std.specs.Prelude.{ℕ, ◌+◌, ◌-◌, ◌^◌, Bool, ◌&&◌, ◌==◌, nat_le, nat_lt, cond, List, length, take, drop, slice_index, Option, Some, None, option_and_then}
use Rattle.std.specs.List.{list_all}
use Rattle.std.specs.Str.Parse.{digits_value}
use Rattle.fs_model.specs.Instant.{Instant}

-- a digit of a base up to ten
abbrev pub is_digit_in : ℕ → ℕ → Bool
is_digit_in base c = nat_le 48 c && nat_lt c (48 + base)

-- one to `most` digits of the base, zeros first or not
abbrev pub is_number_in : ℕ → ℕ → List ℕ → Bool
is_number_in base most word = nat_lt 0 (length word) && (nat_le (length word) most && list_all (is_digit_in base) word)

-- the number that such digits write
unfoldable pub number_in : ℕ → ℕ → List ℕ → Option ℕ
number_in base most word = cond (is_number_in base most word) (Some (digits_value base word)) None

abbrev pub below : ℕ → ℕ → Option ℕ
below limit n = cond (nat_lt n limit) (Some n) None

-- 1 to 20 decimal digits, a number below 2 ^ 64
unfoldable pub number_of : List ℕ → Option ℕ
number_of word = option_and_then (below (2 ^ 64)) (number_in 10 20 word)

-- a number below 2 ^ 32
unfoldable pub id_of : List ℕ → Option ℕ
id_of word = option_and_then (below (2 ^ 32)) (number_in 10 20 word)

-- 1 to 4 octal digits
unfoldable pub mode_of : List ℕ → Option ℕ
mode_of word = number_in 8 4 word

abbrev pub instant_of : Option ℕ → Option ℕ → Option Instant
instant_of (Some secs) (Some nanos) = Some (record { secs = secs; nanos = nanos })
instant_of _ _ = None

-- a number, a point and nine decimal digits
unfoldable pub time_of : List ℕ → Option Instant
time_of word =
    let point = length word - 10 in
    cond (nat_le 10 (length word) && (slice_index word point == 46)) (instant_of (number_of (take point word)) (number_in 10 9 (drop (point + 1) word))) None
