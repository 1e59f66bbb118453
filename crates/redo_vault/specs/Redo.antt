-- A directory with its unwritten list.
use Rattle.std.specs.Prelude.{◌≡◌, ℕ, ◌-◌, ◌^◌, min, List, length, sum_by}
use Rattle.std.specs.declared.option.Option.{Option}
use Rattle.std.specs.declared.option.Option.TheVariants.{None, Some}
use Rattle.outside.specs.Trace.{At, Call, got, adds}
use Rattle.outside.specs.Changes.{FileChanges, cut}

-- the directory below, and the changes in order of their names
pub record Redo (V : Type 0) : Type 0 where
  pub vault : V
  pub list : FileChanges

-- A get gave this answer: where the list has the name, its bytes cut at max, without a call; else by one call.
abbrev pub Gave : Option (Option (List ℕ)) → Option (List Call) → Option (List Call) → At → ℕ → Option (List ℕ) → Type 0
Gave None old new name max answer = new ≡ adds old (got name max answer)
Gave (Some change) old new name max answer = (new ≡ old) × (answer ≡ cut max change)

-- how many bytes a change puts
abbrev pub bytes_len : Option (List ℕ) → ℕ
bytes_len None = 0
bytes_len (Some bytes) = length bytes

-- how many bytes are to be put, up to the end of the type
abbrev pub buffered_len : FileChanges → ℕ
buffered_len list = min (sum_by (λ change. bytes_len change.1) list) (2 ^ 64 - 1)

-- how many bytes a change counts, where each removal counts so many
abbrev pub len_with : ℕ → Option (List ℕ) → ℕ
len_with removal None = removal
len_with removal (Some bytes) = length bytes

-- how many bytes a list counts, where each removal counts so many, up to the end of the type
abbrev pub sum_with : ℕ → FileChanges → ℕ
sum_with removal list = min (sum_by (λ change. len_with removal change.1) list) (2 ^ 64 - 1)

-- what a list weighs: the bytes that it puts, and 64 for each removal, up to the end of the type
abbrev pub weight_len : FileChanges → ℕ
weight_len list = sum_with 64 list

-- these are the bytes that a list puts and its weight
pub record AreSums (sums : ℕ × ℕ) (list : FileChanges) : Type 0 where
  pub buffered : sums.0 ≡ sum_with 0 list
  pub weight : sums.1 ≡ sum_with 64 list
