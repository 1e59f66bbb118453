-- Files of blocks that open and were never put.
use Rattle.std.specs.Prelude.{ℕ, Bool, false, not, ◌&&◌, ◌||◌, List, [], ◌∷◌, is_some}
use Rattle.std.specs.Str.{bytes_eq}
use Rattle.std.specs.declared.option.Option.{Option}
use Rattle.std.specs.declared.option.Option.TheVariants.{None, Some}
use Rattle.outside.specs.Trace.{config, block, Call, got, put, removed}
use Rattle.sealed_store.specs.BlockFiles.{opens_file}

-- whether the call put these bytes
abbrev pub puts : List ℕ → Call → Bool
puts bytes (got name max answer) = false
puts bytes (put name b ok) = bytes_eq b bytes
puts bytes (removed name ok) = false

-- whether these bytes were put under any name
abbrev pub was_put : List ℕ → List Call → Bool
was_put bytes [] = false
was_put bytes (call ∷ calls) = puts bytes call || was_put bytes calls

-- an answer for a block that opens, of bytes that no call before put
abbrev pub opens_unput : (List ℕ → List ℕ → Option (List ℕ)) → ℕ → List ℕ → List Call → Option (List ℕ) → Bool
opens_unput opens size id before None = false
opens_unput opens size id before (Some bytes) = is_some (opens_file opens size id bytes) && not (was_put bytes before)

-- whether the call gave a block's file that opens and was never put
abbrev pub forged : (List ℕ → List ℕ → Option (List ℕ)) → ℕ → List Call → Call → Bool
forged opens size before (got config max answer) = false
forged opens size before (got (block id) max answer) = opens_unput opens size id before answer
forged opens size before (put name bytes ok) = false
forged opens size before (removed name ok) = false
