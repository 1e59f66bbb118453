-- Calls that are told and answers that are set, as plain data.
use Rattle.std.specs.Prelude.{ℕ, List, Vec, map}
use Rattle.std.specs.declared.alloc.Global.{Global}
use Rattle.std.specs.declared.option.Option.{Option}
use Rattle.outside.specs.Trace.{Call, got, put, removed}
use Rattle.outside.specs.View.{at_of, bytes_of}
use Rattle.memory_outside.specs.declared.event.Event.{Event}
use Rattle.memory_outside.specs.declared.event.Event.TheVariants.{Got, Put, Removed}

-- a call that was made
abbrev pub call_of : Event → Call
call_of (Got name max answer) = got (at_of name) max (bytes_of answer)
call_of (Put name bytes ok) = put (at_of name) bytes.items ok
call_of (Removed name ok) = removed (at_of name) ok

-- answers, each with the number of its call
abbrev pub answers_of : List (ℕ × Option (Vec ℕ Global)) → List (ℕ × Option (List ℕ))
answers_of answers = map (λ answer. (answer.0, bytes_of answer.1)) answers
