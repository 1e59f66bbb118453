-- Whether a directory gave what was last written.
use Rattle.std.specs.Prelude.{◌≡◌, ℕ, ◌+◌, Bool, true, false, not, ◌&&◌, ◌||◌, IsTrue, List, [], ◌∷◌, ◌++◌, if◌then◌else◌, is_none}
use Rattle.std.specs.Str.{bytes_eq}
use Rattle.std.specs.declared.option.Option.{Option}
use Rattle.std.specs.declared.option.Option.TheVariants.{None, Some}
use Rattle.outside.specs.Trace.{At, Call, got, put, removed}
use Rattle.outside.specs.Names.{same_at}
use Rattle.outside.specs.Changes.{cut}

-- a change of a file: its new bytes, or None for its removal, and whether the call answered ok
pub record LastChange : Type 0 where
  pub bytes : Option (List ℕ)
  pub ok : Bool

-- the last change of a file, where the newest call stands first
abbrev pub last_change : At → List Call → Option LastChange
last_change name [] = None
last_change name (got other max answer ∷ trace) = last_change name trace
last_change name (put other bytes ok ∷ trace) = if same_at other name then Some (record { bytes = Some bytes; ok = ok }) else last_change name trace
last_change name (removed other ok ∷ trace) = if same_at other name then Some (record { bytes = None; ok = ok }) else last_change name trace

abbrev pub same_answer : Option (List ℕ) → Option (List ℕ) → Bool
same_answer None None = true
same_answer None (Some b) = false
same_answer (Some a) None = false
same_answer (Some a) (Some b) = bytes_eq a b

-- whether an answer is what the last change left, cut at max; after a change that didn't answer ok each is
abbrev pub is_left : Option LastChange → ℕ → Option (List ℕ) → Bool
is_left None max answer = is_none answer
is_left (Some last) max answer = not last.ok || same_answer answer (cut max last.bytes)

-- whether this call, after those before it, gave something else than what was last written
abbrev pub is_lie : List Call → Call → Bool
is_lie before (got name max answer) = not (is_left (last_change name before) max answer)
is_lie before (put name bytes ok) = false
is_lie before (removed name ok) = false

-- none of the new calls passes a test, each judged with those before it
abbrev pub none_pass : (List Call → Call → Bool) → List Call → List Call → Bool
none_pass test before [] = true
none_pass test before (call ∷ new) = not (test (new ++ before) call) && none_pass test before new

abbrev pub NonePass : (List Call → Call → Bool) → List Call → List Call → Type 0
NonePass test before new = IsTrue (none_pass test before new)

-- each of the new calls gave what was last written
abbrev pub IsHonest : List Call → List Call → Type 0
IsHonest before new = NonePass is_lie before new

-- the same of the calls by which a trace went on, where it is told
abbrev pub NonePassSince : (List Call → Call → Bool) → Option (List Call) → Option (List Call) → Type 0
NonePassSince test None now = Unit {0}
NonePassSince test (Some before) now = (new : List Call) × (now ≡ Some (new ++ before)) × NonePass test before new

-- how many calls of a trace pass a test, each judged with those before it
abbrev pub count_calls : (List Call → Call → Bool) → List Call → ℕ
count_calls test [] = 0
count_calls test (call ∷ before) = (if test before call then 1 else 0) + count_calls test before

abbrev pub lies : List Call → ℕ
lies trace = count_calls is_lie trace

-- the count of a trace that is told
abbrev pub count_told : (List Call → Call → Bool) → Option (List Call) → ℕ
count_told test None = 0
count_told test (Some trace) = count_calls test trace
