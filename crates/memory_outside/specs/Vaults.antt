-- A directory in memory: what it holds, what is set, and what its calls do.
use Rattle.std.specs.Prelude.{◌≡◌, ◌⊎◌, ◌<◌, ℕ, Bool, true, false, not, ◌||◌, nat_le, ◌==◌, List, [], ◌∷◌, Vec, length, filter, if◌then◌else◌, unwrap_or, option_and_then, Result, IfOk, OnOk, IsErrOf}
use Rattle.std.specs.List.{list_any}
use Rattle.std.specs.declared.alloc.Global.{Global}
use Rattle.std.specs.declared.option.Option.{Option}
use Rattle.std.specs.declared.option.Option.TheVariants.{None, Some}
use Rattle.outside.specs.declared.directory_names.TheConstants.{MAX_NAMES}
use Rattle.outside.specs.declared.vault.GetFail.{GetFail}
use Rattle.outside.specs.declared.vault.GetFail.TheVariants.{Memory, Failed}
use Rattle.outside.specs.Trace.{At, Call, got}
use Rattle.outside.specs.Causes.{one_more}
use Rattle.outside.specs.View.{bytes_of}
use Rattle.outside.specs.Names.{same_at}
use Rattle.outside.specs.Changes.{FileChanges, change_at, cut}
use Rattle.memory_outside.specs.FileNames.{all_names}
use Rattle.outside.specs.Honest.{LastChange, last_change}

pub record VaultState : Type 0 where
  -- the calls, the newest first
  pub trace : List Call
  pub files : FileChanges
  pub faults : ℕ
  -- how many calls, gets, and puts and removals there were since the last setting
  pub calls : ℕ
  pub gets : ℕ
  pub changes : ℕ
  -- the numbers of calls that fail, the first put or removal from which on each fails, and answers of gets
  pub failing : List ℕ
  pub failing_from : Option ℕ
  pub answers : List (ℕ × Option (List ℕ))
  -- the names of strange files
  pub strange : List (List ℕ)

-- the number is one of these
abbrev pub is_listed : List ℕ → ℕ → Bool
is_listed numbers number = list_any (λ n. n == number) numbers

abbrev pub is_from : Option ℕ → ℕ → Bool
is_from None number = false
is_from (Some first) number = nat_le first number

-- the answer that replaces that of the get of this number
abbrev pub answer_at : List (ℕ × Option (List ℕ)) → ℕ → Option (Option (List ℕ))
answer_at [] number = None
answer_at (answer ∷ answers) number = if answer.0 == number then Some answer.1 else answer_at answers number

-- the bytes of a file, where it is there
abbrev pub file_at : At → FileChanges → Option (List ℕ)
file_at name files = option_and_then (λ change. change) (change_at name files)

-- the names of its files and the strange ones, by increasing bytes and each once
abbrev pub names_in : VaultState → List (List ℕ)
names_in v = all_names v.files v.strange

-- whether the next call is made to fail, as a get or a listing, or as a put or removal
abbrev pub get_fails : VaultState → Bool
get_fails v = is_listed v.failing (one_more v.calls)

abbrev pub change_fails : VaultState → Bool
change_fails v = is_listed v.failing (one_more v.calls) || is_from v.failing_from (one_more v.changes)

-- what the next get gives, before it is cut
abbrev pub given : VaultState → At → Option (List ℕ)
given v name = unwrap_or (answer_at v.answers (one_more v.gets)) (file_at name v.files)

abbrev pub without : At → FileChanges → FileChanges
without name files = filter (λ file. not (same_at name file.0)) files

abbrev pub after_get : VaultState → Call → VaultState
after_get v call = record v { trace = call ∷ v.trace; calls = one_more v.calls; gets = one_more v.gets }

abbrev pub after_failed_get : VaultState → VaultState
after_failed_get v = record v { faults = one_more v.faults; calls = one_more v.calls; gets = one_more v.gets }

-- after a put or a removal that answered ok, with the files that it left
abbrev pub after_change : VaultState → Call → FileChanges → VaultState
after_change v call files = record v { trace = call ∷ v.trace; files = files; calls = one_more v.calls; changes = one_more v.changes }

abbrev pub after_failed_change : VaultState → Call → VaultState
after_failed_change v call = record v { trace = call ∷ v.trace; faults = one_more v.faults; calls = one_more v.calls; changes = one_more v.changes }

-- after a listing, which is neither a get nor a change
abbrev pub after_list : VaultState → VaultState
after_list v = record v { calls = one_more v.calls }

abbrev pub after_failed_list : VaultState → VaultState
after_failed_list v = record v { faults = one_more v.faults; calls = one_more v.calls }

-- after a setting
abbrev pub restarted : VaultState → VaultState
restarted v = record v { calls = 0; gets = 0; changes = 0 }

-- a get gives what is set, or the file, and fails where it is set to
pub record GetsAsSet (old new : VaultState) (name : At) (max : ℕ) (result : Result (Option (Vec ℕ Global)) GetFail) : Type 0 where
  pub gives : IfOk result (λ answer. bytes_of answer ≡ cut max (given old name))
  pub after : IfOk result (λ answer. new ≡ after_get old (got name max (bytes_of answer)))
  pub ok_where_not_listed : OnOk result (get_fails old ≡ false)
  pub failed_where_listed : IsErrOf result Failed → (get_fails old ≡ true) × (new ≡ after_failed_get old)
  pub memory : IsErrOf result Memory → (get_fails old ≡ false) × (new ≡ old)

-- a listing counts a call, and fails where it is set to or where there are more names than it gives
pub record ListsAsSet {T : Type 0} (old new : VaultState) (result : Result T GetFail) : Type 0 where
  pub after : OnOk result (new ≡ after_list old)
  pub ok_where_not_listed : OnOk result (get_fails old ≡ false)
  pub failed : IsErrOf result Failed → new ≡ after_failed_list old
  pub failed_where_listed_or_many : IsErrOf result Failed → (get_fails old ≡ true) ⊎ (MAX_NAMES < length (names_in old))
  pub memory : IsErrOf result Memory → (get_fails old ≡ false) × (new ≡ old)

-- a file is what its last change left, or that change didn't answer ok
abbrev pub IsLeftBy : Option LastChange → Option (List ℕ) → Type 0
IsLeftBy None file = file ≡ None
IsLeftBy (Some last) file = (last.ok ≡ false) ⊎ (file ≡ last.bytes)

-- no answer is replaced, and each file is what its last change left
pub record IsUntampered (v : VaultState) : Type 0 where
  pub none_replaced : v.answers ≡ []
  pub files_left : (name : At) → IsLeftBy (last_change name v.trace) (file_at name v.files)
