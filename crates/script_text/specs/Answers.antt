-- What a call that reads a line answers.
use Rattle.std.specs.Prelude.{◌≡◌, Result, Ok, Err}
use Rattle.fs_model.specs.declared.error.FsError.{FsError}
use Rattle.script_text.specs.declared.error.LineError.{LineError}
use Rattle.script_text.specs.declared.error.LineError.TheVariants.{Memory, Bad}

-- the grammar gives this refusal, unless memory was refused
abbrev pub IsRefusal : {A : Type 0} → Result A FsError → LineError → Type 0
IsRefusal read Memory = Unit {0}
IsRefusal read (Bad e) = read ≡ Err e

-- what was answered is what the grammar gives, seen by view, unless memory was refused
abbrev pub Gives : {A B : Type 0} → (A → B) → Result A LineError → Result B FsError → Type 0
Gives view (Ok x) read = read ≡ Ok (view x)
Gives view (Err e) read = IsRefusal read e
