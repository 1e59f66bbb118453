-- What the words make a run do.
use Rattle.std.specs.Prelude.{◌≡◌, ◌⊎◌, ◌||◌, ◌&&◌, not, ℕ, Bool, true, false, List}
use Rattle.std.specs.declared.option.Option.{Option}
use Rattle.std.specs.declared.option.Option.TheVariants.{None, Some}
use Rattle.run_status.specs.declared.status.Status.{Status}
use Rattle.run_status.specs.declared.status.Status.TheVariants.{Usage, Memory}
use Rattle.program_words.specs.declared.form.Form.{Form}
use Rattle.program_words.specs.declared.form.Form.TheVariants.{Trial, TrialGenerate, Info, Passwd, Migrate, Shell, Generate, Command, Import, Export, ImportTimes, ExportTimes, Put, Get, Check, Survey, Look}
use Rattle.program_words.specs.Forms.{takes_memory}

-- words of no form are refused; where they begin with `create` or ask for a copy, memory may be refused while they are read
abbrev pub IsRefused : List (List ℕ) → Status → Type 0
IsRefused words status = (status ≡ Usage) ⊎ ((takes_memory words ≡ true) × (status ≡ Memory))

-- a session is asked
abbrev pub is_session : Option Form → Bool
is_session (Some Shell) = true
is_session (Some (Generate count)) = true
is_session (Some Command) = true
is_session (Some (Import path)) = true
is_session (Some (Export path)) = true
is_session (Some (ImportTimes path)) = true
is_session (Some (ExportTimes path)) = true
is_session (Some (Put path)) = true
is_session (Some (Get path)) = true
is_session _ = false

-- a check is asked
abbrev pub is_check : Option Form → Bool
is_check (Some Check) = true
is_check _ = false

-- the blocks are to be written anew
abbrev pub is_migration : Option Form → Bool
is_migration (Some Migrate) = true
is_migration _ = false

-- the found blocks are looked at, without the record
abbrev pub is_look : Option Form → Bool
is_look (Some Look) = true
is_look _ = false

-- a file system is opened under a password, or looked at
abbrev pub opens : Option Form → Bool
opens (Some Info) = true
opens (Some Passwd) = true
opens (Some Migrate) = true
opens (Some Shell) = true
opens (Some (Generate count)) = true
opens (Some Command) = true
opens (Some (Import path)) = true
opens (Some (Export path)) = true
opens (Some (ImportTimes path)) = true
opens (Some (ExportTimes path)) = true
opens (Some (Put path)) = true
opens (Some (Get path)) = true
opens (Some Check) = true
opens (Some Survey) = true
opens (Some Look) = true
opens _ = false

-- a marked record holds it back: all that opens a file system but a look, which uses no record
abbrev pub heeds_mark : Option Form → Bool
heeds_mark asked = opens asked && not (is_look asked)

-- blocks' files may be sealed, beside the one that `create` seals
abbrev pub seals : Option Form → Bool
seals asked = is_session asked || is_migration asked

-- random bytes may be taken
abbrev pub draws : Option Form → Bool
draws None = false
draws (Some Trial) = false
draws (Some (TrialGenerate count)) = false
draws (Some Info) = false
draws (Some Check) = false
draws (Some Survey) = false
draws (Some Look) = false
draws _ = true

-- the host folder may be called
abbrev pub copies : Option Form → Bool
copies (Some (Import path)) = true
copies (Some (Export path)) = true
copies (Some (ImportTimes path)) = true
copies (Some (ExportTimes path)) = true
copies _ = false
