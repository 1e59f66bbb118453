-- The lines that have the form of a command.
use Rattle.std.specs.Prelude.{◌≡◌, ◌↔◌, ℕ, Bool, true, false, not, ◌&&◌, nat_le, is_some, List, [], ◌∷◌, length, Option, Some, None, Err}
use Rattle.std.specs.List.{list_any}
use Rattle.fs_model.specs.declared.error.FsError.TheVariants.{BadLine}
use Rattle.script_text.specs.declared.verb.Verb.{Verb}
use Rattle.script_text.specs.declared.verb.Verb.TheVariants as verb
use Rattle.script_text.specs.declared.grammar.TheConstants.{MAX_LINE}
use Rattle.script_text.specs.Words.{words, is_empty}
use Rattle.script_text.specs.Numbers.{number_of, id_of, mode_of, time_of}
use Rattle.script_text.specs.Escapes.{unescaped, bytes_of}
use Rattle.script_text.specs.Grammar.{verb_of, command_of}

-- what a word may be
pub data WordForm : Type 0 where
  path : WordForm
  target : WordForm
  number : WordForm
  id : WordForm
  mode : WordForm
  time : WordForm
  hex : WordForm

abbrev pub has_form : WordForm → List ℕ → Bool
has_form path word = is_some (unescaped word)
has_form target word = is_some (unescaped word)
has_form number word = is_some (number_of word)
has_form id word = is_some (id_of word)
has_form mode word = is_some (mode_of word)
has_form time word = is_some (time_of word)
has_form hex word = is_some (bytes_of word)

-- the words that follow a command's name
abbrev pub forms_of : Verb → List WordForm
forms_of verb.List = path ∷ []
forms_of verb.Stat = path ∷ []
forms_of verb.Mkdir = path ∷ []
forms_of verb.Rmdir = path ∷ []
forms_of verb.Mkfile = path ∷ []
forms_of verb.Rm = path ∷ []
forms_of verb.Mv = path ∷ path ∷ []
forms_of verb.Symlink = target ∷ path ∷ []
forms_of verb.Readlink = path ∷ []
forms_of verb.Write = path ∷ number ∷ hex ∷ []
forms_of verb.Read = path ∷ number ∷ number ∷ []
forms_of verb.Truncate = path ∷ number ∷ []
forms_of verb.Chmod = path ∷ mode ∷ []
forms_of verb.Chown = path ∷ id ∷ id ∷ []
forms_of verb.Utime = path ∷ time ∷ time ∷ []
forms_of verb.Sync = []

-- as many words as forms, each of its form
abbrev pub have_forms : List WordForm → List (List ℕ) → Bool
have_forms [] [] = true
have_forms (form ∷ forms) (word ∷ more) = has_form form word && have_forms forms more
have_forms [] (word ∷ more) = false
have_forms (form ∷ forms) [] = false

abbrev pub fit_verb : Option Verb → List (List ℕ) → Bool
fit_verb (Some v) more = have_forms (forms_of v) more
fit_verb None more = false

-- a name, and words of the forms that follow it
abbrev pub are_command : List (List ℕ) → Bool
are_command [] = false
are_command (name ∷ more) = fit_verb (verb_of name) more

-- at most 1,048,576 bytes, no empty word, and the words of a command
abbrev pub is_formed : List ℕ → Bool
is_formed line = nat_le (length line) MAX_LINE && (not (list_any is_empty (words line)) && are_command (words line))

-- just the lines of no form are bad, whatever their paths and targets are
abbrev pub RefusesUnformed : Type 0
RefusesUnformed = (line : List ℕ) → (command_of line ≡ Err BadLine) ↔ (is_formed line ≡ false)
