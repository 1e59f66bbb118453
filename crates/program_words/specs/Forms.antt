-- The words that the program is called with.
use Rattle.std.specs.Prelude.{ℕ, ◌+◌, ◌≤◌, ◌&&◌, ◌||◌, Bool, true, false, cond, codes, is_some, nat_le, List, [], ◌∷◌, ◌++◌, length, option_and_then, Result, Ok}
use Rattle.std.specs.List.{flat_map}
use Rattle.std.specs.declared.option.Option.{Option}
use Rattle.std.specs.declared.option.Option.TheVariants.{None, Some}
use Rattle.std.specs.Option.{option_map}
use Rattle.std.specs.Str.{bytes_eq}
use Rattle.block_id.specs.declared.sizes.TheConstants.{MIN_BLOCK, MAX_BLOCK}
use Rattle.fs_model.specs.declared.command.Command.{Command as Asked}
use Rattle.fs_model.specs.declared.command.Command.TheVariants.{List as Ls}
use Rattle.fs_model.specs.declared.error.FsError.{FsError}
use Rattle.script_text.specs.Grammar.{verb_of, command_of}
use Rattle.script_text.specs.Numbers.{number_of, below}
use Rattle.program_words.specs.CreateOptions.{options_of}
use Rattle.program_words.specs.declared.copies.CopyKind.{CopyKind}
use Rattle.program_words.specs.declared.copies.CopyKind.TheVariants as kind
use Rattle.program_words.specs.declared.form.Form.{Form}
use Rattle.program_words.specs.declared.form.Form.TheVariants.{Trial, TrialGenerate, Create, Info, Passwd, Migrate, Shell, Generate, Command, Import, Export, ImportTimes, ExportTimes, Put, Get, Check, Survey, Look}
use Rattle.program_words.specs.declared.words.TheConstants.{MAX_GENERATE}

-- 1 to 7 decimal digits, a number of at most 1,000,000
unfoldable pub count_of : List ℕ → Option ℕ
count_of word = cond (nat_le (length word) 7) (option_and_then (below (MAX_GENERATE + 1)) (number_of word)) None

-- a word that stands alone
unfoldable pub single_form : List ℕ → Option Form
single_form word =
    cond (bytes_eq word (codes "trial")) (Some Trial)
    (cond (bytes_eq word (codes "info")) (Some Info)
    (cond (bytes_eq word (codes "passwd")) (Some Passwd)
    (cond (bytes_eq word (codes "migrate")) (Some Migrate)
    (cond (bytes_eq word (codes "shell")) (Some Shell)
    (cond (bytes_eq word (codes "check")) (Some Check) None)))))

-- a word that stands alone, `generate N`, `check --all` or `trial generate N`
unfoldable pub plain_form : List (List ℕ) → Option Form
plain_form (first ∷ []) = single_form first
plain_form (first ∷ second ∷ []) =
    cond (bytes_eq first (codes "generate")) (option_map Generate (count_of second))
    (cond (bytes_eq first (codes "check") && bytes_eq second (codes "--all")) (Some Survey) None)
plain_form (first ∷ second ∷ third ∷ []) =
    cond (bytes_eq first (codes "trial") && bytes_eq second (codes "generate")) (option_map TrialGenerate (count_of third)) None
plain_form _ = None

-- `ls`, `stat`, `readlink` and `read`
abbrev pub is_looking : List ℕ → Bool
is_looking word = bytes_eq word (codes "ls") || bytes_eq word (codes "stat") || bytes_eq word (codes "readlink") || bytes_eq word (codes "read")

-- a look, where the name of a command that only looks follows, with whatever words
abbrev pub look_form : List (List ℕ) → Option Form
look_form (first ∷ command ∷ words) = cond (is_looking command) (Some Look) None
look_form _ = None

-- the words behind the first one
abbrev pub words_behind : List (List ℕ) → List (List ℕ)
words_behind [] = []
words_behind (first ∷ words) = words

-- the first word is the name of a script command, with whatever words, or they are of another form
abbrev pub other_form : List ℕ → List (List ℕ) → Option Form
other_form first words = cond (is_some (verb_of first)) (Some Command) (cond (bytes_eq first (codes "look")) (look_form words) (plain_form words))

-- the path of `ls PATH`
abbrev pub listed : Result Asked FsError → Option (List (List ℕ))
listed (Ok (Ls path)) = Some path
listed _ = None

-- the path that a word says as it would behind `ls` in a script
unfoldable pub path_in : List ℕ → Option (List (List ℕ))
path_in word = listed (command_of (codes "ls " ++ word))

-- the copy that a word asks for
abbrev pub copy_kind : List ℕ → Option CopyKind
copy_kind word =
    cond (bytes_eq word (codes "import")) (Some kind.Import)
    (cond (bytes_eq word (codes "export")) (Some kind.Export)
    (cond (bytes_eq word (codes "put")) (Some kind.Put)
    (cond (bytes_eq word (codes "get")) (Some kind.Get) None)))

-- such a copy, to or from this path
abbrev pub copy_at : CopyKind → List (List ℕ) → Form
copy_at kind.Import path = Import path
copy_at kind.Export path = Export path
copy_at kind.ImportTimes path = ImportTimes path
copy_at kind.ExportTimes path = ExportTimes path
copy_at kind.Put path = Put path
copy_at kind.Get path = Get path

-- the same copy that keeps modes and times, of a whole folder
abbrev pub with_times : CopyKind → Option CopyKind
with_times kind.Import = Some kind.ImportTimes
with_times kind.Export = Some kind.ExportTimes
with_times _ = None

-- a word says that a copy keeps them
abbrev pub is_times : List ℕ → Bool
is_times word = bytes_eq word (codes "--times")

-- such a copy to or from the path that this word says
abbrev pub copied_to : CopyKind → List ℕ → Option Form
copied_to kind word = option_map (copy_at kind) (path_in word)

-- such a copy, where the words say its path: behind the first one, or behind `--times`
abbrev pub copied : CopyKind → List (List ℕ) → Option Form
copied kind (first ∷ word ∷ []) = copied_to kind word
copied kind (first ∷ option ∷ word ∷ []) = cond (is_times option) (option_and_then (λ timed. copied_to timed word) (with_times kind)) None
copied kind _ = None

-- the words are those of a copy, or of another form
abbrev pub copy_or_other : Option CopyKind → List ℕ → List (List ℕ) → Option Form
copy_or_other (Some kind) first words = copied kind words
copy_or_other None first words = other_form first words

-- the line that the words are: one after another, with a space between them
abbrev pub joined : List (List ℕ) → List ℕ
joined [] = []
joined (first ∷ others) = first ++ flat_map (λ word. 32 ∷ word) others

-- the first word is `create`
abbrev pub is_create : List (List ℕ) → Bool
is_create [] = false
is_create (first ∷ words) = bytes_eq first (codes "create")

-- a path follows the first word, or `--times` behind it
abbrev pub has_path : List (List ℕ) → Bool
has_path (first ∷ word ∷ []) = true
has_path (first ∷ option ∷ word ∷ []) = is_times option
has_path _ = false

-- the first word asks for a copy, and a path follows
abbrev pub is_copy : List (List ℕ) → Bool
is_copy [] = false
is_copy (first ∷ words) = is_some (copy_kind first) && has_path (first ∷ words)

-- memory may be refused while the words are read
abbrev pub takes_memory : List (List ℕ) → Bool
takes_memory words = is_create words || is_copy words

-- what the words ask for: `create` and its options, a copy and its path, a line of a script, or another form
unfoldable pub form_of : List (List ℕ) → Option Form
form_of [] = None
form_of (first ∷ words) = cond (is_create (first ∷ words)) (option_map Create (options_of words)) (copy_or_other (copy_kind first) first (first ∷ words))

-- at most 1,000,000 commands and blocks of 128 to 1,048,576 bytes
abbrev pub IsModest : Form → Type 0
IsModest (Generate count) = count ≤ 1000000
IsModest (Create options) = (MIN_BLOCK ≤ options.block_size) × (options.block_size ≤ MAX_BLOCK)
IsModest (TrialGenerate count) = count ≤ 1000000
IsModest _ = Unit {0}
