-- The words behind those of a copy or a check that say how it goes: `import FOLDER PATH --quiet --leave-out`. FOLDER was taken before.
use Rattle.std.specs.Prelude.{ℕ, Bool, true, false, ◌||◌, ◌&&◌, cond, codes, List, [], ◌∷◌, take, drop, length, nat_lt, ◌==◌}
use Rattle.std.specs.Str.{bytes_eq}
use Rattle.std.specs.declared.option.Option.{Option}
use Rattle.std.specs.declared.option.Option.TheVariants.{None, Some}
use Rattle.program_inputs.specs.HostWord.{is_copy, is_times}
use Rattle.program_inputs.specs.declared.options.Options.{Options}

abbrev pub none_said : Options
none_said = record { is_quiet = false; leaves_out = false }

-- `--all` stands first
abbrev pub asks_all : List (List ℕ) → Bool
asks_all [] = false
asks_all (word ∷ words) = bytes_eq word (codes "--all")

-- `--times` stands first
abbrev pub keeps_times : List (List ℕ) → Bool
keeps_times [] = false
keeps_times (word ∷ words) = is_times word

-- a command and PATH, perhaps with `--times` between them, `check --all` or `check` alone; no other command has such words
abbrev pub own_words : List ℕ → List (List ℕ) → ℕ
own_words first more = cond (is_copy first) (cond (keeps_times more) 3 2) (cond (bytes_eq first (codes "check")) (cond (asks_all more) 2 1) 0)

-- `--quiet`, and `--leave-out` of an import
abbrev pub option_of : List ℕ → List ℕ → Option Options
option_of first word =
    cond (bytes_eq word (codes "--quiet")) (Some (record { is_quiet = true; leaves_out = false }))
    (cond (bytes_eq word (codes "--leave-out") && bytes_eq first (codes "import")) (Some (record { is_quiet = false; leaves_out = true })) None)

-- each once
abbrev pub two_of : Bool → Bool → Option Options
two_of true false = Some (record { is_quiet = true; leaves_out = true })
two_of false true = Some (record { is_quiet = true; leaves_out = true })
two_of a b = None

abbrev pub both_of : Option Options → Option Options → Option Options
both_of (Some one) (Some other) = two_of one.is_quiet other.is_quiet
both_of one other = None

abbrev pub options_in : List ℕ → List (List ℕ) → Option Options
options_in first [] = Some none_said
options_in first (word ∷ []) = option_of first word
options_in first (word ∷ other ∷ []) = both_of (option_of first word) (option_of first other)
options_in first words = None

abbrev pub behind : ℕ → Option Options → Option (ℕ × Options)
behind own None = None
behind own (Some options) = Some (own, options)

-- how many words are the command's own, and the options that the others are
abbrev pub options_of : List (List ℕ) → Option (ℕ × Options)
options_of [] = None
options_of (first ∷ more) =
    let own = own_words first more in
    cond (own == 0 || nat_lt (length (first ∷ more)) own) None (behind own (options_in first (drop own (first ∷ more))))

abbrev pub how_in : Option (ℕ × Options) → Options
how_in None = none_said
how_in (Some (own, options)) = options

abbrev pub kept_in : Option (ℕ × Options) → List (List ℕ) → List (List ℕ)
kept_in None words = words
kept_in (Some (own, options)) words = take own words

abbrev pub how_said : List (List ℕ) → Options
how_said words = how_in (options_of words)

-- the words without them; where they aren't options of the command all stay, and are of no known form
abbrev pub words_kept : List (List ℕ) → List (List ℕ)
words_kept words = kept_in (options_of words) words
