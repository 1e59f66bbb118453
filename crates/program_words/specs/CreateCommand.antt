-- The options of `create` as a command of `clap`: which words it takes, and what they give.
use Rattle.std.specs.Prelude.{◌&&◌, Bool, List, Some, codes, not, true}
use Rattle.std.specs.List.{list_any}
use Rattle.std.specs.Str.{bytes_eq}
use Rattle.clap.specs.Simple.{on_top}
use Rattle.clap.specs.Walk.{is_empty}
use Rattle.clap.specs.Words.{App, Row, Rule, Text, fault_of, matches_of, new_app, new_rule, with_rule}

-- an option with one value, as `--name VALUE` or `--name=VALUE`
abbrev pub option_rule : Text → Rule
option_rule name = record (new_rule name) { long = Some name }

-- no argument; the first word isn't the program's name, and `--help` and `-h` aren't known
abbrev pub bare_app : App
bare_app = on_top (λ s. record s { no_binary_name = true; disable_help_flag = true }) (new_app (codes "create"))

-- the four options, and nothing else
unfoldable pub create_app : App
create_app =
    with_rule (with_rule (with_rule (with_rule bare_app
    (option_rule (codes "blocksize")))
    (option_rule (codes "scrypt-n")))
    (option_rule (codes "scrypt-r")))
    (option_rule (codes "scrypt-p"))

-- a word is `--`, after which `clap` takes no options
abbrev pub has_separator : List Text → Bool
has_separator = list_any (λ word. bytes_eq word (codes "--"))

-- the words are those options, each at most once and with its value
abbrev pub are_options : List Text → Bool
are_options words = not (has_separator words) && is_empty (fault_of create_app words)

-- the values that such words give
abbrev pub values_in : List Text → List Row
values_in = matches_of create_app
