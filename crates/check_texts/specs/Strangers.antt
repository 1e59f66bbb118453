-- Names in a directory that are no file of the file system in it.
use Rattle.std.specs.Prelude.{ℕ, codes, cond, List, [], ◌∷◌, ◌++◌, map, Result}
use Rattle.std.specs.List.{flat_map, list_any}
use Rattle.std.specs.List.Sorted.{IsPermutation, IsSorted}
use Rattle.std.specs.Cmp.Lexicographic.{slice_cmp}
use Rattle.std.specs.Ordering.{nat_cmp}
use Rattle.std.specs.Str.{bytes_eq}
use Rattle.cryfs_check.specs.check_rules.Certificates.{Owners}
use Rattle.fs_model.specs.Tree.{Path}
use Rattle.copy_sessions.specs.line_io.Streams.{Stream}
use Rattle.outside.specs.FileTexts.{text_of_file}
use Rattle.outside.specs.Trace.{config, block}
use Rattle.copy_sessions.specs.script_text.Texts.{escaped, line, word}
use Rattle.check_refused.specs.store_api.Content.{Id}
use Rattle.check_texts.specs.declared.error.PrintError.{PrintError}
use Rattle.check_texts.specs.Printing.{IsPrinted}

-- the same names in the order of their bytes
pub record IsInOrder (names sorted : List (List ℕ)) : Type 0 where
  pub same : IsPermutation names sorted
  pub order : IsSorted (slice_cmp nat_cmp) sorted

abbrev pub block_file : Id × Path → List ℕ
block_file o = text_of_file (block o.0)

-- the names of the file system's own files: the configuration's, and each live block's
abbrev pub file_names : Owners → List (List ℕ)
file_names owners = text_of_file config ∷ map block_file owners

abbrev pub stranger_text : List ℕ → List ℕ
stranger_text name = line (codes "stranger" ++ word (escaped name))

-- the line of a name beside these files; nothing of one of them
abbrev pub line_beside : List (List ℕ) → List ℕ → List ℕ
line_beside files name = cond (list_any (bytes_eq name) files) [] (stranger_text name)

-- the names that are no file of these owners' file system, in the order of their bytes
abbrev pub strangers_text : Owners → List (List ℕ) → List ℕ
strangers_text owners sorted = flat_map (line_beside (file_names owners)) sorted

-- the lines of the strangers among the names were printed, in the order of their bytes
abbrev pub ArePrinted : Stream → Owners → List (List ℕ) → List ℕ → Result Unit PrintError → Type 0
ArePrinted output owners names waiting result = (sorted : List (List ℕ)) × IsInOrder names sorted × IsPrinted output (strangers_text owners sorted) waiting result
