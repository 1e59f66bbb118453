-- What is printed of a copy.
use Rattle.std.specs.Prelude.{ℕ, codes, List, [], ◌∷◌, ◌++◌}
use Rattle.std.specs.Fmt.{decimal}
use Rattle.std.specs.List.{flat_map}
use Rattle.std.specs.declared.option.Option.{Option}
use Rattle.std.specs.declared.option.Option.TheVariants.{None, Some}
use Rattle.std.specs.declared.result.Result.{Result}
use Rattle.std.specs.declared.result.Result.TheVariants.{Ok, Err}
use Rattle.fs_model.specs.declared.error.FsError.{FsError}
use Rattle.fs_model.specs.declared.error.FsError.TheVariants.{NameTooLong}
use Rattle.copy_laws.specs.host_folder.Folders.{HostPath}
use Rattle.session_lines.specs.script_text.Texts.{line, word, escaped, error_name}
use Rattle.session_lines.specs.answers.declared.answer.Answer.{Answer}
use Rattle.session_lines.specs.answers.Texts.{text_of_answer}
use Rattle.copy_laws.specs.declared.copied.Totals.{Totals}
use Rattle.copy_laws.specs.declared.copied.CopyFail.{CopyFail}
use Rattle.copy_laws.specs.declared.copied.CopyFail.TheVariants as fail
use Rattle.copy_sessions.specs.declared.way.Way.{Way}
use Rattle.copy_sessions.specs.declared.way.Way.TheVariants.{In, Out}

-- a slash and the name
abbrev pub name_text : List ℕ → List ℕ
name_text n = 47 ∷ escaped n

-- each name in turn; the root is a slash alone
abbrev pub path_text : HostPath → List ℕ
path_text [] = 47 ∷ []
path_text (n ∷ p) = flat_map name_text (n ∷ p)

abbrev pub verb_of : Way → List ℕ
verb_of In = codes "imported"
verb_of Out = codes "exported"

-- how many directories, files and links, and of how many bytes
abbrev pub counts_text : Totals → List ℕ
counts_text t = word (decimal t.dirs) ++ word (decimal t.files) ++ word (decimal t.links) ++ word (decimal t.bytes)

abbrev pub totals_text : Way → Totals → List ℕ
totals_text way t = line (verb_of way ++ counts_text t)

abbrev pub error_text : FsError → HostPath → List ℕ
error_text e p = line (codes "error" ++ word (error_name e) ++ word (path_text p))

-- the text of the answer that was kept
abbrev pub kept_text : Option Answer → List ℕ
kept_text None = []
kept_text (Some answer) = text_of_answer answer

-- the line of a copy that ended so, with this answer kept; of a failing folder and of want of memory nothing is printed
unfoldable pub copy_text : Way → Result Totals CopyFail → Option Answer → List ℕ
copy_text way (Ok totals) kept = totals_text way totals
copy_text way (Err (fail.Refused p e)) kept = error_text e p
copy_text way (Err (fail.LongPath p)) kept = error_text NameTooLong p
copy_text way (Err fail.Stopped) kept = kept_text kept
copy_text way (Err fail.Host) kept = []
copy_text way (Err fail.Memory) kept = []
