-- What `migrate` prints.
use Rattle.std.specs.Prelude.{ℕ, List, ◌++◌, codes, Result, Ok, Err}
use Rattle.std.specs.Fmt.{decimal}
use Rattle.run_frame.specs.answers.Texts.{text_of_answer}
use Rattle.mount_migrating.specs.Migrating.{answer_of}
use Rattle.mount_migrating.specs.declared.error.MigrateError.{MigrateError}
use Rattle.mount_migrating.specs.script_text.Texts.{line, word}

-- the line of a number of blocks
abbrev pub count_text : ℕ → List ℕ
count_text count = line (codes "migrated" ++ word (decimal count))

-- how many blocks there are, or the error as sessions answer it
abbrev pub migrated_text : Result ℕ MigrateError → List ℕ
migrated_text (Ok count) = count_text count
migrated_text (Err error) = text_of_answer (answer_of error)
