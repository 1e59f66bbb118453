-- What is printed of a check.
use Rattle.std.specs.Prelude.{ℕ, codes, List, [], ◌++◌, length, reverse}
use Rattle.std.specs.Fmt.{decimal}
use Rattle.std.specs.List.{flat_map}
use Rattle.std.specs.declared.option.Option.{Option}
use Rattle.std.specs.declared.option.Option.TheVariants.{None, Some}
use Rattle.copy_sessions.specs.answers.Texts.{text_of_answer}
use Rattle.copy_sessions.specs.answers.declared.answer.Answer.TheVariants.{Violation}
use Rattle.block_id.specs.Name.{name_of}
use Rattle.block_id.specs.declared.id.BlockId.{BlockId}
use Rattle.block_id.specs.declared.fail.Why.{Why}
use Rattle.check_refused.specs.check_walk.declared.flaw.Flaw.{Flaw}
use Rattle.check_refused.specs.check_walk.declared.flaw.Flaw.TheVariants.{BadNode, BadBlob, Parent, Twice, NotLive, Unowned}
use Rattle.cryfs_check.specs.check_rules.Certificates.{Owners}
use Rattle.copy_sessions.specs.Texts.{path_text}
use Rattle.fs_model.specs.Tree.{Path}
use Rattle.copy_sessions.specs.script_text.Texts.{line, word}
use Rattle.check_refused.specs.store_api.Content.{Id}

-- ---- of blocks that have their owners

abbrev pub count_text : ℕ → List ℕ
count_text count = line (codes "check yes" ++ word (decimal count))

-- a block and the names of its path, from the root on
abbrev pub block_text : Id → List (List ℕ) → List ℕ
block_text id names = line (codes "block" ++ word (name_of id) ++ word (path_text names))

-- a path has its last name first
abbrev pub owner_text : Id × Path → List ℕ
owner_text o = block_text o.0 (reverse o.1)

abbrev pub owner_text_at : Option (Id × Path) → List ℕ
owner_text_at None = []
owner_text_at (Some o) = owner_text o

-- how many blocks there are, and each with its owner
abbrev pub owners_text : Owners → List ℕ
owners_text owners = count_text (length owners) ++ flat_map owner_text owners

-- ---- of what is wrong

abbrev pub no_text : List ℕ → BlockId → List ℕ
no_text kind id = line (codes "check no" ++ word kind ++ word (name_of id.0))

-- the kind of flaw, and the block that has it
abbrev pub flaw_text : Flaw → List ℕ
flaw_text (BadNode id) = no_text (codes "bad-node") id
flaw_text (BadBlob id) = no_text (codes "bad-blob") id
flaw_text (Parent id) = no_text (codes "parent") id
flaw_text (Twice id) = no_text (codes "twice") id
flaw_text (NotLive id) = no_text (codes "not-live") id
flaw_text (Unowned id) = no_text (codes "unowned") id

-- as sessions answer it
abbrev pub violation_text : Why → List ℕ
violation_text why = text_of_answer (Violation why)
