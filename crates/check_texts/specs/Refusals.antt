-- What is printed of blocks that aren't given.
use Rattle.std.specs.Prelude.{ℕ, codes, List, [], ◌++◌, map, Result}
use Rattle.std.specs.Fmt.{decimal}
use Rattle.std.specs.List.{flat_map}
use Rattle.std.specs.declared.option.Option.{Option}
use Rattle.std.specs.declared.option.Option.TheVariants.{None, Some}
use Rattle.std.specs.declared.result.Result.TheVariants.{Ok, Err}
use Rattle.block_id.specs.Name.{name_of}
use Rattle.block_id.specs.declared.fail.Fail.{Fail}
use Rattle.block_id.specs.declared.fail.Fail.TheVariants.{Memory, Fault, Violation}
use Rattle.block_id.specs.declared.fail.Memory as memory
use Rattle.block_id.specs.declared.fail.Why.{Why}
use Rattle.check_refused.specs.Surveys.{Loss, failures, refusals, ungiven_of}
use Rattle.check_refused.specs.declared.survey.Ungiven.{Ungiven}
use Rattle.copy_sessions.specs.Texts.{path_text}
use Rattle.cryfs_check.specs.declared.checking.Checked.{Checked}
use Rattle.cryfs_check.specs.declared.checking.Checked.TheVariants.{Yes, No}
use Rattle.copy_sessions.specs.script_text.Texts.{line, word}
use Rattle.check_refused.specs.store_api.Content.{Id}
use Rattle.check_texts.specs.Texts.{flaw_text, violation_text}

-- the names of a path from the root on, or a question mark where none is known
abbrev pub where_text : Option (List (List ℕ)) → List ℕ
where_text None = codes "?"
where_text (Some names) = path_text names

-- a block with its path
abbrev pub place_text : Id → Option (List (List ℕ)) → List ℕ
place_text id path = codes "block" ++ word (name_of id) ++ word (where_text path)

-- the verdict that refuses it, as sessions answer it; or that the call failed
abbrev pub loss_text : Option Why → List ℕ
loss_text None = line (codes "fault")
loss_text (Some why) = violation_text why

abbrev pub ungiven_line : Ungiven → List ℕ
ungiven_line u = place_text u.id.0 u.path ++ word (loss_text u.why)

abbrev pub total_text : List ℕ → ℕ → List ℕ
total_text name count = line (name ++ word (decimal count))

-- how many are refused, and of how many the call failed; nothing where not all were asked for
abbrev pub totals_text : List Loss → Result Unit memory.Memory → List ℕ
totals_text ungiven (Ok _) = total_text (codes "refused") (refusals ungiven) ++ total_text (codes "failed") (failures ungiven)
totals_text ungiven (Err _) = []

-- the line of what a check found first: a flaw, a violation or a fault
abbrev pub first_text : Result Checked Fail → List ℕ
first_text (Ok (Yes owners)) = []
first_text (Ok (No flaw)) = flaw_text flaw
first_text (Err Memory) = []
first_text (Err Fault) = line (codes "fault directory")
first_text (Err (Violation why)) = violation_text why

-- behind it each block that isn't given, and how many they are
abbrev pub rest_text : List Ungiven → Result Unit memory.Memory → List ℕ
rest_text ungiven end = flat_map ungiven_line ungiven ++ totals_text (map ungiven_of ungiven) end
