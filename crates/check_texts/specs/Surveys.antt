-- What is told of what a survey found.
use Rattle.std.specs.Prelude.{◌≡◌, ℕ, cond, nat_eq, List, ◌++◌, map, Result}
use Rattle.std.specs.declared.option.Option.{Option}
use Rattle.std.specs.declared.result.Result.TheVariants.{Ok, Err}
use Rattle.block_id.specs.declared.fail.Fail.{Fail}
use Rattle.block_id.specs.declared.fail.Fail.TheVariants as fail
use Rattle.block_id.specs.declared.fail.Memory as memory
use Rattle.check_refused.specs.Surveys.{refusals, ungiven_of}
use Rattle.check_refused.specs.declared.survey.Ungiven.{Ungiven}
use Rattle.cryfs_check.specs.declared.checking.Checked.{Checked}
use Rattle.cryfs_check.specs.declared.checking.Checked.TheVariants.{No}
use Rattle.copy_sessions.specs.line_io.Streams.{Stream, HasFailed, Cut}
use Rattle.outside.specs.Streams.{appends}
use Rattle.run_status.specs.declared.status.Status.{Status}
use Rattle.run_status.specs.declared.status.Status.TheVariants.{Violation, DirectoryFault, OutputFault, Memory}
use Rattle.copy_sessions.specs.session_lines.Driven.{IsUnfailed}
use Rattle.check_texts.specs.Refusals.{first_text, rest_text}
use Rattle.check_texts.specs.Telling.{IsTold}

-- after a flaw and a violation, and where a verdict refused a block, it is a violation whatever failed besides
abbrev pub status_found : Result Checked Fail → ℕ → Status
status_found (Err fail.Fault) refused = cond (nat_eq refused 0) DirectoryFault Violation
status_found verdict refused = Violation

-- the first line was written, and no more than a part of the rest behind it
abbrev pub IsCutBehind : List ℕ → List ℕ → Stream → Type 0
IsCutBehind first rest output = (part : List ℕ) × (more : List ℕ) × (rest ≡ part ++ more) × (output.new ≡ appends output.old (first ++ part))

-- where memory was wanting the first line was written at least, and where the output failed a part of it
abbrev pub IsTextCut : List ℕ → List ℕ → Stream → Status → Type 0
IsTextCut first rest output OutputFault = Cut output.old output.new (first ++ rest) × HasFailed output
IsTextCut first rest output Memory = IsCutBehind first rest output × IsUnfailed output
IsTextCut first rest output status = ⊥

-- all of it was written, and the status is that of what was found; or it was cut
abbrev pub IsTextTold : Status → List ℕ → List ℕ → Stream → Status → Type 0
IsTextTold found first rest output Violation = (found ≡ Violation) × (output.new ≡ appends output.old (first ++ rest)) × IsUnfailed output
IsTextTold found first rest output DirectoryFault = (found ≡ DirectoryFault) × (output.new ≡ appends output.old (first ++ rest)) × IsUnfailed output
IsTextTold found first rest output status = IsTextCut first rest output status

-- where memory was wanting before all blocks were asked for, the text ends behind those that were
abbrev pub AreUngivenTold : Result Checked Fail → List Ungiven → Result Unit memory.Memory → Stream → Status → Type 0
AreUngivenTold verdict ungiven (Ok u) output status = IsTextTold (status_found verdict (refusals (map ungiven_of ungiven))) (first_text verdict) (rest_text ungiven (Ok u)) output status
AreUngivenTold verdict ungiven (Err e) output status = IsTextCut (first_text verdict) (rest_text ungiven (Err e)) output status

-- after a flaw, a violation or a fault what was found and which blocks aren't given; else what a check tells
abbrev pub IsSurveyTold : Option (List (List ℕ)) → Result Checked Fail → List Ungiven → Result Unit memory.Memory → Stream → Status → Type 0
IsSurveyTold told (Ok (No flaw)) ungiven end output status = AreUngivenTold (Ok (No flaw)) ungiven end output status
IsSurveyTold told (Err (fail.Violation why)) ungiven end output status = AreUngivenTold (Err (fail.Violation why)) ungiven end output status
IsSurveyTold told (Err fail.Fault) ungiven end output status = AreUngivenTold (Err fail.Fault) ungiven end output status
IsSurveyTold told verdict ungiven end output status = IsTold told verdict output status
