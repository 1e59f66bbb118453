-- The verdict on what came for a block.
use Rattle.std.specs.Prelude.{ℕ, List, if◌then◌else◌, ◌==◌, nat_lt, take, Vec, Result}
use Rattle.std.specs.Str.{bytes_eq}
use Rattle.std.specs.declared.option.Option.{Option}
use Rattle.std.specs.declared.option.Option.TheVariants.{None, Some}
use Rattle.std.specs.declared.alloc.Global.{Global}
use Rattle.std.specs.declared.result.Result.TheVariants.{Ok, Err}
use Rattle.block_id.specs.declared.fail.Why.{Why}
use Rattle.block_id.specs.declared.fail.Why.TheVariants.{Missing, BadLength, BadPrefix, OldFormat, NotOpened, BadRecord, WrongId, ForeignClient, OldVersion, AheadVersion}
use Rattle.sealed_store.specs.BlockFiles.{SeenFile, absent, bad_length, bad_prefix, old_format, not_opened, plain, seen_file_in}
use Rattle.block_versions.specs.BlockRecords.{Record, record_of}

-- a payload, or what is wrong
pub data Verdict : Type 0 where
  good : List ℕ → Verdict
  bad : Why → Verdict

-- the first that holds: no record, that of another block, that of another client, a lower version, a higher one; else the payload
abbrev pub judged_record : List ℕ → ℕ → ℕ → Option Record → Verdict
judged_record id client known None = bad BadRecord
judged_record id client known (Some r) =
    if bytes_eq r.id id
    then (if r.client == client
    then (if r.version == known then good r.payload else (if nat_lt r.version known then bad (OldVersion known r.version) else bad (AheadVersion known r.version)))
    else bad (ForeignClient r.client))
    else bad (WrongId (record { 0 = r.id }))

-- what comes before that, where a plaintext is read so: no file, another length, another prefix, an older format, a seal that doesn't open
abbrev pub judged_by : (List ℕ → Option Record) → List ℕ → ℕ → ℕ → SeenFile → Verdict
judged_by reads id client known absent = bad Missing
judged_by reads id client known bad_length = bad BadLength
judged_by reads id client known bad_prefix = bad BadPrefix
judged_by reads id client known old_format = bad OldFormat
judged_by reads id client known not_opened = bad NotOpened
judged_by reads id client known (plain bytes) = judged_record id client known (reads bytes)

-- where a block's file has this size
abbrev pub judged : ℕ → List ℕ → ℕ → ℕ → SeenFile → Verdict
judged size id client known seen = judged_by (record_of size) id client known seen

-- of a payload its first bytes, at most so many
abbrev pub front_verdict : ℕ → Verdict → Verdict
front_verdict most (good payload) = good (take most payload)
front_verdict most (bad why) = bad why

-- the verdict on an answer for this id, by the state's client, the id's known version and the least format that is taken
abbrev pub verdict : (List ℕ → List ℕ → Option (List ℕ)) → ℕ → List ℕ → ℕ → ℕ → ℕ → Option (List ℕ) → Verdict
verdict opens size id client known least answer = judged size id client known (seen_file_in opens size least id answer)

-- an answer as a verdict
abbrev pub verdict_of : Result (Vec ℕ Global) Why → Verdict
verdict_of (Ok payload) = good payload.items
verdict_of (Err why) = bad why
