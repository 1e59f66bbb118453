-- The reply of a change.
use Rattle.std.specs.Prelude.{Result}
use Rattle.std.specs.declared.result.Result.TheVariants.{Ok, Err}
use Rattle.block_id.specs.declared.fail.Fail.{Fail}
use Rattle.fs_model.specs.declared.reply.Reply.{Reply}
use Rattle.fs_model.specs.declared.reply.Reply.TheVariants.{Done, Rows, Info, Target, Content, Error}

-- done, or an error of the language
abbrev pub IsChangeReply : Reply → Type 0
IsChangeReply Done = Unit {0}
IsChangeReply (Error e) = Unit {0}
IsChangeReply (Rows rows) = ⊥
IsChangeReply (Info attr size) = ⊥
IsChangeReply (Target target) = ⊥
IsChangeReply (Content bytes) = ⊥

-- the reply of a change that was made
abbrev pub replied : {T : Type 0} → Result T Fail → Result Reply Fail
replied (Ok x) = Ok Done
replied (Err e) = Err e
