-- Errors of the tree, and answers, as those of the kernel.
use Rattle.std.specs.declared.result.Result.{Result}
use Rattle.std.specs.declared.result.Result.TheVariants.{Ok, Err}
use Rattle.answers.specs.declared.answer.Answer.{Answer}
use Rattle.answers.specs.declared.answer.Answer.TheVariants.{Reply as Replied, Memory, Spent, FaultDirectory, FaultState, Violation, Refused}
use Rattle.fs_model.specs.declared.reply.Reply.{Reply}
use Rattle.fs_model.specs.declared.reply.Reply.TheVariants.{Done, Rows, Info, Target, Content, Error}
use Rattle.fs_model.specs.declared.error.FsError.{FsError}
use Rattle.fs_model.specs.declared.error.FsError.TheVariants as tree
use Rattle.fuse_messages.specs.declared.error_number.ErrorNumber.{ErrorNumber}
use Rattle.fuse_messages.specs.declared.error_number.ErrorNumber.TheVariants.{NoEntry, Io, NoMemory, BadMessage, Busy, Exists, NotDirectory, IsDirectory, Invalid, TooLarge, NameTooLong, NotEmpty}

abbrev pub error_of : FsError → ErrorNumber
error_of tree.NoEntry = NoEntry
error_of tree.Exists = Exists
error_of tree.NotDirectory = NotDirectory
error_of tree.IsDirectory = IsDirectory
error_of tree.NotEmpty = NotEmpty
error_of tree.Invalid = Invalid
error_of tree.Busy = Busy
error_of tree.NameTooLong = NameTooLong
error_of tree.TooLarge = TooLarge
error_of tree.NotLink = Invalid
error_of tree.BadLine = Invalid

-- what an answer tells: the reply of the tree, or the error
abbrev pub told_of : Answer → Result Reply ErrorNumber
told_of (Replied (Error error)) = Err (error_of error)
told_of (Replied Done) = Ok Done
told_of (Replied (Rows rows)) = Ok (Rows rows)
told_of (Replied (Info attr size)) = Ok (Info attr size)
told_of (Replied (Target target)) = Ok (Target target)
told_of (Replied (Content bytes)) = Ok (Content bytes)
told_of Memory = Err NoMemory
told_of Spent = Err Io
told_of FaultDirectory = Err Io
told_of FaultState = Err Io
told_of (Violation why) = Err BadMessage
told_of Refused = Err BadMessage
