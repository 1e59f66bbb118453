-- The short texts.
use Rattle.std.proofs.Common.{◌≡◌, ◌≤◌, length, refl, lit≤}
use Rattle.fs_model.specs.declared.error.FsError.{FsError}
use Rattle.fs_model.specs.declared.error.FsError.TheVariants.{NoEntry, Exists, NotDirectory, IsDirectory, NotEmpty, Invalid, Busy, NameTooLong, TooLarge, NotLink, BadLine}
use Rattle.fs_model.specs.declared.reply.Reply.TheVariants.{Done, Error}
use Rattle.script_text.specs.Texts.{text_of}

pub length-text_of-Done : length (text_of Done) ≡ 3
unfolding text_of
length-text_of-Done = refl

-- no line of an error has more than 20 bytes
pub length-text_of-Error-le : (e : FsError) → length (text_of (Error e)) ≤ 20
unfolding text_of
length-text_of-Error-le NoEntry = lit≤ tt
length-text_of-Error-le Exists = lit≤ tt
length-text_of-Error-le NotDirectory = lit≤ tt
length-text_of-Error-le IsDirectory = lit≤ tt
length-text_of-Error-le NotEmpty = lit≤ tt
length-text_of-Error-le Invalid = lit≤ tt
length-text_of-Error-le Busy = lit≤ tt
length-text_of-Error-le NameTooLong = lit≤ tt
length-text_of-Error-le TooLarge = lit≤ tt
length-text_of-Error-le NotLink = lit≤ tt
length-text_of-Error-le BadLine = lit≤ tt
