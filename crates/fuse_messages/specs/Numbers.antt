-- Errors as <asm-generic/errno.h> numbers them.
use Rattle.std.specs.Prelude.{ℕ}
use Rattle.fuse_messages.specs.declared.error_number.ErrorNumber.{ErrorNumber}
use Rattle.fuse_messages.specs.declared.error_number.ErrorNumber.TheVariants.{NotPermitted, NoEntry, Io, BadHandle, NoMemory, Busy, Exists, NotDirectory, IsDirectory, Invalid, TooLarge, NameTooLong, NotImplemented, NotEmpty, BadMessage, Stale}

abbrev pub number_of : ErrorNumber → ℕ
number_of NotPermitted = 1
number_of NoEntry = 2
number_of Io = 5
number_of BadHandle = 9
number_of NoMemory = 12
number_of Busy = 16
number_of Exists = 17
number_of NotDirectory = 20
number_of IsDirectory = 21
number_of Invalid = 22
number_of TooLarge = 27
number_of NameTooLong = 36
number_of NotImplemented = 38
number_of NotEmpty = 39
number_of BadMessage = 74
number_of Stale = 116
