-- What a request is answered with, and what the kernel is told of it.
use Rattle.std.specs.Prelude.{◌⊎◌, ◌-◌, ◌^◌, ℕ, List, [], take}
use Rattle.std.specs.declared.option.Option.{Option}
use Rattle.std.specs.Io.KnownBytes.{Appends, Keeps}
use Rattle.fuse_messages.specs.Layout.{reply_text}
use Rattle.fuse_messages.specs.Numbers.{number_of}
use Rattle.fuse_messages.specs.declared.error_number.ErrorNumber.{ErrorNumber}
use Rattle.fuse_messages.specs.declared.error_number.ErrorNumber.TheVariants.{Io}
use Rattle.fuse_messages.specs.declared.request.Request.{Request}
use Rattle.fuse_messages.specs.declared.request.Request.TheVariants.{Forget, ForgetMany, Interrupt, Init, Destroy}
use Rattle.mount_serving.specs.declared.turns.Turn.{Turn}
use Rattle.mount_serving.specs.declared.turns.Turn.TheVariants.{Done, Refused, Silence, Last, LastRefused}

-- one that waits for a reply, and is neither the first nor the last
abbrev pub IsBetween : Request → Type 0
IsBetween (Forget count) = ⊥
IsBetween (ForgetMany count pairs) = ⊥
IsBetween Interrupt = ⊥
IsBetween (Init major ahead flags) = ⊥
IsBetween Destroy = ⊥
IsBetween _ = Unit {0}

-- known bytes grow by these, or by what these begin with, or not at all
abbrev pub Gives : Option (List ℕ) → Option (List ℕ) → List ℕ → Type 0
Gives old new bytes = (n : ℕ) × Appends old new (take n bytes)

-- this error, as the reply to the request of this number
abbrev pub TellsError : Option (List ℕ) → Option (List ℕ) → ℕ → ErrorNumber → Type 0
TellsError old new unique error = Gives old new (reply_text unique (2 ^ 32 - number_of error) [])

-- this body, as the reply to the request of this number; or Io, where the kernel doesn't take that
abbrev pub TellsBody : Option (List ℕ) → Option (List ℕ) → ℕ → List ℕ → Type 0
TellsBody old new unique body = Gives old new (reply_text unique 0 body) ⊎ TellsError old new unique Io

-- a turn as the reply to the request of this number
abbrev pub TellsTurn : Option (List ℕ) → Option (List ℕ) → ℕ → List ℕ → Turn → Type 0
TellsTurn old new unique body Done = TellsBody old new unique body
TellsTurn old new unique body (Refused error) = TellsError old new unique error
TellsTurn old new unique body Silence = Keeps old new
TellsTurn old new unique body Last = TellsBody old new unique body
TellsTurn old new unique body (LastRefused error) = TellsError old new unique error
