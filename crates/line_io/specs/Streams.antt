-- A stream before a call and after it.
use Rattle.std.specs.Prelude.{◌≡◌, ℕ, ◌^◌, List, ◌++◌}
use Rattle.std.specs.declared.option.Option.{Option}
use Rattle.outside.specs.Streams.{appends}
use Rattle.outside.specs.Causes.{RoseBy}
use Rattle.line_io.specs.Reading.{total}

-- its bytes, those that are left or those that were written, where they are told, and its count of faults
pub record Stream : Type 0 where
  pub old : Option (List ℕ)
  pub new : Option (List ℕ)
  pub faults : ℕ
  pub risen : ℕ

-- the stream whose bytes and faults these are, from one moment to another
abbrev pub stream_of : {S : Type 0} → (S → Option (List ℕ)) → (S → ℕ) → S → S → Stream
stream_of bytes faults old new = record { old = bytes old; new = bytes new; faults = faults old; risen = faults new }

-- nothing was read or written, and nothing failed
abbrev pub Untouched : Stream → Type 0
Untouched s = (s.new ≡ s.old) × (s.risen ≡ s.faults)

-- the count of faults rose
abbrev pub HasFailed : Stream → Type 0
HasFailed s = RoseBy 1 s.faults s.risen

-- 2^63 bytes were taken, where they are told
abbrev pub TookMost : ℕ → Stream → Type 0
TookMost taken s = total (2 ^ 63) s.new ≡ total taken s.old

-- a part of the text from its front was written
abbrev pub Cut : Option (List ℕ) → Option (List ℕ) → List ℕ → Type 0
Cut old new text = (part : List ℕ) × (rest : List ℕ) × (text ≡ part ++ rest) × (new ≡ appends old part)
