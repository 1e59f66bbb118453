-- What the calls of a reader leave: of its source, of the bytes that were read ahead, and of what it notes.
use Rattle.std.specs.Prelude.{◌≡◌, ◌⊎◌, ◌≤◌, ◌<◌, ℕ, ◌+◌, ◌^◌, Bool, true, false, List, [], length, take, Result, OnOk, OnErr, IfOk, IsOk}
use Rattle.std.specs.declared.option.Option.{Option}
use Rattle.block_id.specs.declared.fail.Failed.{Failed}
use Rattle.outside.specs.Causes.{RoseBy}
use Rattle.outside.specs.Streams.{WereTaken, Ends}
use Rattle.line_io.specs.Asking.{ReadsLine, LooksAhead}
use Rattle.line_io.specs.Lines.{IsUnbroken}
use Rattle.line_io.specs.Reading.{Reading, coming, total, TookAhead, ShowsFirst, ShowsUnended}

-- ---- any of them

-- the count of faults never falls; an error comes only where it rose or 2^63 bytes were taken, and every other answer leaves it
pub record FaultsTell {T : Type 0} (before now taken : ℕ) (result : Result T Failed) : Type 0 where
  pub grows : before ≤ now
  pub cause : OnErr result (RoseBy 1 before now ⊎ (taken ≡ 2 ^ 63))
  pub quiet : OnOk result (now ≡ before)

-- what the reader notes is so: that the input has ended, and how many bytes were taken of it
pub record NotesTruly {T : Type 0} (old new : Reading) (before after : Option (List ℕ)) (result : Result T Failed) : Type 0 where
  pub ended : OnOk result (new.ended ≡ true → Ends (coming new.ahead after))
  pub counted : total new.taken after ≡ total old.taken before

-- ---- one read of a block

-- the count of faults never falls, an error comes only where it rose, and every other answer leaves it
pub record ReadTells {T : Type 0} (before now : ℕ) (result : Result T Failed) : Type 0 where
  pub grows : before ≤ now
  pub cause : OnErr result (RoseBy 1 before now)
  pub quiet : OnOk result (now ≡ before)

-- the bytes that it took are ahead, behind those that were, and after an error none is
pub record BlockIsAhead {S : Type 0} (rest : S → Option (List ℕ)) (T : S → S → List ℕ → Type 0) (ahead now : List ℕ) (old new : S) (result : Result Bool Failed) : Type 0 where
  pub came : OnOk result (coming now (rest new) ≡ rest old)
  pub gave : TookAhead ahead (rest old) (rest new) now
  pub took : OnOk result (T old new now)
  pub err : OnErr result (now ≡ [])

-- the bytes that are ahead were counted, up to 2^63 in all
pub record BlockIsCounted (old new : Reading) (before after : Option (List ℕ)) : Type 0 where
  pub counted : total new.taken after ≡ total old.taken before
  pub taken : new.taken ≡ old.taken + length new.ahead
  pub most : new.taken ≤ 2 ^ 63

-- ---- a look ahead

-- what comes is the same, what was taken is ahead, and unless it found bytes none is ahead
pub record KeepsComing (ahead now : List ℕ) (before after : Option (List ℕ)) (result : Result Bool Failed) : Type 0 where
  pub came : OnOk result (coming now after ≡ coming ahead before)
  pub gave : TookAhead ahead before after now
  pub empty : IfOk result (λ some. some ≡ false → now ≡ [])
  pub err : OnErr result (now ≡ [])

-- the source is read once at most, not where bytes are ahead, and never after its end
pub record ReadsOnce {S : Type 0} (T : S → S → List ℕ → Type 0) (reading now : Reading) (old new : S) (result : Result Bool Failed) : Type 0 where
  pub looks : OnOk result (LooksAhead T reading.ahead now.ahead old new)
  pub there : 0 < length reading.ahead → IsOk result
  pub after_end : reading.ended ≡ true → (new ≡ old) × (now.ended ≡ true)

-- ---- the next line

-- nothing came before the call, nor comes after it, nor is left in the source
pub record IsOver (before after rest : Option (List ℕ)) : Type 0 where
  pub none : Ends before
  pub over : Ends after
  pub read : Ends rest

-- this line is what is kept of the first one, and after an error of all that was taken, in which no line ends
pub record ShowsLine {T : Type 0} (ahead : List ℕ) (before after line : Option (List ℕ)) (result : Result T Failed) : Type 0 where
  pub shown : ShowsFirst ahead before after line
  pub unended : OnErr result (ShowsUnended ahead before after line)

-- the source is read as often as the line needs, not where one is ahead, and never after its end
pub record ReadsAsNeeded {S : Type 0} (T : S → S → List ℕ → Type 0) (reading : Reading) (old new : S) (result : Result Bool Failed) : Type 0 where
  pub reads : OnOk result (ReadsLine T reading.ahead old new)
  pub line_ahead : (IsUnbroken reading.ahead → ⊥) → new ≡ old
  pub after_end : reading.ended ≡ true → new ≡ old

-- ---- bytes behind the lines

-- so many of the bytes that came are the front of the piece, and all that came where it has room for more
pub record FillsPiece (before after : Option (List ℕ)) (piece : List ℕ) (n : ℕ) : Type 0 where
  pub bound : n ≤ length piece
  pub read : WereTaken before after (take n piece)
  pub short : n < length piece → Ends after
