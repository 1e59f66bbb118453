-- How often a source is read for one line.
use Rattle.std.specs.Prelude.{◌≡◌, ◌⊎◌, ℕ, ◌<◌, List, [], ◌∷◌, length}
use Rattle.line_io.specs.Lines.{IsUnbroken}

-- one read after another took these pieces, the newest first; T says what one read took
abbrev pub Reads : {S : Type 0} → (S → S → List ℕ → Type 0) → S → S → List (List ℕ) → Type 0
Reads T old new [] = new ≡ old
Reads T old new (piece ∷ before) = (mid : _) × Reads T old mid before × T mid new piece

-- no line ends in any of these pieces, and none is the end of the input
abbrev pub AskForMore : List (List ℕ) → Type 0
AskForMore [] = Unit {0}
AskForMore (piece ∷ pieces) = IsUnbroken piece × (0 < length piece) × AskForMore pieces

-- with these bytes read ahead, each of the reads was needed for the first line
abbrev pub AreNeeded : List ℕ → List (List ℕ) → Type 0
AreNeeded ahead [] = Unit {0}
AreNeeded ahead (piece ∷ before) = IsUnbroken ahead × AskForMore before

-- the source was read as often as the first line needs: not at all where it is ahead, and no further than its end or the input's
abbrev pub ReadsLine : {S : Type 0} → (S → S → List ℕ → Type 0) → List ℕ → S → S → Type 0
ReadsLine T ahead old new = (pieces : List (List ℕ)) × Reads T old new pieces × AreNeeded ahead pieces

-- the bytes ahead stay and the source isn't read, or there are none ahead and one read took those that are ahead then
abbrev pub LooksAhead : {S : Type 0} → (S → S → List ℕ → Type 0) → List ℕ → List ℕ → S → S → Type 0
LooksAhead T ahead now old new = ((new ≡ old) × (now ≡ ahead)) ⊎ ((ahead ≡ []) × T old new now)
