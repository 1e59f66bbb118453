-- Reads of a source on the way to the end of a line.
use Rattle.std.proofs.Common.{◌≡◌, inl, inr, ◌<◌, ℕ, List, Bool, [], ◌∷◌, true, false, length, sym, ◌∙◌, subst, arith}
use Rattle.line_io.specs.Lines.{IsUnbroken}
use Rattle.line_io.specs.Asking.{Reads, AskForMore, AreNeeded, ReadsLine, LooksAhead}

-- Before the first piece nothing was done; after one the bytes that were ahead at first end no line, and each read since asked for more.
abbrev pub Asked : {S : Type 0} → (S → S → List ℕ → Type 0) → Bool → List ℕ → List ℕ → S → S → Type 0
Asked T true first ahead old now = (ahead ≡ first) × (now ≡ old)
Asked T false first ahead old now = IsUnbroken first × (ahead ≡ []) × (pieces : List (List ℕ)) × Reads T old now pieces × AskForMore pieces

module _ {S : Type 0} (T : S → S → List ℕ → Type 0) where
  needed : (first : List ℕ) (pieces : List (List ℕ)) → IsUnbroken first → AskForMore pieces → AreNeeded first pieces
  needed first [] u a = tt
  needed first (piece ∷ before) u a = (u, a.2)

  moved : (old now next : S) (pieces : List (List ℕ)) → next ≡ now → Reads T old now pieces → Reads T old next pieces
  moved old now next pieces e r = subst (λ s. Reads T old s pieces) (sym e) r

  one_read : (old now next : S) (piece : List ℕ) → now ≡ old → T now next piece → Reads T old next (piece ∷ [])
  one_read old now next piece e t = (now, e, t)

  -- a piece in which no line ends
  pub asked_more : (b : Bool) (first ahead found left : List ℕ) (old now next : S) → Asked T b first ahead old now → LooksAhead T ahead found now next
      → IsUnbroken found → 0 < length found → left ≡ [] → Asked T false first left old next
  asked_more true first ahead found left old now next a (inl l) u n e =
      (subst IsUnbroken (l.1 ∙ a.0) u, e, [], l.0 ∙ a.1, tt)
  asked_more true first ahead found left old now next a (inr l) u n e =
      (subst IsUnbroken (sym l.0 ∙ a.0) tt, e, found ∷ [], one_read old now next found a.1 l.1, (u, n, tt))
  asked_more false first ahead found left old now next a (inl l) u n e =
      (a.0, e, a.2, moved old now next a.2 l.0 a.3, a.4)
  asked_more false first ahead found left old now next a (inr l) u n e =
      (a.0, e, found ∷ a.2, (now, a.3, l.1), (u, n, a.4))

  -- the last look ahead
  pub asked_line : (b : Bool) (first ahead found : List ℕ) (old now next : S) → Asked T b first ahead old now → LooksAhead T ahead found now next → ReadsLine T first old next
  asked_line true first ahead found old now next a (inl l) = ([], l.0 ∙ a.1, tt)
  asked_line true first ahead found old now next a (inr l) =
      (found ∷ [], one_read old now next found a.1 l.1, (subst IsUnbroken (sym l.0 ∙ a.0) tt, tt))
  asked_line false first ahead found old now next a (inl l) =
      (a.2, moved old now next a.2 l.0 a.3, needed first a.2 a.0 a.4)
  asked_line false first ahead found old now next a (inr l) = (found ∷ a.2, (now, a.3, l.1), (a.0, a.4))

  -- where a line ends ahead, the source isn't read
  pub asked_none : (b : Bool) (first ahead found : List ℕ) (old now next : S) → Asked T b first ahead old now → LooksAhead T ahead found now next → (IsUnbroken first → ⊥) → next ≡ old
  asked_none true first ahead found old now next a (inl l) h = l.0 ∙ a.1
  asked_none true first ahead found old now next a (inr l) h = absurd (h (subst IsUnbroken (sym l.0 ∙ a.0) tt))
  asked_none false first ahead found old now next a l h = absurd (h a.0)

  pub asked_failed : (b : Bool) (first ahead : List ℕ) (old now : S) → Asked T b first ahead old now → (0 < length ahead → ⊥) → (IsUnbroken first → ⊥) → ⊥
  asked_failed true first [] old now a n h = h (subst IsUnbroken a.0 tt)
  asked_failed true first (byte ∷ ahead) old now a n h = n (omega arith)
  asked_failed false first ahead old now a n h = h a.0
