-- Streams that follow one another.
use Rattle.std.proofs.Common.{◌≡◌, ℕ, List, [], ◌∷◌, refl, sym, ◌∙◌, ap}
use Rattle.std.specs.Prelude.{◌++◌}
use Rattle.rand_core.specs.Stream.{Stream, fill_bytes}
use Rattle.store_api.specs.Draws.{after_fills, IsLater}

after_fills-append : (first later : List ℕ) (stream : Stream) → after_fills (first ++ later) stream ≡ after_fills later (after_fills first stream)
after_fills-append [] later stream = refl
after_fills-append (size ∷ sizes) later stream = after_fills-append sizes later (fill_bytes size stream).1

pub later_same : (stream : Stream) → IsLater stream stream
later_same stream = ([], refl)

pub later_is : (stream left : Stream) → left ≡ stream → IsLater stream left
later_is stream left is = ([], is)

pub later_chained : (a b c : Stream) → IsLater a b → IsLater b c → IsLater a c
later_chained a b c first later = (first.0 ++ later.0, later.1 ∙ (ap (after_fills later.0) first.1 ∙ sym (after_fills-append first.0 later.0 a)))

-- after one fill
pub later_fill : (size : ℕ) (stream : Stream) → IsLater stream (fill_bytes size stream).1
later_fill size stream = (size ∷ [], refl)

-- by what a fill's contract says
pub later_filled : (size : ℕ) (bytes : List ℕ) (stream left : Stream) → (bytes, left) ≡ fill_bytes size stream → IsLater stream left
later_filled size bytes stream left is = (size ∷ [], ap (λ (x : List ℕ × Stream). x.1) is)
