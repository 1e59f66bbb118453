-- What is left of a stream of chance after fills.
use Rattle.std.specs.Prelude.{◌≡◌, ℕ, List, [], ◌∷◌}
use Rattle.rand_core.specs.Stream.{Stream, fill_bytes}

-- the stream after fills of so many bytes, one after another
abbrev pub after_fills : List ℕ → Stream → Stream
after_fills [] stream = stream
after_fills (size ∷ sizes) stream = after_fills sizes (fill_bytes size stream).1

-- the second is what some fills left of the first
abbrev pub IsLater : Stream → Stream → Type 0
IsLater stream left = (sizes : List ℕ) × (left ≡ after_fills sizes stream)
