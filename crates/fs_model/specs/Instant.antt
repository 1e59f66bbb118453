-- A moment as clauses see it.
use Rattle.std.specs.Prelude.{ℕ}

pub record Instant : Type 0 where
  pub secs : ℕ
  pub nanos : ℕ
