-- The cost of scrypt: N, r and p (RFC 7914, section 2), and what is taken here.
use Rattle.std.specs.Prelude.{ℕ, ◌≤◌, ◌^◌}
use Rattle.std.specs.Int.{IsPowerOfTwo}

-- the CPU and memory cost N, the block size r and the parallelization p
pub record Cost : Type 0 where
  pub n : ℕ
  pub r : ℕ
  pub p : ℕ

-- N is 2 to 2 ^ 20, r is 1 to 8, and p is 1 to 16
pub record IsInRange (c : Cost) : Type 0 where
  pub n_low : 2 ≤ c.n
  pub n_high : c.n ≤ 2 ^ 20
  pub r_low : 1 ≤ c.r
  pub r_high : c.r ≤ 8
  pub p_low : 1 ≤ c.p
  pub p_high : c.p ≤ 16

-- N is a power of two, and all are in range
pub record IsAllowed (c : Cost) : Type 0 where
  pub power : IsPowerOfTwo c.n
  pub range : IsInRange c
