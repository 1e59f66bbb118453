-- The S-box against its definition, by computing all of its entries.
use Rattle.std.proofs.Common.{◌≡◌, ℕ, zero, suc, ◌<◌, ◌==◌, ◌&&◌, Bool, true, slice_index, refl, arith, inl, inr}
use Rattle.std.proofs.lemmas.Bool.{and_parts, cases_lt, eqb-true}
use Rattle.aes_block.specs.Field.{inverse, times}
use Rattle.aes_block.specs.Cipher.{sub_byte}
use Rattle.aes_block.specs.declared.sbox.TheConstants.{SBOX}

-- the test holds of each number below n
abbrev pub all_below : (ℕ → Bool) → ℕ → Bool
all_below p zero = true
all_below p (suc n) = p n && all_below p n

pub all_below_at : (p : ℕ → Bool) (n k : ℕ) → all_below p n ≡ true → k < n → p k ≡ true
all_below_at p zero k h lt = absurd (omega arith)
all_below_at p (suc n) k h lt =
    let parts = and_parts (p n) (all_below p n) h in
    elim (cases_lt k n) [
      | inl below ↦ all_below_at p n k parts.1 below
      | inr top ↦
          let e : k ≡ n = omega arith in
          rw e parts.0
    ]

abbrev entry_is_right : ℕ → Bool
entry_is_right b = slice_index SBOX b == sub_byte b

table_holds : all_below entry_is_right 256 ≡ true
unfolding times inverse sub_byte
table_holds = refl

pub sub_byte_table : (b : ℕ) → b < 256 → slice_index SBOX b ≡ sub_byte b
sub_byte_table b lt = eqb-true (slice_index SBOX b) (sub_byte b) (all_below_at entry_is_right 256 b table_holds lt)
