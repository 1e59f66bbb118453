-- Counter mode (SP 800-38D, 6.2 and 6.5), for any cipher of blocks of sixteen bytes.
use Rattle.std.specs.Prelude.{◌≡◌, ℕ, zero, suc, ◌+◌, ◌/◌, ◌%◌, ◌^◌, ◌<◌, List, [], ◌++◌, length, take, drop, map, slice_index, slice_index_or, bit_xor}
use Rattle.std.specs.Int.{w32, from_be_bytes, to_be_bytes}
use Rattle.std.specs.List.{range_with_len}

-- inc32: the last four bytes of a block, as a number, go up by one modulo 2 ^ 32 (6.2)
abbrev pub inc32 : List ℕ → List ℕ
inc32 block = take 12 block ++ to_be_bytes w32 ((from_be_bytes w32 (drop 12 block) + 1) % 2 ^ 32)

-- counter block n, from the initial one as number 0 (6.5, step 5)
unfoldable pub counter_block : List ℕ → ℕ → List ℕ
counter_block initial zero = initial
counter_block initial (suc n) = inc32 (counter_block initial n)

-- byte k of the encrypted counter blocks
abbrev pub key_byte : (List ℕ → List ℕ) → List ℕ → ℕ → ℕ
key_byte cipher initial k = slice_index (cipher (counter_block initial (k / 16))) (k % 16)

-- GCTR: each byte has its byte of the encrypted counter blocks added (6.5)
unfoldable pub gctr : (List ℕ → List ℕ) → List ℕ → List ℕ → List ℕ
gctr cipher initial text =
    map (λ k. bit_xor (slice_index text k) (key_byte cipher initial k)) (range_with_len 0 (length text))

-- the first blocks of the key stream: counter blocks from the initial one on, encrypted
unfoldable pub HasStream : (List ℕ → List ℕ) → List ℕ → List (List ℕ) → Type 0
HasStream cipher initial blocks =
    (j : ℕ) → j < length blocks → slice_index_or blocks j [] ≡ cipher (counter_block initial j)
