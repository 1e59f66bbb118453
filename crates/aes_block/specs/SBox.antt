-- The parts of the S-box's circuit, and the circuit of xtime. Wires of a byte stand from its lowest bit to its
-- highest, and gates in the order of the code.
use Rattle.std.specs.Prelude.{[], ◌∷◌}
use Rattle.std.specs.List.{range_with_len}
use Rattle.aes_block.specs.Circuit.{Circuit, Flip, Product, Sum}

-- from the bits of a byte: the lowest, and 21 sums
abbrev pub input_sums : Circuit
input_sums = record {
  gates =
      Sum 4 2 ∷ Sum 7 1 ∷ Sum 7 4 ∷ Sum 7 2 ∷ Sum 6 5 ∷ Sum 12 0 ∷
      Sum 13 4 ∷ Sum 9 8 ∷ Sum 13 7 ∷ Sum 13 1 ∷ Sum 17 11 ∷ Sum 3 15 ∷
      Sum 19 2 ∷ Sum 19 6 ∷ Sum 20 0 ∷ Sum 20 12 ∷ Sum 21 10 ∷ Sum 0 24 ∷
      Sum 23 24 ∷ Sum 23 11 ∷ Sum 12 24 ∷ Sum 9 28 ∷ Sum 7 28 ∷ [];
  outputs = 0 ∷ 13 ∷ 16 ∷ 18 ∷ 14 ∷ 17 ∷ 22 ∷ 25 ∷ 11 ∷ 10 ∷ 23 ∷ 24 ∷ 15 ∷ 9 ∷ 8 ∷ 20 ∷ 28 ∷ 26 ∷ 30 ∷ 27 ∷ 21 ∷ 29 ∷ [];
}

-- from those: the norm over the field of 16 elements
abbrev pub norm : Circuit
norm = record {
  gates =
      Product 12 15 ∷ Product 3 6 ∷ Sum 23 22 ∷ Product 4 0 ∷ Sum 25 22 ∷ Product 13 16 ∷
      Product 5 1 ∷ Sum 28 27 ∷ Product 2 7 ∷ Sum 30 27 ∷ Product 9 11 ∷ Product 14 17 ∷
      Sum 33 32 ∷ Product 8 10 ∷ Sum 35 32 ∷ Sum 24 34 ∷ Sum 26 36 ∷ Sum 29 34 ∷
      Sum 31 36 ∷ Sum 37 20 ∷ Sum 38 19 ∷ Sum 39 21 ∷ Sum 40 18 ∷ [];
  outputs = 41 ∷ 42 ∷ 43 ∷ 44 ∷ [];
}

-- from the norm: its inverse, and five sums of the inverse's bits
abbrev pub norm_inverse : Circuit
norm_inverse = record {
  gates =
      Sum 0 1 ∷ Product 0 2 ∷ Sum 3 5 ∷ Product 4 6 ∷ Sum 7 1 ∷ Sum 2 3 ∷
      Sum 1 5 ∷ Product 10 9 ∷ Sum 11 3 ∷ Sum 2 12 ∷ Sum 6 12 ∷ Product 3 14 ∷
      Sum 15 13 ∷ Sum 6 15 ∷ Product 8 17 ∷ Sum 4 18 ∷ Sum 19 16 ∷ Sum 8 12 ∷
      Sum 8 19 ∷ Sum 12 16 ∷ Sum 21 20 ∷ [];
  outputs = 8 ∷ 12 ∷ 16 ∷ 19 ∷ 20 ∷ 21 ∷ 22 ∷ 23 ∷ 24 ∷ [];
}

-- from the sums of the input and those of the inverse: 18 products
abbrev pub products : Circuit
products = record {
  gates =
      Product 29 15 ∷ Product 24 6 ∷ Product 23 0 ∷ Product 28 16 ∷ Product 25 1 ∷ Product 22 7 ∷
      Product 27 11 ∷ Product 30 17 ∷ Product 26 10 ∷ Product 29 12 ∷ Product 24 3 ∷ Product 23 4 ∷
      Product 28 13 ∷ Product 25 5 ∷ Product 22 2 ∷ Product 27 9 ∷ Product 30 14 ∷ Product 26 8 ∷ [];
  outputs = range_with_len 31 18;
}

-- from the products: the inverse of the byte, transformed
abbrev pub output_sums : Circuit
output_sums = record {
  gates =
      Sum 15 16 ∷ Sum 10 11 ∷ Sum 5 13 ∷ Sum 9 10 ∷ Sum 2 12 ∷ Sum 2 5 ∷
      Sum 7 8 ∷ Sum 0 3 ∷ Sum 6 7 ∷ Sum 16 17 ∷ Sum 12 20 ∷ Sum 22 25 ∷
      Sum 4 18 ∷ Sum 3 26 ∷ Sum 18 29 ∷ Sum 14 29 ∷ Sum 24 30 ∷ Sum 21 30 ∷
      Sum 4 31 ∷ Sum 33 34 ∷ Sum 1 35 ∷ Sum 31 35 ∷ Flip 34 ∷ Sum 28 40 ∷
      Flip 32 ∷ Sum 20 42 ∷ Sum 36 37 ∷ Sum 25 38 ∷ Sum 23 38 ∷ Sum 19 37 ∷
      Flip 45 ∷ Sum 36 48 ∷ Flip 44 ∷ Sum 27 50 ∷ [];
  outputs = 43 ∷ 41 ∷ 47 ∷ 46 ∷ 45 ∷ 51 ∷ 49 ∷ 39 ∷ [];
}

-- times x
abbrev pub doubling : Circuit
doubling = record {
  gates = Sum 0 7 ∷ Sum 2 7 ∷ Sum 3 7 ∷ [];
  outputs = 7 ∷ 8 ∷ 1 ∷ 9 ∷ 10 ∷ 4 ∷ 5 ∷ 6 ∷ [];
}
