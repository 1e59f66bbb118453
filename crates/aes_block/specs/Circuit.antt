-- Circuits of gates, on wires that carry bits or vectors of bytes.
use Rattle.std.specs.Prelude.{ℕ, ◌+◌, ◌%◌, List, [], ◌∷◌, ◌++◌, bit_and, bit_xor, get_or, map, min, replicate}
use Rattle.std.specs.Simd.Lanes.{zip2}

-- the sum or the product of two wires, or a wire with its bits flipped
pub data Gate : Type 0 where
  Sum : ℕ → ℕ → Gate
  Product : ℕ → ℕ → Gate
  Flip : ℕ → Gate

-- gates, each of which makes one more wire, and the wires that are the result
pub record Circuit : Type 0 where
  pub gates : List Gate
  pub outputs : List ℕ

-- what gates do on wires of a kind, and a wire that isn't there
pub record Wires (A : Type 0) : Type 0 where
  pub sum : A → A → A
  pub product : A → A → A
  pub flip : A → A
  pub none : A

abbrev pub bits : Wires ℕ
bits = record { sum = λ a b. (a + b) % 2; product = λ a b. min a b; flip = λ a. (a + 1) % 2; none = 0 }

abbrev pub vectors : Wires (List ℕ)
vectors = record {
  sum = zip2 bit_xor;
  product = zip2 bit_and;
  flip = λ a. zip2 bit_xor a (replicate 32 255);
  none = replicate 32 0;
}

-- the wire that a gate makes
abbrev pub made : {A : Type 0} → Wires A → Gate → List A → A
made on (Sum a b) ws = on.sum (get_or ws a on.none) (get_or ws b on.none)
made on (Product a b) ws = on.product (get_or ws a on.none) (get_or ws b on.none)
made on (Flip a) ws = on.flip (get_or ws a on.none)

-- the wires after some gates
abbrev pub run : {A : Type 0} → Wires A → List Gate → List A → List A
run on [] ws = ws
run on (g ∷ gs) ws = run on gs (ws ++ made on g ws ∷ [])

-- wires by their numbers
abbrev pub chosen : {A : Type 0} → Wires A → List A → List ℕ → List A
chosen on ws ks = map (λ k. get_or ws k on.none) ks

-- what a circuit makes of some wires
abbrev pub through : {A : Type 0} → Wires A → Circuit → List A → List A
through on c ws = chosen on (run on c.gates ws) c.outputs
