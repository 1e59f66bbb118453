-- What a sealed text is.
use Rattle.std.specs.Prelude.{◌≡◌, ℕ, ◌+◌, ◌-◌, ◌^◌, Bool, true, false, List, length, take, drop, Option, None, Some}

-- the most bytes of a plaintext, of a ciphertext and of an IV: 2 ^ 30
abbrev pub max_len : ℕ
max_len = 2 ^ 30

-- what stands between so many first and so many last bytes
abbrev pub middle : ℕ → ℕ → List ℕ → List ℕ
middle first last text = take (length text - last - first) (drop first text)

-- where a text opened, the first bytes, at most so many, of what stands in its ciphertext's place
abbrev pub shown : ℕ → Bool → List ℕ → Option (List ℕ)
shown most true text = Some (take most text)
shown most false text = None

-- this text is a plaintext under an IV, sealed, where opens says what a text opens to
pub record IsSealed (opens : List ℕ → Option (List ℕ)) (iv plain sealed : List ℕ) : Type 0 where
  pub begins : take (length iv) sealed ≡ iv
  pub size : length sealed ≡ length iv + length plain + 16
  pub opened : opens sealed ≡ Some plain
