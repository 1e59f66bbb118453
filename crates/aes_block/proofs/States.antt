-- A state by its sixteen bytes.
use Rattle.std.proofs.Common.{◌≡◌, ℕ, ◌+◌, ◌-◌, ◌*◌, ◌<◌, ◌∙◌, List, length, drop, map, slice_index, refl, ap, arith}
use Rattle.std.proofs.lemmas.List.{get_or-take, get_or-drop}
use Rattle.std.proofs.lemmas.List.FromFn.{fill_by_all}
use Rattle.aes_block.specs.Cipher.{round_key, state_of}

pub state_of_bytes : (s : List ℕ) → length s ≡ 16 → s ≡ state_of (λ k. slice_index s k)
state_of_bytes s len = fill_by_all (λ k. slice_index s k) s 16 0 len (λ k lt. refl)

pub map_state : (f : ℕ → ℕ) (s : List ℕ) → length s ≡ 16 → map f s ≡ state_of (λ k. f (slice_index s k))
map_state f s len = ap (map f) (state_of_bytes s len)

-- byte k of round key r
pub round_key_byte : (ks : List ℕ) (r k : ℕ) → k < 16 → slice_index (round_key ks r) k ≡ slice_index ks (16 * r + k)
round_key_byte ks r k lt =
    let e : 16 * r + 16 - 16 * r ≡ 16 = omega arith in
    rw e (get_or-take 16 (drop (16 * r) ks) k 0 lt ∙ get_or-drop (16 * r) ks k 0)

-- a state that was written byte by byte
pub state_filled : (f : ℕ → ℕ) (s : List ℕ) → length s ≡ 16 → ((k : ℕ) → k < 16 → slice_index s k ≡ f k) → s ≡ state_of f
state_filled f s len h = fill_by_all f s 16 0 len h
