-- Places in a list of elements, each of which has a key and a value, in the order of the keys.
use Rattle.std.specs.Prelude.{◌≡◌, ℕ, ◌<◌, ◌≤◌, List, map, length, insert, slice_index_or}
use Rattle.std.specs.FinMap.{find}
use Rattle.std.specs.FinMap.Entries.{put}
use Rattle.std.specs.declared.cmp.Ordering.{Ordering}
use Rattle.std.specs.declared.option.Option.TheVariants.{None, Some}

-- the keys with their values
abbrev pub pairs : {A K X : Type 0} → (A → K × X) → List A → List (K × X)
pairs entry xs = map entry xs

-- the element of this key
pub record IsElementAt {A K X : Type 0} (R : K → K → Ordering) (entry : A → K × X) (xs : List A) (k : K) (i : ℕ) : Type 0 where
  pub in_range : i < length xs
  pub key : (d : A) → (entry (slice_index_or xs i d)).0 ≡ k
  pub found : (d : A) → find R k (map entry xs) ≡ Some (entry (slice_index_or xs i d)).1

-- no element has this key, and this is its place
pub record IsGap {A K X : Type 0} (R : K → K → Ordering) (entry : A → K × X) (xs : List A) (k : K) (i : ℕ) : Type 0 where
  pub in_range : i ≤ length xs
  pub absent : find R k (map entry xs) ≡ None
  pub placed : (x : A) → (entry x).0 ≡ k → map entry (insert xs i x) ≡ put R k (entry x).1 (map entry xs)
