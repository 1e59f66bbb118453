-- Directories that are full, and the bytes of their entries.
use Rattle.std.proofs.Common.{◌≡◌, ℕ, suc, zero, ◌+◌, ◌<◌, ◌≤◌, length, get_or, map, List, [], ◌∷◌, refl, ap, arith}
use Rattle.std.proofs.Math.ListN.{set}
use Rattle.std.specs.Global.{Box}
use Rattle.std.specs.List.{insert, remove}
use Rattle.fs_model.specs.Tree.{entry_size, entries_size}
use Rattle.plain_rows.specs.declared.rows.Folder.{Folder}
use Rattle.plain_rows.specs.Formed.{IsFull, AllFull}

pub full_at : (fs : List (Box Folder)) (i : ℕ) (d : Box Folder) → AllFull fs → i < length fs → IsFull (get_or fs i d).value
full_at [] i d h lt = absurd (omega arith)
full_at (f ∷ fs) zero d h lt = h.0
full_at (f ∷ fs) (suc i) d h lt = full_at fs i d h.1 (omega arith)

pub full-set : (fs : List (Box Folder)) (i : ℕ) (f : Box Folder) → AllFull fs → IsFull f.value → AllFull (set fs i f)
full-set [] i f h k = tt
full-set (g ∷ fs) zero f h k = (k, h.1)
full-set (g ∷ fs) (suc i) f h k = (h.0, full-set fs i f h.1 k)

pub full-insert : (fs : List (Box Folder)) (i : ℕ) (f : Box Folder) → AllFull fs → IsFull f.value → AllFull (insert fs i f)
full-insert [] zero f h k = (k, tt)
full-insert [] (suc i) f h k = (k, tt)
full-insert (g ∷ fs) zero f h k = (k, h)
full-insert (g ∷ fs) (suc i) f h k = (h.0, full-insert fs i f h.1 k)

pub full-remove : (fs : List (Box Folder)) (i : ℕ) → AllFull fs → AllFull (remove fs i)
full-remove [] zero h = tt
full-remove [] (suc i) h = tt
full-remove (g ∷ fs) zero h = h.1
full-remove (g ∷ fs) (suc i) h = (h.0, full-remove fs i h.1)

-- the bytes of the entries of edited elements
module _ {A X : Type 0} (entry : A → List ℕ × X) where
  pub size-insert : (xs : List A) (i : ℕ) (x : A) → i ≤ length xs → entries_size (map entry (insert xs i x)) ≡ entries_size (map entry xs) + entry_size (entry x).0
  size-insert [] zero x le = omega arith
  size-insert [] (suc i) x le = absurd (omega arith)
  size-insert (y ∷ ys) zero x le = omega arith
  size-insert (y ∷ ys) (suc i) x le = omega (arith, size-insert ys i x (omega arith))

  pub size-remove : (xs : List A) (i : ℕ) (d : A) → i < length xs → entries_size (map entry (remove xs i)) + entry_size (entry (get_or xs i d)).0 ≡ entries_size (map entry xs)
  size-remove [] i d lt = absurd (omega arith)
  size-remove (y ∷ ys) zero d lt = omega arith
  size-remove (y ∷ ys) (suc i) d lt = omega (arith, size-remove ys i d (omega arith))

  pub size-set : (xs : List A) (i : ℕ) (x d : A) → (entry x).0 ≡ (entry (get_or xs i d)).0 → entries_size (map entry (set xs i x)) ≡ entries_size (map entry xs)
  size-set [] i x d is = refl
  size-set (y ∷ ys) zero x d is = ap (λ n. entry_size n + entries_size (map entry ys)) is
  size-set (y ∷ ys) (suc i) x d is = ap (λ k. entry_size (entry y).0 + k) (size-set ys i x d is)
