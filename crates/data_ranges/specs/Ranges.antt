-- What a call on a range needs, and what it leaves.
use Rattle.std.specs.Prelude.{◌≡◌, ◌≤◌, ◌<◌, ◌+◌, ℕ, true, length}
use Rattle.data_reads.specs.store_api.Content.{Id}
use Rattle.data_reads.specs.store_api.Holdings.{Holdings}
use Rattle.data_reads.specs.data_tree.Roots.{IsRoot}

-- n bytes from a place on, at least one, lie inside the tree of this root
pub record IsInside {S : Type 0} (H : Holdings S) (s : S) (root : Id) (from n : ℕ) : Type 0 where
  pub tree : IsRoot H s root
  pub some : 0 < n
  pub fits : from + n ≤ length tree.bytes

-- n bytes from a place on reach past the end of the tree of this root
pub record ReachesPast {S : Type 0} (H : Holdings S) (s : S) (root : Id) (from n : ℕ) : Type 0 where
  pub tree : IsRoot H s root
  pub over : length tree.bytes < from + n

-- so many bytes more make n
pub record GrowsTo {S : Type 0} (H : Holdings S) (s : S) (root : Id) (more n : ℕ) : Type 0 where
  pub tree : IsRoot H s root
  pub sum : length tree.bytes + more ≡ n

-- the tree of this root has n bytes or more
pub record HasAtLeast {S : Type 0} (H : Holdings S) (s : S) (root : Id) (n : ℕ) : Type 0 where
  pub tree : IsRoot H s root
  pub fits : n ≤ length tree.bytes

-- the tree has this depth and this length
pub record IsOpened {S : Type 0} (H : Holdings S) (s : S) (root : Id) (depth len : ℕ) : Type 0 where
  pub tree : IsRoot H s root
  pub told : H.told s ≡ true
  pub same : tree.depth ≡ depth
  pub long : len ≡ length tree.bytes
