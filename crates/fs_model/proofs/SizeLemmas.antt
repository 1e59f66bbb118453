-- The children of edited trees, and the bytes that their entries take.
use Rattle.std.specs.Prelude.{◌≡◌, ℕ, ◌+◌, ◌≤◌, cond, List, [], ◌∷◌, length, nat_lt}
use Rattle.std.proofs.Common.{refl, sym, ◌∙◌, ap, subst, inl, inr, arith}
use Rattle.std.specs.FinMap.{FinMap, get, entries, find, insert, remove, empty, get-insert, get-remove, get-entries, entries-insert, same_map, len, empty_of_len, get-empty, len-entries, len-empty}
use Rattle.std.specs.FinMap.Entries.{put, by_order}
use Rattle.std.specs.declared.cmp.Ordering.TheVariants.{Less, Equal, Greater}
use Rattle.std.specs.declared.option.Option.TheVariants.{None, Some}
use Rattle.std.specs.Ordering.{is_eq}
use Rattle.std.proofs.lemmas.Bool.{lt-ltb}
use Rattle.fs_model.specs.Tree.{Path, Tree, Row, name_cmp, entry_size, entries_size, children, directory_size}
use Rattle.fs_model.specs.Step.{has_child}
use Rattle.fs_model.proofs.TreeLemmas.{name_total, name_exact, name_split, name_apart, name_same, get-children, insert_here, insert_apart, remove_here, remove_apart}

abbrev pub NameMap : Type 0 → Type 0
NameMap X = FinMap name_cmp X

abbrev pub map_size : {X : Type 0} → NameMap X → ℕ
map_size m = entries_size (entries m)

module _ {X : Type 0} where
  pub same_names : (m o : NameMap X) → ((n : List ℕ) → get m n ≡ get o n) → m ≡ o
  same_names m o same = same_map name_total name_exact m o same

  pub name_insert_here : (m : NameMap X) (n : List ℕ) (x : X) → get (insert m n x) n ≡ Some x
  name_insert_here m n x = get-insert name_total m n x n ∙ ap (λ b. cond b (Some x) (get m n)) (name_same n)

  pub name_insert_apart : (m : NameMap X) (n : List ℕ) (x : X) (k : List ℕ) → (k ≡ n → ⊥) → get (insert m n x) k ≡ get m k
  name_insert_apart m n x k differ = get-insert name_total m n x k ∙ ap (λ b. cond b (Some x) (get m k)) (name_apart k n differ)

  pub name_remove_here : (m : NameMap X) (n : List ℕ) → get (remove m n) n ≡ None
  name_remove_here m n = get-remove name_total m n n ∙ ap (λ b. cond b None (get m n)) (name_same n)

  pub name_remove_apart : (m : NameMap X) (n k : List ℕ) → (k ≡ n → ⊥) → get (remove m n) k ≡ get m k
  name_remove_apart m n k differ = get-remove name_total m n k ∙ ap (λ b. cond b None (get m k)) (name_apart k n differ)

  size-put : (n : List ℕ) (x : X) (es : List (List ℕ × X)) → find name_cmp n es ≡ None → entries_size (put name_cmp n x es) ≡ entries_size es + entry_size n
  size-put n x [] none = omega arith
  size-put n x (e ∷ es) none =
      elim (name_cmp n e.0) as (λ r. name_cmp n e.0 ≡ r → cond (is_eq r) (Some e.1) (find name_cmp n es) ≡ None
      → entries_size (by_order r ((n, x) ∷ e ∷ es) ((e.0, x) ∷ es) (e ∷ put name_cmp n x es)) ≡ (entry_size e.0 + entries_size es) + entry_size n) [
        | Less ↦ λ r h. omega arith
        | Equal ↦ λ r h. cc
        | Greater ↦ λ r h. let rest = size-put n x es h in omega arith
      ] refl none

  pub size-insert : (m : NameMap X) (n : List ℕ) (x : X) → get m n ≡ None → map_size (insert m n x) ≡ map_size m + entry_size n
  size-insert m n x none = ap entries_size (entries-insert name_total m n x) ∙ size-put n x (entries m) (sym (get-entries m n) ∙ none)

  rebuilt : (m : NameMap X) (n : List ℕ) (x : X) → insert (remove m n) n x ≡ insert m n x
  rebuilt m n x = same_names _ _ (λ k. elim (name_split k n) [
    | inl e ↦ subst (λ z. get (insert (remove m n) n x) z ≡ get (insert m n x) z) (sym e) (name_insert_here (remove m n) n x ∙ sym (name_insert_here m n x))
    | inr d ↦ name_insert_apart (remove m n) n x k d ∙ (name_remove_apart m n k d ∙ sym (name_insert_apart m n x k d))
  ])

  pub inserted_again : (m : NameMap X) (n : List ℕ) (x : X) → get m n ≡ Some x → insert m n x ≡ m
  inserted_again m n x there = same_names _ _ (λ k. elim (name_split k n) [
    | inl e ↦ subst (λ z. get (insert m n x) z ≡ get m z) (sym e) (name_insert_here m n x ∙ sym there)
    | inr d ↦ name_insert_apart m n x k d
  ])

  pub size-remove : (m : NameMap X) (n : List ℕ) (x : X) → get m n ≡ Some x → map_size (remove m n) + entry_size n ≡ map_size m
  size-remove m n x there = sym (size-insert (remove m n) n x (name_remove_here m n)) ∙ ap map_size (rebuilt m n x ∙ inserted_again m n x there)

  pub size-set : (m : NameMap X) (n : List ℕ) (x y : X) → get m n ≡ Some x → map_size (insert m n y) ≡ map_size m
  size-set m n x y there = ap map_size (sym (rebuilt m n y)) ∙ (size-insert (remove m n) n y (name_remove_here m n) ∙ size-remove m n x there)

  pub removed_absent : (m : NameMap X) (n : List ℕ) → get m n ≡ None → remove m n ≡ m
  removed_absent m n none = same_names _ _ (λ k. elim (name_split k n) [
    | inl e ↦ subst (λ z. get (remove m n) z ≡ get m z) (sym e) (name_remove_here m n ∙ sym none)
    | inr d ↦ name_remove_apart m n k d
  ])

  pub size-remove-le : (m : NameMap X) (n : List ℕ) → map_size (remove m n) ≤ map_size m
  size-remove-le m n = elim (get m n) as (λ o. get m n ≡ o → map_size (remove m n) ≤ map_size m) [
    | None ↦ λ e. let same = ap map_size (removed_absent m n e) in omega arith
    | Some x ↦ λ e. let size = size-remove m n x e in omega arith
  ] refl

  size_of_none : (es : List (List ℕ × X)) → length es ≡ 0 → entries_size es ≡ 0
  size_of_none [] e = refl
  size_of_none (x ∷ es) e = absurd (omega arith)

  pub empty_names : (m : NameMap X) → len m ≡ 0 → (n : List ℕ) → get m n ≡ None
  empty_names m e n = ap (λ z. get z n) (empty_of_len m e) ∙ get-empty name_cmp n

  pub no_names : (m : NameMap X) → ((n : List ℕ) → get m n ≡ None) → m ≡ empty
  no_names m none = same_names m empty (λ n. none n ∙ sym (get-empty name_cmp n))

pub size-empty : (X : Type 0) → map_size (empty {X = X} {R = name_cmp}) ≡ 0
size-empty X = size_of_none (entries (empty {X = X} {R = name_cmp})) (sym (len-entries (empty {X = X} {R = name_cmp})) ∙ len-empty name_cmp X)

-- the children of a path are the map that has the same rows
pub same_children : (t : Tree) (p : Path) (m : NameMap Row) → ((n : List ℕ) → get t (n ∷ p) ≡ get m n) → children t p ≡ m
same_children t p m same = same_names (children t p) m (λ n. get-children t p n ∙ same n)

other_name : (n k : List ℕ) (p : Path) → (k ≡ n → ⊥) → k ∷ p ≡ n ∷ p → ⊥
other_name n k p d e = d (cc)

other_parent : (n k : List ℕ) (p q : Path) → (q ≡ p → ⊥) → k ∷ q ≡ n ∷ p → ⊥
other_parent n k p q d e = d (cc)

pub children-insert : (t : Tree) (n : List ℕ) (p : Path) (row : Row) → children (insert t (n ∷ p) row) p ≡ insert (children t p) n row
children-insert t n p row = same_children _ p _ (λ k. elim (name_split k n) [
  | inl e ↦ subst (λ z. get (insert t (n ∷ p) row) (z ∷ p) ≡ get (insert (children t p) n row) z) (sym e) (insert_here t (n ∷ p) row ∙ sym (name_insert_here (children t p) n row))
  | inr d ↦ insert_apart t (n ∷ p) row (k ∷ p) (other_name n k p d) ∙ (sym (get-children t p k) ∙ sym (name_insert_apart (children t p) n row k d))
])

pub children-insert_apart : (t : Tree) (n : List ℕ) (p : Path) (row : Row) (q : Path) → (q ≡ p → ⊥) → children (insert t (n ∷ p) row) q ≡ children t q
children-insert_apart t n p row q d = same_children _ q _ (λ k. insert_apart t (n ∷ p) row (k ∷ q) (other_parent n k p q d) ∙ sym (get-children t q k))

pub children-remove : (t : Tree) (n : List ℕ) (p : Path) → children (remove t (n ∷ p)) p ≡ remove (children t p) n
children-remove t n p = same_children _ p _ (λ k. elim (name_split k n) [
  | inl e ↦ subst (λ z. get (remove t (n ∷ p)) (z ∷ p) ≡ get (remove (children t p) n) z) (sym e) (remove_here t (n ∷ p) ∙ sym (name_remove_here (children t p) n))
  | inr d ↦ remove_apart t (n ∷ p) (k ∷ p) (other_name n k p d) ∙ (sym (get-children t p k) ∙ sym (name_remove_apart (children t p) n k d))
])

pub children-remove_apart : (t : Tree) (n : List ℕ) (p q : Path) → (q ≡ p → ⊥) → children (remove t (n ∷ p)) q ≡ children t q
children-remove_apart t n p q d = same_children _ q _ (λ k. remove_apart t (n ∷ p) (k ∷ q) (other_parent n k p q d) ∙ sym (get-children t q k))

pub no_children : (t : Tree) (p : Path) → len (children t p) ≡ 0 → (n : List ℕ) → get t (n ∷ p) ≡ None
no_children t p e n = sym (get-children t p n) ∙ empty_names (children t p) e n

some_size : {X : Type 0} (es : List (List ℕ × X)) → nat_lt 0 (entries_size es) ≡ nat_lt 0 (length es)
some_size [] = refl
some_size (e ∷ es) = lt-ltb 0 (entries_size (e ∷ es)) (omega arith) ∙ sym (lt-ltb 0 (length (e ∷ es)) (omega arith))

-- a directory whose entries take bytes has a child
pub has_child-size : (t : Tree) (p : Path) → nat_lt 0 (directory_size t p) ≡ has_child t p
has_child-size t p = some_size (entries (children t p)) ∙ ap (nat_lt 0) (sym (len-entries (children t p)))
