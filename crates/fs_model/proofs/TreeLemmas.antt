-- Paths and names in order, what an edited tree has at a path, and the children of a path.
use Rattle.std.specs.Prelude.{◌≡◌, ℕ, Bool, true, false, cond, List, [], ◌∷◌, is_some, ◌&&◌, T}
use Rattle.std.proofs.Common.{refl, sym, ◌∙◌, ap, ◌⊎◌, inl, inr}
use Rattle.std.specs.Ordering.{eq_by_cmp, is_eq}
use Rattle.std.specs.Cmp.{IsTotalOrder, tied_itself, Equal-is, tied_then}
use Rattle.std.specs.Cmp.Lexicographic.{nat_list_cmp_total, lists_total}
use Rattle.std.specs.FinMap.{get, same_map, entries, find, insert, remove, get-insert, get-remove, get-from_entries, get-entries, IsAntisymmetric, slice_cmp-IsAntisymmetric, nat_cmp-IsAntisymmetric}
use Rattle.std.specs.declared.option.Option.{Option}
use Rattle.std.specs.declared.option.Option.TheVariants.{None, Some}
use Rattle.fs_model.specs.Tree.{Path, Tree, Row, name_cmp, path_cmp, same_path, child_entries, children}

abbrev pub same_name : List ℕ → List ℕ → Bool
same_name = eq_by_cmp name_cmp

pub name_total : IsTotalOrder name_cmp
name_total = nat_list_cmp_total

pub path_total : IsTotalOrder path_cmp
path_total = lists_total nat_list_cmp_total

pub name_exact : IsAntisymmetric name_cmp
name_exact = slice_cmp-IsAntisymmetric nat_cmp-IsAntisymmetric

pub path_exact : IsAntisymmetric path_cmp
path_exact = slice_cmp-IsAntisymmetric name_exact

same_path_itself : (p : Path) → same_path p p ≡ true
same_path_itself p = ap is_eq (tied_itself path_total p)

same_name_itself : (n : List ℕ) → same_name n n ≡ true
same_name_itself n = ap is_eq (tied_itself name_total n)

pub path_same : (p : Path) → same_path p p ≡ true
path_same p = same_path_itself p

pub name_same : (n : List ℕ) → same_name n n ≡ true
name_same n = same_name_itself n

-- two paths are the same or not, and the test says which
pub path_split : (p q : Path) → (p ≡ q) ⊎ (p ≡ q → ⊥)
path_split p q = elim (same_path p q) as (λ b. same_path p q ≡ b → (p ≡ q) ⊎ (p ≡ q → ⊥)) [
  | true ↦ λ e. inl (path_exact p q ((Equal-is (path_cmp p q)).0 e))
  | false ↦ λ f. inr (λ e. let bad : true ≡ false = sym (same_path_itself q) ∙ (ap (λ z. same_path z q) (sym e) ∙ f) in cc)
] refl

pub name_split : (p q : List ℕ) → (p ≡ q) ⊎ (p ≡ q → ⊥)
name_split p q = elim (same_name p q) as (λ b. same_name p q ≡ b → (p ≡ q) ⊎ (p ≡ q → ⊥)) [
  | true ↦ λ e. inl (name_exact p q ((Equal-is (name_cmp p q)).0 e))
  | false ↦ λ f. inr (λ e. let bad : true ≡ false = sym (same_name_itself q) ∙ (ap (λ z. same_name z q) (sym e) ∙ f) in cc)
] refl

pub same_path_is : (p q : Path) → same_path p q ≡ true → p ≡ q
same_path_is p q e = path_exact p q ((Equal-is (path_cmp p q)).0 e)

pub apart : (p q : Path) → (p ≡ q → ⊥) → same_path p q ≡ false
apart p q differ = elim (same_path p q) as (λ b. same_path p q ≡ b → same_path p q ≡ false) [
  | true ↦ λ e. absurd (differ (same_path_is p q e))
  | false ↦ λ e. e
] refl

pub name_apart : (p q : List ℕ) → (p ≡ q → ⊥) → same_name p q ≡ false
name_apart p q differ = elim (same_name p q) as (λ b. same_name p q ≡ b → same_name p q ≡ false) [
  | true ↦ λ e. absurd (differ (name_exact p q ((Equal-is (name_cmp p q)).0 e)))
  | false ↦ λ e. e
] refl

pick_child : (a b : Bool) (o z : Option Row) → cond (a && b) o z ≡ cond b (cond a o z) z
pick_child true true o z = refl
pick_child true false o z = refl
pick_child false true o z = refl
pick_child false false o z = refl

under_cond : (b : Bool) (n m : List ℕ) (row : Row) (es : List (List ℕ × Row)) → find name_cmp n (cond b ((m, row) ∷ es) es) ≡ cond b (cond (eq_by_cmp name_cmp n m) (Some row) (find name_cmp n es)) (find name_cmp n es)
under_cond true n m row es = refl
under_cond false n m row es = refl

pub find-child : (n : List ℕ) (p : Path) (es : List (Path × Row)) → find name_cmp n (child_entries p es) ≡ find path_cmp (n ∷ p) es
find-child n p [] = refl
find-child n p (([], row) ∷ es) = find-child n p es
find-child n p ((m ∷ q, row) ∷ es) =
    under_cond (same_path p q) n m row (child_entries p es)
    ∙ ap (λ z. cond (same_path p q) (cond (eq_by_cmp name_cmp n m) (Some row) z) z) (find-child n p es)
    ∙ sym (pick_child (eq_by_cmp name_cmp n m) (same_path p q) (Some row) (find path_cmp (n ∷ p) es))
    ∙ ap (λ b. cond b (Some row) (find path_cmp (n ∷ p) es)) (tied_then (name_cmp n m) (path_cmp p q))

-- a child of a path is the row at its name below it
pub get-children : (t : Tree) (p : Path) (n : List ℕ) → get (children t p) n ≡ get t (n ∷ p)
unfolding children
get-children t p n = get-from_entries name_total (child_entries p (entries t)) n ∙ (find-child n p (entries t) ∙ sym (get-entries t (n ∷ p)))

pub insert_here : (t : Tree) (p : Path) (row : Row) → get (insert t p row) p ≡ Some row
insert_here t p row = get-insert path_total t p row p ∙ ap (λ b. cond b (Some row) (get t p)) (same_path_itself p)

pub insert_apart : (t : Tree) (p : Path) (row : Row) (q : Path) → (q ≡ p → ⊥) → get (insert t p row) q ≡ get t q
insert_apart t p row q differ = get-insert path_total t p row q ∙ ap (λ b. cond b (Some row) (get t q)) (apart q p differ)

-- a row set twice
pub set_again : (t : Tree) (p : Path) (x row : Row) → insert (insert t p x) p row ≡ insert t p row
set_again t p x row = same_map path_total path_exact _ _ (λ r. elim (path_split r p) [
  | inl e ↦ ap (get (insert (insert t p x) p row)) e ∙ (insert_here (insert t p x) p row ∙ sym (ap (get (insert t p row)) e ∙ insert_here t p row))
  | inr d ↦ insert_apart (insert t p x) p row r d ∙ (insert_apart t p x r d ∙ sym (insert_apart t p row r d))
])

pub remove_here : (t : Tree) (p : Path) → get (remove t p) p ≡ None
remove_here t p = get-remove path_total t p p ∙ ap (λ b. cond b None (get t p)) (same_path_itself p)

pub remove_apart : (t : Tree) (p q : Path) → (q ≡ p → ⊥) → get (remove t p) q ≡ get t q
remove_apart t p q differ = get-remove path_total t p q ∙ ap (λ b. cond b None (get t q)) (apart q p differ)

pub some_of : (o : Option Row) → is_some o ≡ true → (row : Row) × (o ≡ Some row)
some_of None h = cc
some_of (Some row) h = (row, refl)

pub none_of : (o : Option Row) → (is_some o ≡ true → ⊥) → o ≡ None
none_of None h = refl
none_of (Some row) h = absurd (h refl)

pub left_T : (a b : Bool) → T (a && b) → T a
left_T true b p = tt
left_T false b p = absurd p

pub right_T : (a b : Bool) → T (a && b) → T b
right_T true b p = p
right_T false b p = absurd p
