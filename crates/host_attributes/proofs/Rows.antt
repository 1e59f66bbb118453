-- The rows of a listing, each looked up at its path, are those of the directory.
use Rattle.std.proofs.Common.{◌≡◌, inl, inr, ℕ, Bool, true, false, cond, List, [], ◌∷◌, ◌++◌, map, refl, sym, ◌∙◌, ap, subst, arith}
use Rattle.std.specs.Prelude.{T, ◌&&◌, Some, None, reverse}
use Rattle.std.proofs.lemmas.List.{reverse-append}
use Rattle.std.specs.FinMap.{get, find, entries, is_sorted, get-entries, entries_sorted}
use Rattle.std.specs.FinMap.Entries.{below_all}
use Rattle.std.specs.Ordering.{eq_by_cmp, is_lt, is_eq}
use Rattle.std.specs.declared.cmp.Ordering.{Ordering}
use Rattle.std.specs.declared.cmp.Ordering.TheVariants.{Less, Equal, Greater}
use Rattle.std.specs.declared.option.Option.{Option}
use Rattle.block_id.proofs.Conditions.{left, right}
use Rattle.block_id.proofs.Orders.{less_so}
use Rattle.fs_model.specs.declared.attr.Attr.{Attr}
use Rattle.fs_model.specs.declared.reply.ListRow.{ListRow}
use Rattle.fs_model.specs.Step.{list_row}
use Rattle.fs_model.specs.Tree.{Path, Row, Tree, name_cmp, children, upward}
use Rattle.fs_model.proofs.TreeLemmas.{name_total, name_split, name_same, name_apart, get-children}
use Rattle.host_folder.specs.Folders.{HostPath}
use Rattle.host_attributes.specs.declared.row.AttributedRow.{AttributedRow}
use Rattle.host_attributes.specs.Attributes.{attributed, attr_in, rows_in, AreLookedUp}

-- each entry is what a look-up of its name finds
abbrev pub AreFound : (List ℕ → Option Row) → List (List ℕ × Row) → Type 0
AreFound look [] = Unit {0}
AreFound look (e ∷ es) = (look e.0 ≡ Some e.1) × AreFound look es

find_below : (n : List ℕ) (es : List (List ℕ × Row)) → T (below_all name_cmp n es) → find name_cmp n es ≡ None
find_below n [] h = refl
find_below n (e ∷ es) h =
    ap (λ r. cond (is_eq r) (Some e.1) (find name_cmp n es)) (less_so (name_cmp n e.0) (left (is_lt (name_cmp n e.0)) (below_all name_cmp n es) h))
    ∙ find_below n es (right (is_lt (name_cmp n e.0)) (below_all name_cmp n es) h)

-- the first entry's name is none of the others'
later : (n : List ℕ) (e : List ℕ × Row) (es : List (List ℕ × Row)) (row : Row) → T (below_all name_cmp e.0 es) → find name_cmp n es ≡ Some row → find name_cmp n (e ∷ es) ≡ Some row
later n e es row below h = elim (name_split n e.0) [
  | inl same ↦ (let bad : None ≡ Some row = sym (find_below e.0 es below) ∙ (ap (λ z. find name_cmp z es) (sym same) ∙ h) in cc)
  | inr differ ↦ ap (λ b. cond b (Some e.1) (find name_cmp n es)) (name_apart n e.0 differ) ∙ h
]

are_found : (look : List ℕ → Option Row) (es : List (List ℕ × Row)) → T (is_sorted name_cmp es) → ((n : List ℕ) (row : Row) → find name_cmp n es ≡ Some row → look n ≡ Some row) → AreFound look es
are_found look [] s h = tt
are_found look (e ∷ es) s h = (
  h e.0 e.1 (ap (λ b. cond b (Some e.1) (find name_cmp e.0 es)) (name_same e.0)),
  are_found look es (right (below_all name_cmp e.0 es) (is_sorted name_cmp es) s) (λ n row f. h n row (later n e es row (left (below_all name_cmp e.0 es) (is_sorted name_cmp es) s) f)),
)

child_up : (p : HostPath) (n : List ℕ) → upward (p ++ n ∷ []) ≡ n ∷ upward p
child_up p n = reverse-append p (n ∷ [])

some_attr : (a b : Attr) → Some a ≡ Some b → a ≡ b
some_attr a b e = ap (λ o. of o) e
  where
    of : Option Attr → Attr
    of (Some x) = x
    of None = a

same_row : (r : AttributedRow) (e : List ℕ × Row) → r.name ≡ e.0 → r.attr ≡ e.1.attr → r ≡ attributed e
same_row r e n a = λ i. record { name = n i; attr = a i }

looked : (t : Tree) (p : HostPath) (es : List (List ℕ × Row)) (rows : List AttributedRow) → AreFound (λ n. get t (n ∷ upward p)) es → AreLookedUp t p (map list_row es) rows → rows ≡ map attributed es
looked t p [] rows f l = l
looked t p (e ∷ es) rows f (row, (rest, (is, (name, (attr, more))))) =
    let there : Some e.1.attr ≡ Some row.attr = sym (ap (λ z. attr_in (get t z)) (child_up p e.0) ∙ ap attr_in f.0) ∙ attr in
    is ∙ (ap (λ z. z ∷ rest) (same_row row e name (sym (some_attr e.1.attr row.attr there))) ∙ ap (λ z. attributed e ∷ z) (looked t p es rest f.1 more))

-- the entries of a directory are what stands at their paths
pub kids_found : (t : Tree) (p : HostPath) → AreFound (λ n. get t (n ∷ upward p)) (entries (children t (upward p)))
kids_found t p = are_found (λ n. get t (n ∷ upward p)) (entries (children t (upward p))) (entries_sorted (children t (upward p))) (λ n row f. sym (get-children t (upward p) n) ∙ (get-entries (children t (upward p)) n ∙ f))

pub rows_found : (t : Tree) (p : HostPath) (ls : List ListRow) (rows : List AttributedRow) → ls ≡ map list_row (entries (children t (upward p))) → AreLookedUp t p ls rows → rows ≡ rows_in t p
rows_found t p ls rows is l = looked t p (entries (children t (upward p))) rows (kids_found t p) (subst (λ z. AreLookedUp t p z rows) is l)

-- one row more of a listing
pub looked_more : (t : Tree) (p : HostPath) (ls : List ListRow) (l : ListRow) (rows : List AttributedRow) (row : AttributedRow) → AreLookedUp t p ls rows → row.name ≡ l.name → attr_in (get t (upward (p ++ l.name ∷ []))) ≡ Some row.attr → AreLookedUp t p (ls ++ l ∷ []) (rows ++ row ∷ [])
looked_more t p [] l rows row h name attr = (row, ([], (ap (λ z. z ++ row ∷ []) h, (name, (attr, refl)))))
looked_more t p (m ∷ ls) l rows row (first, (rest, (is, (n, (a, more))))) name attr =
    (first, (rest ++ row ∷ [], (ap (λ z. z ++ row ∷ []) is, (n, (a, looked_more t p ls l rest row more name attr)))))
