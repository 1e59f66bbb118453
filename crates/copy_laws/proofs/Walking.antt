-- One row more of a walk, and what a walk has met.
use Rattle.std.proofs.Common.{◌≡◌, ◌⊎◌, inl, inr, ℕ, Bool, true, false, cond, List, [], ◌∷◌, ◌++◌, refl, sym, ◌∙◌, ap, subst, append-nil, append_assoc}
use Rattle.std.specs.Prelude.{T, is_some, Some, None, IfSome, ◌&&◌}
use Rattle.std.specs.FinMap.{get, find, is_sorted}
use Rattle.std.specs.FinMap.Entries.{below_all}
use Rattle.std.specs.Cmp.{tied_itself}
use Rattle.std.specs.Ordering.{is_eq, is_lt}
use Rattle.std.specs.declared.cmp.Ordering.{Ordering}
use Rattle.std.specs.declared.cmp.Ordering.TheVariants.{Less, Equal, Greater}
use Rattle.std.specs.declared.option.Option.{Option}
use Rattle.block_id.proofs.Conditions.{left, right}
use Rattle.fs_model.specs.declared.attr.Kind.{Kind}
use Rattle.fs_model.specs.Tree.{path_cmp, name_cmp}
use Rattle.fs_model.proofs.TreeLemmas.{name_total, name_exact, path_total, path_exact}
use Rattle.store_api.proofs.Rising.{not_below}
use Rattle.host_folder.specs.Folders.{HostRow, HostPath, HostTree, IsHostTree, kind_in}
use Rattle.copy_laws.specs.Walks.{Met, Todo, todo_in, Before, BeforeAll, AreOrdered, AreLess, AreAhead, IsPlain, ArePlainRows, AreOf, HasKinds, IsUnder, Covers, IsWalk, IsRowAt}
use Rattle.copy_laws.proofs.Orders.{before_less, before_below, before_name, less_below, never_less}
use Rattle.block_id.proofs.Orders.{less_so}

pub both : (a b : Bool) → T a → T b → T (a && b)
both true b h g = g
both false b h g = absurd h

pub is_less : (o : Ordering) → o ≡ Less → T (is_lt o)
is_less o e = subst (λ z. T (is_lt z)) (sym e) tt

-- lists of rows that stand one behind the other
abbrev pub AllBelow : Met → Met → Type 0
AllBelow es [] = Unit {0}
AllBelow es (f ∷ fs) = AreLess es f.0 × AllBelow es fs

below_append : (p : HostPath) (es fs : Met) → T (below_all path_cmp p es) → T (below_all path_cmp p fs) → T (below_all path_cmp p (es ++ fs))
below_append p [] fs h g = g
below_append p (e ∷ es) fs h g =
    both (is_lt (path_cmp p e.0)) (below_all path_cmp p (es ++ fs)) (left (is_lt (path_cmp p e.0)) (below_all path_cmp p es) h)
    (below_append p es fs (right (is_lt (path_cmp p e.0)) (below_all path_cmp p es) h) g)

head_below : (e : HostPath × HostRow) (es fs : Met) → AllBelow (e ∷ es) fs → T (below_all path_cmp e.0 fs)
head_below e es [] h = tt
head_below e es (f ∷ fs) h = both (is_lt (path_cmp e.0 f.0)) (below_all path_cmp e.0 fs) (is_less (path_cmp e.0 f.0) h.0.0) (head_below e es fs h.1)

tail_below : (e : HostPath × HostRow) (es fs : Met) → AllBelow (e ∷ es) fs → AllBelow es fs
tail_below e es [] h = tt
tail_below e es (f ∷ fs) h = (h.0.1, tail_below e es fs h.1)

pub sorted_append : (es fs : Met) → T (is_sorted path_cmp es) → T (is_sorted path_cmp fs) → AllBelow es fs → T (is_sorted path_cmp (es ++ fs))
sorted_append [] fs s r h = r
sorted_append (e ∷ es) fs s r h =
    both (below_all path_cmp e.0 (es ++ fs)) (is_sorted path_cmp (es ++ fs))
    (below_append e.0 es fs (left (below_all path_cmp e.0 es) (is_sorted path_cmp es) s) (head_below e es fs h))
    (sorted_append es fs (right (below_all path_cmp e.0 es) (is_sorted path_cmp es) s) r (tail_below e es fs h))

-- look-ups
some_cond : (b : Bool) (x : HostRow) (o : Option HostRow) → is_some o ≡ true → is_some (cond b (Some x) o) ≡ true
some_cond true x o h = refl
some_cond false x o h = h

pub found_left : (q : HostPath) (es fs : Met) → is_some (find path_cmp q es) ≡ true → is_some (find path_cmp q (es ++ fs)) ≡ true
found_left q [] fs h = let bad : false ≡ true = h in cc
found_left q (e ∷ es) fs h = by (is_eq (path_cmp q e.0)) e.1 (find path_cmp q es) (find path_cmp q (es ++ fs)) h (λ g. found_left q es fs g)
  where
    by : (b : Bool) (x : HostRow) (o r : Option HostRow) → is_some (cond b (Some x) o) ≡ true → (is_some o ≡ true → is_some r ≡ true) → is_some (cond b (Some x) r) ≡ true
    by true x o r h f = refl
    by false x o r h f = f h

pub found_last : (p : HostPath) (es : Met) (row : HostRow) → is_some (find path_cmp p (es ++ (p, row) ∷ [])) ≡ true
found_last p [] row = ap (λ o. is_some (cond (is_eq o) (Some row) None)) (tied_itself path_total p)
found_last p (e ∷ es) row = some_cond (is_eq (path_cmp p e.0)) e.1 (find path_cmp p (es ++ (p, row) ∷ [])) (found_last p es row)

-- what isn't in the front is in the rest
pub find_right : (q : HostPath) (es fs : Met) → find path_cmp q es ≡ None → find path_cmp q (es ++ fs) ≡ find path_cmp q fs
find_right q [] fs h = refl
find_right q (e ∷ es) fs h = by (is_eq (path_cmp q e.0)) e.1 (find path_cmp q es) (find path_cmp q (es ++ fs)) (find path_cmp q fs) h (λ g. find_right q es fs g)
  where
    by : (b : Bool) (x : HostRow) (o r s : Option HostRow) → cond b (Some x) o ≡ None → (o ≡ None → r ≡ s) → cond b (Some x) r ≡ s
    by true x o r s h f = let bad : Some x ≡ None = h in cc
    by false x o r s h f = f h

pub find_left : (q : HostPath) (es fs : Met) (row : HostRow) → find path_cmp q es ≡ Some row → find path_cmp q (es ++ fs) ≡ Some row
find_left q [] fs row h = let bad : None ≡ Some row = h in cc
find_left q (e ∷ es) fs row h = by (is_eq (path_cmp q e.0)) e.1 (find path_cmp q es) (find path_cmp q (es ++ fs)) h (λ g. find_left q es fs row g)
  where
    by : (b : Bool) (x : HostRow) (o r : Option HostRow) → cond b (Some x) o ≡ Some row → (o ≡ Some row → r ≡ Some row) → cond b (Some x) r ≡ Some row
    by true x o r h f = h
    by false x o r h f = f h

pub find_less : (p : HostPath) (es : Met) → AreLess es p → find path_cmp p es ≡ None
find_less p [] h = refl
find_less p (e ∷ es) h = by (path_cmp p e.0) refl (find_less p es h.1)
  where
    by : (o : Ordering) → path_cmp p e.0 ≡ o → find path_cmp p es ≡ None → cond (is_eq (path_cmp p e.0)) (Some e.1) (find path_cmp p es) ≡ None
    by Less c rest = ap (λ o. cond (is_eq o) (Some e.1) (find path_cmp p es)) c ∙ rest
    by Greater c rest = ap (λ o. cond (is_eq o) (Some e.1) (find path_cmp p es)) c ∙ rest
    by Equal c rest = absurd (never_less p (subst (λ z. path_cmp z p ≡ Less) (sym (path_exact p e.0 c)) h.0))

-- all that was met is before this row and what is below it
less_far : (es : Met) (p : HostPath) (q : HostPath) → path_cmp p q ≡ Less → AreLess es p → AreLess es q
less_far [] p q e h = tt
less_far (x ∷ es) p q e h = (path_total.trans x.0 p q h.0 e, less_far es p q e h.1)

less_push : (es : Met) (p q : HostPath) (row : HostRow) → AreLess es q → path_cmp p q ≡ Less → AreLess (es ++ (p, row) ∷ []) q
less_push [] p q row h e = (e, tt)
less_push (x ∷ es) p q row h e = (h.0, less_push es p q row h.1 e)

ahead_kids : (es : Met) (p : HostPath) (row : HostRow) (kids : List (List ℕ × Kind)) → AreLess es p → AreAhead (es ++ (p, row) ∷ []) (todo_in p kids)
ahead_kids es p row [] h = tt
ahead_kids es p row (kid ∷ kids) h =
    (less_push es p (p ++ kid.0 ∷ []) row (less_far es p (p ++ kid.0 ∷ []) (less_below p kid.0 []) h) (less_below p kid.0 []), ahead_kids es p row kids h)

ahead_rest : (es : Met) (p : HostPath) (row : HostRow) (ds : Todo) → BeforeAll p ds → AreAhead es ds → AreAhead (es ++ (p, row) ∷ []) ds
ahead_rest es p row [] b h = tt
ahead_rest es p row (d ∷ ds) b h = (less_push es p d.0 row h.0 (before_less p d.0 b.0), ahead_rest es p row ds b.1 h.1)

ahead_append : (es : Met) (front bs : Todo) → AreAhead es front → AreAhead es bs → AreAhead es (front ++ bs)
ahead_append es [] bs h g = g
ahead_append es (d ∷ front) bs h g = (h.0, ahead_append es front bs h.1 g)

before_append : (p : HostPath) (front bs : Todo) → BeforeAll p front → BeforeAll p bs → BeforeAll p (front ++ bs)
before_append p [] bs h g = g
before_append p (d ∷ front) bs h g = (h.0, before_append p front bs h.1 g)

before_rest : (p : HostPath) (n : List ℕ) (ds : Todo) → BeforeAll p ds → BeforeAll (p ++ n ∷ []) ds
before_rest p n [] h = tt
before_rest p n (d ∷ ds) h = (subst (λ z. Before (p ++ n ∷ []) z) (append-nil d.0) (before_below p d.0 (n ∷ []) [] h.0), before_rest p n ds h.1)

before_kids : (p : HostPath) (n : List ℕ) (kids : List (List ℕ × Kind)) → T (below_all name_cmp n kids) → BeforeAll (p ++ n ∷ []) (todo_in p kids)
before_kids p n [] h = tt
before_kids p n (kid ∷ kids) h = (
  before_name p n kid.0 (less_so (name_cmp n kid.0) (left (is_lt (name_cmp n kid.0)) (below_all name_cmp n kids) h)),
  before_kids p n kids (right (is_lt (name_cmp n kid.0)) (below_all name_cmp n kids) h),
)

order_kids : (p : HostPath) (kids : List (List ℕ × Kind)) (ds : Todo) → T (is_sorted name_cmp kids) → BeforeAll p ds → AreOrdered ds → AreOrdered (todo_in p kids ++ ds)
order_kids p [] ds s b o = o
order_kids p (kid ∷ kids) ds s b o = (
  before_append (p ++ kid.0 ∷ []) (todo_in p kids) ds (before_kids p kid.0 kids (left (below_all name_cmp kid.0 kids) (is_sorted name_cmp kids) s)) (before_rest p kid.0 ds b),
  order_kids p kids ds (right (below_all name_cmp kid.0 kids) (is_sorted name_cmp kids) s) b o,
)

pub plain_push : (es : Met) (p : HostPath) (row : HostRow) → ArePlainRows es → IsPlain row → ArePlainRows (es ++ (p, row) ∷ [])
plain_push [] p row h f = (f, tt)
plain_push (e ∷ es) p row h f = (h.0, plain_push es p row h.1 f)

-- what a told tree says of them
of_push : (t : HostTree) (es : Met) (p : HostPath) (row : HostRow) → AreOf t es → get t p ≡ Some row → AreOf t (es ++ (p, row) ∷ [])
of_push t [] p row h e = (e, tt)
of_push t (x ∷ es) p row h e = (h.0, of_push t es p row h.1 e)

kinds_append : (t : HostTree) (front bs : Todo) → HasKinds t front → HasKinds t bs → HasKinds t (front ++ bs)
kinds_append t [] bs h g = g
kinds_append t (d ∷ front) bs h g = (h.0, kinds_append t front bs h.1 g)

kinds_kids : (t : HostTree) (p : HostPath) (kids : List (List ℕ × Kind)) → T (is_sorted name_cmp kids) → ((n : List ℕ) (k : Kind) → find name_cmp n kids ≡ Some k → kind_in (get t (p ++ n ∷ [])) ≡ Some k)
    → HasKinds t (todo_in p kids)
kinds_kids t p [] s f = tt
kinds_kids t p (kid ∷ kids) s f = (
  f kid.0 kid.1 (ap (λ o. cond (is_eq o) (Some kid.1) (find name_cmp kid.0 kids)) (tied_itself name_total kid.0)),
  kinds_kids t p kids (right (below_all name_cmp kid.0 kids) (is_sorted name_cmp kids) s) (λ n k e. f n k (later n k (name_cmp n kid.0) refl e)),
)
  where
    below : T (below_all name_cmp kid.0 kids)
    below = left (below_all name_cmp kid.0 kids) (is_sorted name_cmp kids) s

    later : (n : List ℕ) (k : Kind) (o : Ordering) → name_cmp n kid.0 ≡ o → find name_cmp n kids ≡ Some k → cond (is_eq (name_cmp n kid.0)) (Some kid.1) (find name_cmp n kids) ≡ Some k
    later n k Less c e = ap (λ z. cond (is_eq z) (Some kid.1) (find name_cmp n kids)) c ∙ e
    later n k Greater c e = ap (λ z. cond (is_eq z) (Some kid.1) (find name_cmp n kids)) c ∙ e
    later n k Equal c e = let none = not_below name_total n kid.0 kids c below in let bad : None ≡ Some k = sym none ∙ e in cc

-- a path above one of the tree is a directory of it
pub above : (t : HostTree) (tree : IsHostTree t) (s : HostPath) (p : HostPath) (n : List ℕ) → is_some (get t (p ++ n ∷ s)) ≡ true → is_some (get t (p ++ n ∷ [])) ≡ true
above t tree [] p n h = h
above t tree (m ∷ s) p n h =
    let deep : is_some (get t ((p ++ n ∷ []) ++ m ∷ [])) ≡ true = above t tree s (p ++ n ∷ []) m (subst (λ q. is_some (get t q) ≡ true) (sym (append_assoc p (n ∷ []) (m ∷ s))) h) in
    ap is_some (tree.parents (p ++ n ∷ []) m deep)

under_kids : (p : HostPath) (n : List ℕ) (s : HostPath) (kids : List (List ℕ × Kind)) → is_some (find name_cmp n kids) ≡ true → IsUnder (p ++ n ∷ s) (todo_in p kids)
under_kids p n s [] h = let bad : false ≡ true = h in cc
under_kids p n s (kid ∷ kids) h = by (name_cmp n kid.0) refl h (λ g. under_kids p n s kids g)
  where
    by : (o : Ordering) → name_cmp n kid.0 ≡ o → is_some (cond (is_eq (name_cmp n kid.0)) (Some kid.1) (find name_cmp n kids)) ≡ true
        → (is_some (find name_cmp n kids) ≡ true → IsUnder (p ++ n ∷ s) (todo_in p kids)) → IsUnder (p ++ n ∷ s) (todo_in p (kid ∷ kids))
    by Less c h f = inr (f (ap (λ z. is_some (cond (is_eq z) (Some kid.1) (find name_cmp n kids))) (sym c) ∙ h))
    by Greater c h f = inr (f (ap (λ z. is_some (cond (is_eq z) (Some kid.1) (find name_cmp n kids))) (sym c) ∙ h))
    by Equal c h f = inl (s, ap (λ z. p ++ z ∷ s) (name_exact n kid.0 c) ∙ sym (append_assoc p (kid.0 ∷ []) s))

under_left : (q : HostPath) (front bs : Todo) → IsUnder q front → IsUnder q (front ++ bs)
under_left q [] bs h = absurd h
under_left q (d ∷ front) bs (inl h) = inl h
under_left q (d ∷ front) bs (inr h) = inr (under_left q front bs h)

under_right : (q : HostPath) (front bs : Todo) → IsUnder q bs → IsUnder q (front ++ bs)
under_right q [] bs h = h
under_right q (d ∷ front) bs h = inr (under_right q front bs h)

covers_more : (t : HostTree) (es : Met) (p : HostPath) (k : Kind) (ds : Todo) (row : HostRow) (kids : List (List ℕ × Kind)) → Covers t es ((p, k) ∷ ds) → T (is_sorted name_cmp kids) → IsRowAt t p row kids
    → Covers t (es ++ (p, row) ∷ []) (todo_in p kids ++ ds)
covers_more t es p k ds row kids c s at = record {
  tree = c.tree;
  rows = of_push t es p row c.rows at.here;
  kinds = kinds_append t (todo_in p kids) ds (kinds_kids t p kids s (λ n kind e. sym (at.each n) ∙ e)) c.kinds.1;
  whole = λ q some. place q some (c.whole q some);
}
  where
    found : (n : List ℕ) → is_some (get t (p ++ n ∷ [])) ≡ true → (o : Option HostRow) → get t (p ++ n ∷ []) ≡ o → is_some (find name_cmp n kids) ≡ true
    found n h None e = let bad : false ≡ true = sym (ap is_some e) ∙ h in cc
    found n h (Some r) e = ap is_some (at.each n ∙ ap kind_in e)

    below : (q : HostPath) (s : HostPath) → q ≡ p ++ s → is_some (get t q) ≡ true → (is_some (find path_cmp q (es ++ (p, row) ∷ [])) ≡ true) ⊎ IsUnder q (todo_in p kids ++ ds)
    below q [] e h = inl (subst (λ z. is_some (find path_cmp z (es ++ (p, row) ∷ [])) ≡ true) (sym (e ∙ append-nil p)) (found_last p es row))
    below q (n ∷ s) e h =
        let here : is_some (get t (p ++ n ∷ s)) ≡ true = subst (λ z. is_some (get t z) ≡ true) e h in
        let kid : is_some (find name_cmp n kids) ≡ true = found n (above t c.tree s p n here) (get t (p ++ n ∷ [])) refl in
        inr (subst (λ z. IsUnder z (todo_in p kids ++ ds)) (sym e) (under_left (p ++ n ∷ s) (todo_in p kids) ds (under_kids p n s kids kid)))

    place : (q : HostPath) → is_some (get t q) ≡ true → (is_some (find path_cmp q es) ≡ true) ⊎ IsUnder q ((p, k) ∷ ds)
        → (is_some (find path_cmp q (es ++ (p, row) ∷ [])) ≡ true) ⊎ IsUnder q (todo_in p kids ++ ds)
    place q some (inl h) = inl (found_left q es ((p, row) ∷ []) h)
    place q some (inr (inl (s, e))) = below q s e some
    place q some (inr (inr h)) = inr (under_right q (todo_in p kids) ds h)

covers_told : (told : Option HostTree) (es : Met) (p : HostPath) (k : Kind) (ds : Todo) (row : HostRow) (kids : List (List ℕ × Kind)) → IfSome told (λ t. Covers t es ((p, k) ∷ ds)) → T (is_sorted name_cmp kids)
    → IfSome told (λ t. IsRowAt t p row kids) → IfSome told (λ t. Covers t (es ++ (p, row) ∷ []) (todo_in p kids ++ ds))
covers_told None es p k ds row kids c s at = tt
covers_told (Some t) es p k ds row kids c s at = covers_more t es p k ds row kids c s at

-- the row that is the next is met, and its children are to be met
pub walk_more : (told : Option HostTree) (es : Met) (p : HostPath) (k : Kind) (ds : Todo) (row : HostRow) (kids : List (List ℕ × Kind)) → IsWalk told es ((p, k) ∷ ds) → IsPlain row → T (is_sorted name_cmp kids)
    → IfSome told (λ t. IsRowAt t p row kids) → IsWalk told (es ++ (p, row) ∷ []) (todo_in p kids ++ ds)
walk_more told es p k ds row kids w plain s at = record {
  rising = sorted_append es ((p, row) ∷ []) w.rising tt (w.ahead.0, tt);
  ahead = ahead_append (es ++ (p, row) ∷ []) (todo_in p kids) ds (ahead_kids es p row kids w.ahead.0) (ahead_rest es p row ds w.order.0 w.ahead.1);
  order = order_kids p kids ds s w.order.0 w.order.1;
  plain = plain_push es p row w.plain plain;
  covers = covers_told told es p k ds row kids w.covers s at;
}
