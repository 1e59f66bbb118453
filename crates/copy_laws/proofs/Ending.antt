-- The tree that a walk is of, and how far it got.
use Rattle.std.proofs.Common.{◌≡◌, ◌⊎◌, inl, inr, Bool, true, false, cond, [], ◌∷◌, ◌++◌, refl, sym, ◌∙◌, ap, subst, append-nil}
use Rattle.std.specs.Prelude.{T, is_some, Some, None, not, IfSome}
use Rattle.std.specs.FinMap.{get, find, entries, is_sorted, from_sorted, get-entries, entries_sorted, entries-from_sorted, get-from_sorted}
use Rattle.std.specs.FinMap.Entries.{below_all, where_key, is_sorted-where_key, find-where_key, same_entries}
use Rattle.std.specs.Cmp.{tied_itself}
use Rattle.std.specs.Ordering.{is_eq, is_lt, ordering_reverse}
use Rattle.std.specs.declared.cmp.Ordering.{Ordering}
use Rattle.std.specs.declared.cmp.Ordering.TheVariants.{Less, Equal, Greater}
use Rattle.std.specs.declared.option.Option.{Option}
use Rattle.std.proofs.lemmas.Option.{same_Some}
use Rattle.block_id.proofs.Conditions.{left, right}
use Rattle.fs_model.specs.declared.attr.Kind.{Kind}
use Rattle.fs_model.specs.Tree.{path_cmp}
use Rattle.fs_model.proofs.TreeLemmas.{path_total, path_exact}
use Rattle.store_api.proofs.Rising.{not_below}
use Rattle.host_folder.specs.Folders.{HostRow, HostPath, HostTree}
use Rattle.copy_laws.specs.Importing.{ArePlain}
use Rattle.copy_laws.specs.Walks.{Met, Todo, Before, BeforeAll, AreLess, AreAhead, IsPlain, ArePlainRows, AreOf, IsUnder, Covers, IsWalk}
use Rattle.copy_laws.proofs.Orders.{before_less, before_below, less_below, never_less, not_back}
use Rattle.copy_laws.proofs.Walking.{AllBelow, both, sorted_append, is_less, find_right, find_left, find_less, plain_push}
use Rattle.block_id.proofs.Orders.{less_so}

-- each of these rows is one that is to be met, or below one
abbrev pub AreUnder : Met → Todo → Type 0
AreUnder [] todo = Unit {0}
AreUnder (e ∷ es) todo = IsUnder e.0 todo × AreUnder es todo

-- the rows of a tree that weren't met
is_new : Met → HostPath → Bool
is_new es q = not (is_some (find path_cmp q es))

abbrev rest_of : HostTree → Met → Met
rest_of t es = where_key path_cmp (is_new es) (entries t)

not_some : (o : Option HostRow) → not (is_some o) ≡ true → o ≡ None
not_some None h = refl
not_some (Some x) h = let bad : false ≡ true = h in cc

-- what is under a path to be met is later than all that was met
later : (es : Met) (q : HostPath) (ds : Todo) → AreAhead es ds → IsUnder q ds → AreLess es q
later es q [] h u = absurd u
later es q (d ∷ ds) h (inl (s, e)) = subst (λ z. AreLess es z) (sym e) (far es d.0 s h.0)
  where
    far : (es : Met) (p s : HostPath) → AreLess es p → AreLess es (p ++ s)
    far es p [] h = subst (λ z. AreLess es z) (sym (append-nil p)) h
    far [] p (n ∷ s) h = tt
    far (e ∷ es) p (n ∷ s) h = (path_total.trans e.0 p (p ++ n ∷ s) h.0 (less_below p n s), far es p (n ∷ s) h.1)
later es q (d ∷ ds) h (inr u) = later es q ds h.1 u

below_rest : (es : Met) (ds : Todo) (fs : Met) → AreAhead es ds → AreUnder fs ds → AllBelow es fs
below_rest es ds [] h u = tt
below_rest es ds (f ∷ fs) h u = (later es f.0 ds h u.0, below_rest es ds fs h u.1)

pub of_find : (t : HostTree) (es : Met) (q : HostPath) (row : HostRow) → AreOf t es → find path_cmp q es ≡ Some row → get t q ≡ Some row
of_find t [] q row h e = let bad : None ≡ Some row = e in cc
of_find t (x ∷ es) q row h e = by (path_cmp q x.0) refl (λ g. of_find t es q row h.1 g)
  where
    by : (o : Ordering) → path_cmp q x.0 ≡ o → (find path_cmp q es ≡ Some row → get t q ≡ Some row) → get t q ≡ Some row
    by Less c f = f (sym (ap (λ z. cond (is_eq z) (Some x.1) (find path_cmp q es)) c) ∙ e)
    by Greater c f = f (sym (ap (λ z. cond (is_eq z) (Some x.1) (find path_cmp q es)) c) ∙ e)
    by Equal c f = ap (get t) (path_exact q x.0 c) ∙ (h.0 ∙ (sym (ap (λ z. cond (is_eq z) (Some x.1) (find path_cmp q es)) c) ∙ e))

-- the rows that are left of a part of the entries are under what is to be met
left_under : (t : HostTree) (es : Met) (ds : Todo) → ((p : HostPath) → is_some (get t p) ≡ true → (is_some (find path_cmp p es) ≡ true) ⊎ IsUnder p ds)
    → (fs : Met) → ((e : HostPath × HostRow) → is_some (find path_cmp e.0 fs) ≡ true → is_some (get t e.0) ≡ true) → AreUnder (where_key path_cmp (is_new es) fs) ds
unfolding is_new
left_under t es ds whole [] h = tt
left_under t es ds whole (f ∷ fs) h = by (is_some (find path_cmp f.0 es)) refl (left_under t es ds whole fs (λ e some. h e (kept e some)))
  where
    here : is_some (find path_cmp f.0 (f ∷ fs)) ≡ true
    here = ap (λ o. is_some (cond (is_eq o) (Some f.1) (find path_cmp f.0 fs))) (tied_itself path_total f.0)

    kept : (e : HostPath × HostRow) → is_some (find path_cmp e.0 fs) ≡ true → is_some (find path_cmp e.0 (f ∷ fs)) ≡ true
    kept e some = more (is_eq (path_cmp e.0 f.0)) some
      where
        more : (b : Bool) → is_some (find path_cmp e.0 fs) ≡ true → is_some (cond b (Some f.1) (find path_cmp e.0 fs)) ≡ true
        more true s = refl
        more false s = s

    under : is_some (find path_cmp f.0 es) ≡ false → IsUnder f.0 ds
    under fresh = pick (whole f.0 (h f here))
      where
        pick : (is_some (find path_cmp f.0 es) ≡ true) ⊎ IsUnder f.0 ds → IsUnder f.0 ds
        pick (inl met) = let bad : true ≡ false = sym met ∙ fresh in cc
        pick (inr u) = u

    by : (b : Bool) → is_some (find path_cmp f.0 es) ≡ b → AreUnder (where_key path_cmp (is_new es) fs) ds → AreUnder (where_key path_cmp (is_new es) (f ∷ fs)) ds
    by true e rest = subst (λ z. AreUnder (cond (not z) (f ∷ where_key path_cmp (is_new es) fs) (where_key path_cmp (is_new es) fs)) ds) (sym e) rest
    by false e rest = subst (λ z. AreUnder (cond (not z) (f ∷ where_key path_cmp (is_new es) fs) (where_key path_cmp (is_new es) fs)) ds) (sym e) (under e, rest)

-- a told tree's entries are those that were met, and then others that are under what is to be met
told_split : (t : HostTree) (es : Met) (ds : Todo) → T (is_sorted path_cmp es) → AreAhead es ds → Covers t es ds → (entries t ≡ es ++ rest_of t es) × AreUnder (rest_of t es) ds
unfolding is_new
told_split t es ds rising ahead c = (sym (same_entries path_cmp path_total path_exact (es ++ rest_of t es) (entries t) sorted (entries_sorted t) same), under)
  where
    under : AreUnder (rest_of t es) ds
    under = left_under t es ds (λ p h. c.whole p h) (entries t) (λ e some. ap is_some (get-entries t e.0) ∙ some)

    sorted : T (is_sorted path_cmp (es ++ rest_of t es))
    sorted = sorted_append es (rest_of t es) rising (is_sorted-where_key path_cmp (is_new es) (entries t) (entries_sorted t)) (below_rest es ds (rest_of t es) ahead under)

    alike : (q x : HostPath) → path_cmp q x ≡ Equal → is_new es x ≡ is_new es q
    alike q x e = ap (is_new es) (sym (path_exact q x e))

    same : (q : HostPath) → find path_cmp q (es ++ rest_of t es) ≡ find path_cmp q (entries t)
    same q = by (find path_cmp q es) refl
      where
        by : (o : Option HostRow) → find path_cmp q es ≡ o → find path_cmp q (es ++ rest_of t es) ≡ find path_cmp q (entries t)
        by (Some row) e = find_left q es (rest_of t es) row e ∙ (sym (of_find t es q row c.rows e) ∙ get-entries t q)
        by None e =
            find_right q es (rest_of t es) e
            ∙ (find-where_key path_cmp (is_new es) q (λ x h. alike q x h) (entries t)
            ∙ ap (λ z. cond (not (is_some z)) (find path_cmp q (entries t)) None) e)

plain_find : (es : Met) (q : HostPath) (row : HostRow) → ArePlainRows es → find path_cmp q es ≡ Some row → IsPlain row
plain_find [] q row h e = let bad : None ≡ Some row = e in absurd cc
plain_find (x ∷ es) q row h e = by (is_eq (path_cmp q x.0)) e (λ g. plain_find es q row h.1 g)
  where
    by : (b : Bool) → cond b (Some x.1) (find path_cmp q es) ≡ Some row → (find path_cmp q es ≡ Some row → IsPlain row) → IsPlain row
    by true g f = subst IsPlain (same_Some _ _ g) h.0
    by false g f = f g

-- a tree that a walk is of: the told one, or that of what was met
pub record IsOf (told : Option HostTree) (t : HostTree) : Type 0 where
  pub same : IfSome told (λ u. u ≡ t)
  pub plain : ArePlain t

given : (es : Met) → T (is_sorted path_cmp es) → ArePlainRows es → IsOf None (from_sorted es)
given es rising plain = record { same = tt; plain = λ r row e. plain_find es r row plain (sym (get-from_sorted path_cmp es r rising) ∙ e) }

pub walk_of : (told : Option HostTree) (es : Met) (ds : Todo) → IsWalk told es ds → (t : HostTree) × (IsOf told t × ((rest : Met) × ((entries t ≡ es ++ rest) × AreUnder rest ds)))
walk_of None es ds w = (from_sorted es, (given es w.rising w.plain, ([], (entries-from_sorted path_cmp es w.rising ∙ sym (append-nil es), tt))))
walk_of (Some t) es ds w =
    let split = told_split t es ds w.rising w.ahead w.covers in
    (t, (record { same = refl; plain = λ r row e. w.covers.tree.plain r row e }, (rest_of t es, split)))

none_under : (rest : Met) → AreUnder rest [] → rest ≡ []
none_under [] h = refl
none_under (e ∷ es) h = absurd h.0

-- nothing is left to be met
pub walk_done : (told : Option HostTree) (es : Met) → IsWalk told es [] → (t : HostTree) × (IsOf told t × (entries t ≡ es))
walk_done told es w =
    let all = walk_of told es [] w in
    (all.0, (all.1.0, all.1.1.1.0 ∙ (ap (λ z. es ++ z) (none_under all.1.1.0 all.1.1.1.1) ∙ append-nil es)))

below_far : (p q : HostPath) (es : Met) → path_cmp p q ≡ Less → T (below_all path_cmp q es) → T (below_all path_cmp p es)
below_far p q [] e h = tt
below_far p q (x ∷ es) e h =
    both (is_lt (path_cmp p x.0)) (below_all path_cmp p es)
    (is_less (path_cmp p x.0) (path_total.trans p q x.0 e (less_so (path_cmp q x.0) (left (is_lt (path_cmp q x.0)) (below_all path_cmp q es) h))))
    (below_far p q es e (right (is_lt (path_cmp q x.0)) (below_all path_cmp q es) h))

not_under : (x p : HostPath) (k : Kind) (ds : Todo) → BeforeAll p ds → IsUnder x ((p, k) ∷ ds) → path_cmp x p ≡ Less → ⊥
not_under x p k ds b (inl (s, e)) h = not_back p s (subst (λ z. path_cmp z p ≡ Less) e h)
not_under x p k [] b (inr u) h = absurd u
not_under x p k (d ∷ ds) b (inr (inl (s, e))) h =
    never_less x (path_total.trans x p x h (subst (λ z. path_cmp p z ≡ Less) (sym e) (before_less p (d.0 ++ s) (subst (λ z. Before z (d.0 ++ s)) (append-nil p) (before_below p d.0 [] s b.0)))))
not_under x p k (d ∷ ds) b (inr (inr u)) h = not_under x p k ds b.1 (inr u) h

-- of the rows that are left the first is at the path that is the next
first_left : (p : HostPath) (k : Kind) (ds : Todo) (row : HostRow) (rest : Met) → T (is_sorted path_cmp rest) → BeforeAll p ds → AreUnder rest ((p, k) ∷ ds) → find path_cmp p rest ≡ Some row
    → (after : Met) × (rest ≡ (p, row) ∷ after)
first_left p k ds row [] s b u e = let bad : None ≡ Some row = e in absurd cc
first_left p k ds row (x ∷ xs) s b u e = by (path_cmp p x.0) refl
  where
    below : T (below_all path_cmp x.0 xs)
    below = left (below_all path_cmp x.0 xs) (is_sorted path_cmp xs) s

    by : (o : Ordering) → path_cmp p x.0 ≡ o → (after : Met) × (x ∷ xs ≡ (p, row) ∷ after)
    by Equal c =
        let here : p ≡ x.0 = path_exact p x.0 c in
        let value : x.1 ≡ row = same_Some _ _ (sym (ap (λ z. cond (is_eq z) (Some x.1) (find path_cmp p xs)) c) ∙ e) in
        (xs, λ i. (sym here i, value i) ∷ xs)
    by Less c =
        let none : find path_cmp p xs ≡ None = not_below path_total p p xs (tied_itself path_total p) (below_far p x.0 xs c below) in
        let bad : None ≡ Some row = sym none ∙ (sym (ap (λ z. cond (is_eq z) (Some x.1) (find path_cmp p xs)) c) ∙ e) in
        absurd cc
    by Greater c = absurd (not_under x.0 p k ds b u.0 (turn (path_cmp x.0 p) (path_total.antisymm p x.0) c))
      where
        turn : (o : Ordering) → path_cmp p x.0 ≡ ordering_reverse o → path_cmp p x.0 ≡ Greater → o ≡ Less
        turn Less a g = refl
        turn Equal a g = let bad : Equal ≡ Greater = sym a ∙ g in cc
        turn Greater a g = let bad : Less ≡ Greater = sym a ∙ g in cc

-- the row that is the next stands just behind what was met
pub walk_next : (told : Option HostTree) (es : Met) (p : HostPath) (k : Kind) (ds : Todo) (row : HostRow) → IsWalk told es ((p, k) ∷ ds) → IsPlain row → IfSome told (λ t. get t p ≡ Some row)
    → (t : HostTree) × (IsOf told t × ((after : Met) × (entries t ≡ es ++ (p, row) ∷ after)))
walk_next None es p k ds row w plain at =
    let sorted : T (is_sorted path_cmp (es ++ (p, row) ∷ [])) = sorted_append es ((p, row) ∷ []) w.rising tt (w.ahead.0, tt) in
    (from_sorted (es ++ (p, row) ∷ []), (given (es ++ (p, row) ∷ []) sorted (plain_push es p row w.plain plain), ([], entries-from_sorted path_cmp (es ++ (p, row) ∷ []) sorted)))
walk_next (Some t) es p k ds row w plain at =
    let split = told_split t es ((p, k) ∷ ds) w.rising w.ahead w.covers in
    let sorted : T (is_sorted path_cmp (rest_of t es)) = is_sorted-where_key path_cmp (is_new es) (entries t) (entries_sorted t) in
    let found : find path_cmp p (rest_of t es) ≡ Some row =
    sym (find_right p es (rest_of t es) (find_less p es w.ahead.0)) ∙ (ap (find path_cmp p) (sym split.0) ∙ (sym (get-entries t p) ∙ at)) in
    let first = first_left p k ds row (rest_of t es) sorted w.order.0 split.1 found in
    (t, (record { same = refl; plain = λ r row e. w.covers.tree.plain r row e }, (first.0, split.0 ∙ ap (λ z. es ++ z) first.1)))
