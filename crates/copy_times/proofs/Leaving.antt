-- What commands that give attributes leave.
use Rattle.std.proofs.Common.{◌≡◌, ◌≢◌, inl, inr, ◌⊎◌, ℕ, zero, suc, Bool, true, false, cond, List, [], ◌∷◌, ◌++◌, map, refl, sym, ◌∙◌, ap, subst, append_assoc, append-nil}
use Rattle.std.specs.Prelude.{Some, None, is_some, reverse}
use Rattle.std.proofs.lemmas.List.{reverse-append, reverse-reverse, append_cancel_left}
use Rattle.std.specs.FinMap.{get, find, insert, entries, get-entries}
use Rattle.std.specs.declared.option.Option.{Option}
use Rattle.std.specs.Ordering.{eq_by_cmp}
use Rattle.fs_model.specs.declared.attr.Attr.{Attr}
use Rattle.fs_model.specs.declared.attr.Kind.{Kind}
use Rattle.fs_model.specs.declared.attr.Kind.TheVariants.{Directory, File, Link}
use Rattle.fs_model.specs.declared.command.Command.{Command}
use Rattle.fs_model.specs.declared.command.Command.TheVariants as command
use Rattle.fs_model.specs.declared.error.FsError.{FsError}
use Rattle.fs_model.specs.declared.error.FsError.TheVariants.{Busy, NoEntry}
use Rattle.fs_model.specs.declared.reply.Reply.TheVariants.{Done, Error}
use Rattle.fs_model.specs.Instant.{Instant}
use Rattle.fs_model.specs.LookUp.{LookedUp, Found, Free, Bad, look}
use Rattle.fs_model.specs.Step.{Stepped, step, refused, done, unless_root, attributes_set, with_mode, with_owner, with_times}
use Rattle.fs_model.specs.Tree.{Path, Row, Tree, upward, children, name_cmp, is_root, is_folder, is_directory}
use Rattle.fs_model.proofs.LookUpLemmas.{get-found}
use Rattle.fs_model.proofs.TreeLemmas.{path_split, insert_here, insert_apart, set_again, name_split, name_same, name_apart, get-children}
use Rattle.copy_row.specs.host_folder.Folders.{HostPath}
use Rattle.copy_row.specs.copy_laws.Importing.{AllDone, plain_of}
use Rattle.copy_row.specs.copy_laws.Questions.{Question, AreDone, Followed, commands_of}
use Rattle.copy_row.proofs.copy_laws_lemmas.Copying.{done_follows}
use Rattle.host_attributes.specs.Attributes.{attributed, attr_in}
use Rattle.host_attributes.proofs.Rows.{AreFound, kids_found}
use Rattle.copy_times.specs.Asking.{IsGiven, Each, gifts, gifts_at}
use Rattle.copy_times.specs.Giving.{told_kids}
use Rattle.copy_times.specs.Laws.{given_attr, HasFolders, IsGivenAt, AreGiven, GivesAll}
use Rattle.copy_times.specs.Tours.{Dressed, BelowIs, RowsTour, IsTour, dressed}

-- ---- one command, and those of one row

abbrev IsDone : Stepped → Tree → Type 0
IsDone s next = s ≡ record { reply = Done; tree = next }

-- the row at the path has these attributes now
pub record Changes (old next : Tree) (p : Path) (change : Attr → Attr) : Type 0 where
  pub row : Row
  pub was : get old p ≡ Some row
  pub is : next ≡ insert old p (record { attr = change row.attr; bytes = row.bytes })

refused_not : (t : Tree) (e : FsError) (next : Tree) → IsDone (refused t e) next → ⊥
refused_not t e next h = let bad : Error e ≡ Done = ap (λ s. s.reply) h in cc

set_done : (t : Tree) (p : Path) (change : Attr → Attr) (next : Tree) → IsDone (unless_root t p (attributes_set t p change (look t p))) next → Changes t next p change
set_done t p change next h = at_root (is_root p) h
  where
    by : (l : LookedUp) → look t p ≡ l → attributes_set t p change l ≡ record { reply = Done; tree = next } → Changes t next p change
    by (Found row) is e = record { row = row; was = get-found t p row is; is = sym (ap (λ s. s.tree) e) }
    by Free is e = absurd (refused_not t NoEntry next e)
    by (Bad f) is e = absurd (refused_not t f next e)

    at_root : (b : Bool) → cond b (refused t Busy) (attributes_set t p change (look t p)) ≡ record { reply = Done; tree = next } → Changes t next p change
    at_root true e = absurd (refused_not t Busy next e)
    at_root false e = by (look t p) refl e

one_of : (r s : Row) → Some r ≡ Some s → r ≡ s
one_of r s e = ap (λ o. of o) e
  where
    of : Option Row → Row
    of (Some z) = z
    of None = r

-- one change after the other
changes_then : (a b c : Tree) (p : Path) (f g : Attr → Attr) → Changes a b p f → Changes b c p g → Changes a c p (λ attr. g (f attr))
changes_then a b c p f g x y =
    let mid : Row = record { attr = f x.row.attr; bytes = x.row.bytes } in
    let there : get b p ≡ Some mid = ap (λ z. get z p) x.is ∙ insert_here a p mid in
    let same : y.row ≡ mid = one_of y.row mid (sym y.was ∙ there) in
    record {
      row = x.row;
      was = x.was;
      is = y.is ∙ (ap (λ z. insert z p (record { attr = g y.row.attr; bytes = y.row.bytes })) x.is ∙ (set_again a p mid (record { attr = g y.row.attr; bytes = y.row.bytes }) ∙ ap (λ (z : Row). insert a p (record { attr = g z.attr; bytes = z.bytes })) same));
    }

given_done : (qs : List Question) → Each IsGiven qs → AreDone qs
given_done [] h = tt
given_done (q ∷ qs) h = (h.0.1, given_done qs h.1)

done_split : (now : Instant) (cs ds : List Command) (t last : Tree) → AllDone t now (cs ++ ds) last → (mid : Tree) × (AllDone t now cs mid × AllDone mid now ds last)
done_split now [] ds t last h = (t, (refl, h))
done_split now (c ∷ cs) ds t last (next, (one, more)) = let rest = done_split now cs ds next last more in (rest.0, ((next, (one, rest.1.0)), rest.1.1))

-- the three commands of a row
row_done : (now : Instant) (p : HostPath) (attr : Attr) (t last : Tree) → AllDone t now (gifts_at p attr) last → Changes t last (upward p) (given_attr attr now)
row_done now p attr t last (a, (one, (b, (two, (c, (three, end)))))) =
    subst (λ z. Changes t z (upward p) (given_attr attr now)) (sym end)
    (changes_then t b c (upward p) (λ old. with_mode attr.mode now (with_owner attr.uid attr.gid now old)) (with_times attr.atime attr.mtime now)
    (changes_then t a b (upward p) (with_owner attr.uid attr.gid now) (with_mode attr.mode now)
    (set_done t (upward p) (with_owner attr.uid attr.gid now) a one)
    (set_done a (upward p) (with_mode attr.mode now) b two))
    (set_done b (upward p) (with_times attr.atime attr.mtime now) c three))

-- ---- those of rows

AllGiven : Instant → Tree → List Dressed → Tree → Type 0
AllGiven now t [] last = last ≡ t
AllGiven now t (d ∷ ds) last = (mid : Tree) × (Changes t mid (upward d.tree) (given_attr d.attr now) × AllGiven now mid ds last)

rows_done : (now : Instant) (ds : List Dressed) (t last : Tree) → AllDone t now (gifts ds) last → AllGiven now t ds last
unfolding AllGiven
rows_done now [] t last h = h
rows_done now (d ∷ ds) t last h = let parts = done_split now (gifts_at d.tree d.attr) (gifts ds) t last h in (parts.0, (row_done now d.tree d.attr t parts.0 parts.1.0, rows_done now ds parts.0 last parts.1.1))

-- the path is one of theirs
abbrev InRows : Path → List Dressed → Type 0
InRows p [] = ⊥
InRows p (d ∷ ds) = (p ≡ upward d.tree) ⊎ InRows p ds

-- each of them that has this path has these attributes
abbrev Agree : Path → Attr → List Dressed → Type 0
Agree p attr [] = Unit {0}
Agree p attr (d ∷ ds) = (p ≡ upward d.tree → d.attr ≡ attr) × Agree p attr ds

other_row : (old next : Tree) (p r : Path) (f : Attr → Attr) → Changes old next p f → (r ≡ p → ⊥) → get next r ≡ get old r
other_row old next p r f c differ = ap (λ z. get z r) c.is ∙ insert_apart old p (record { attr = f c.row.attr; bytes = c.row.bytes }) r differ

this_row : (old next : Tree) (p : Path) (f : Attr → Attr) → (c : Changes old next p f) → get next p ≡ Some (record { attr = f c.row.attr; bytes = c.row.bytes })
this_row old next p f c = ap (λ z. get z p) c.is ∙ insert_here old p (record { attr = f c.row.attr; bytes = c.row.bytes })

-- a row that has the attributes keeps them
kept : (now : Instant) (ds : List Dressed) (t last : Tree) (p : Path) (attr : Attr) (x : Attr) (bytes : List ℕ) → AllGiven now t ds last → Agree p attr ds → get t p ≡ Some (record { attr = given_attr attr now x; bytes = bytes }) → get last p ≡ Some (record { attr = given_attr attr now x; bytes = bytes })
unfolding AllGiven
kept now [] t last p attr x bytes h a is = ap (λ z. get z p) h ∙ is
kept now (d ∷ ds) t last p attr x bytes (mid, (one, more)) a is = kept now ds mid last p attr x bytes more a.1 (elim (path_split p (upward d.tree)) [
  | inl e ↦ (
      let row = one_of one.row (record { attr = given_attr attr now x; bytes = bytes }) (sym one.was ∙ (ap (get t) (sym e) ∙ is)) in
      ap (get mid) e ∙ (this_row t mid (upward d.tree) (given_attr d.attr now) one ∙ ap (λ (z : Attr). Some (record { attr = given_attr z now one.row.attr; bytes = one.row.bytes })) (a.0 e) ∙ ap (λ (z : Row). Some (record { attr = given_attr attr now z.attr; bytes = z.bytes })) row))
  | inr differ ↦ other_row t mid (upward d.tree) p (given_attr d.attr now) one differ ∙ is
])

given_here : (now : Instant) (ds : List Dressed) (t last : Tree) (p : Path) (attr : Attr) → AllGiven now t ds last → Agree p attr ds → InRows p ds → IsGivenAt t last now p attr
unfolding AllGiven
given_here now [] t last p attr h a i = absurd i
given_here now (d ∷ ds) t last p attr (mid, (one, more)) a i = elim (path_split p (upward d.tree)) [
  | inl e ↦ record {
    row = one.row;
    was = ap (get t) e ∙ one.was;
    is = kept now ds mid last p attr one.row.attr one.row.bytes more a.1 (ap (get mid) e ∙ (this_row t mid (upward d.tree) (given_attr d.attr now) one ∙ ap (λ (z : Attr). Some (record { attr = given_attr z now one.row.attr; bytes = one.row.bytes })) (a.0 e)));
  }
  | inr differ ↦ (
      let below = given_here now ds mid last p attr more a.1 (later differ i) in record {
        row = below.row;
        was = sym (other_row t mid (upward d.tree) p (given_attr d.attr now) one differ) ∙ below.was;
        is = below.is;
      })
]
  where
    later : (p ≡ upward d.tree → ⊥) → (p ≡ upward d.tree) ⊎ InRows p ds → InRows p ds
    later differ (inl e) = absurd (differ e)
    later differ (inr i) = i

untouched : (now : Instant) (ds : List Dressed) (t last : Tree) (p : Path) → AllGiven now t ds last → (InRows p ds → ⊥) → get last p ≡ get t p
unfolding AllGiven
untouched now [] t last p h none = ap (λ z. get z p) h
untouched now (d ∷ ds) t last p (mid, (one, more)) none = untouched now ds mid last p more (λ i. none (inr i)) ∙ other_row t mid (upward d.tree) p (given_attr d.attr now) one (λ e. none (inl e))

-- kinds and bytes stay
rows_plain : (now : Instant) (ds : List Dressed) (t last : Tree) (p : Path) → AllGiven now t ds last → plain_of (get last p) ≡ plain_of (get t p)
unfolding AllGiven
rows_plain now [] t last p h = ap (λ z. plain_of (get z p)) h
rows_plain now (d ∷ ds) t last p (mid, (one, more)) = rows_plain now ds mid last p more ∙ elim (path_split p (upward d.tree)) [
  | inl e ↦ ap (λ z. plain_of (get mid z)) e ∙ (ap plain_of (this_row t mid (upward d.tree) (given_attr d.attr now) one) ∙ sym (ap (λ z. plain_of (get t z)) e ∙ ap plain_of one.was))
  | inr differ ↦ ap plain_of (other_row t mid (upward d.tree) p (given_attr d.attr now) one differ)
]

pub gives_plain : (rows : List Dressed) (qs : List Question) (now : Instant) (old new : Tree) (p : Path) → Each IsGiven qs → commands_of qs ≡ gifts rows → Followed old now qs new → plain_of (get new p) ≡ plain_of (get old p)
gives_plain rows qs now old new p given is followed = rows_plain now rows old new p (rows_done now rows old new (subst (λ cs. AllDone old now cs new) is (done_follows now qs old new (given_done qs given) followed)))

-- ---- the rows of a tour

-- they lie at the same place below the two paths, and have the told attributes
abbrev AreTold : Tree → HostPath → List Dressed → Type 0
AreTold t q [] = Unit {0}
AreTold t q (d ∷ ds) = ((n : List ℕ) × ((r : HostPath) × ((d.host ≡ n ∷ r) × ((d.tree ≡ q ++ n ∷ r) × (attr_in (get t (upward d.host)) ≡ Some d.attr))))) × AreTold t q ds

abbrev pub HasHost : HostPath → List Dressed → Type 0
HasHost p [] = ⊥
HasHost p (d ∷ ds) = (d.host ≡ p) ⊎ HasHost p ds

told_append : (t : Tree) (q : HostPath) (ds es : List Dressed) → AreTold t q ds → AreTold t q es → AreTold t q (ds ++ es)
told_append t q [] es h g = g
told_append t q (d ∷ ds) es h g = (h.0, told_append t q ds es h.1 g)

host_left : (p : HostPath) (ds es : List Dressed) → HasHost p ds → HasHost p (ds ++ es)
host_left p [] es h = absurd h
host_left p (d ∷ ds) es (inl e) = inl e
host_left p (d ∷ ds) es (inr h) = inr (host_left p ds es h)

host_right : (p : HostPath) (ds es : List Dressed) → HasHost p es → HasHost p (ds ++ es)
host_right p [] es h = h
host_right p (d ∷ ds) es h = inr (host_right p ds es h)

pub cons_of : (p : HostPath) (x : List ℕ) → (n : List ℕ) × ((r : HostPath) × (p ++ x ∷ [] ≡ n ∷ r))
cons_of [] x = (x, ([], refl))
cons_of (m ∷ p) x = (m, (p ++ x ∷ [], refl))

pub child_up : (p : HostPath) (n : List ℕ) → upward (p ++ n ∷ []) ≡ n ∷ upward p
child_up p n = reverse-append p (n ∷ [])

module _ (t : Tree) (q : HostPath) where
  rows_told : (B : HostPath → HostPath → List Dressed → Type 0) → ((p to : HostPath) (ds : List Dressed) → to ≡ q ++ p → B p to ds → AreTold t q ds) → (p to : HostPath) → to ≡ q ++ p → (es : List (List ℕ × Row)) (ds : List Dressed) → AreFound (λ n. get t (n ∷ upward p)) es → RowsTour B p to (map attributed es) ds → AreTold t q ds
  rows_told B told p to at [] ds f h = subst (AreTold t q) (sym h) tt
  rows_told B told p to at (e ∷ es) ds f (below, (rest, (tour, (more, is)))) =
      let child : to ++ e.0 ∷ [] ≡ q ++ (p ++ e.0 ∷ []) = ap (λ z. z ++ e.0 ∷ []) at ∙ append_assoc q p (e.0 ∷ []) in
      let first = cons_of p e.0 in
      subst (AreTold t q) (sym is) (told_append t q below (dressed p to (attributed e) ∷ rest) (by e.1.attr.kind below child tour) (
        (first.0, (first.1.0, (first.1.1, (child ∙ ap (λ z. q ++ z) first.1.1, ap (λ z. attr_in (get t z)) (child_up p e.0) ∙ ap attr_in f.0)))),
        rows_told B told p to at es rest f.1 more,
      ))
    where
      by : (k : Kind) (ds : List Dressed) → to ++ e.0 ∷ [] ≡ q ++ (p ++ e.0 ∷ []) → BelowIs k (B (p ++ e.0 ∷ []) (to ++ e.0 ∷ [])) ds → AreTold t q ds
      by Directory ds child h = told (p ++ e.0 ∷ []) (to ++ e.0 ∷ []) ds child h
      by File ds child h = subst (AreTold t q) (sym h) tt
      by Link ds child h = subst (AreTold t q) (sym h) tt

  tour_told : (depth : ℕ) (p to : HostPath) (ds : List Dressed) → to ≡ q ++ p → IsTour depth (told_kids t) p to ds → AreTold t q ds
  tour_told zero p to ds at h = absurd h
  tour_told (suc depth) p to ds at h = rows_told (IsTour depth (told_kids t)) (tour_told depth) p to at (entries (children t (upward p))) ds (kids_found t p) h

-- ---- no row of the folder is missed

module _ (t : Tree) (folders : HasFolders t) where
  some_folder : (o : Option Row) → is_folder o ≡ true → is_some o ≡ true
  some_folder None h = let bad : false ≡ true = h in cc
  some_folder (Some row) h = refl

  up_some : (ss : Path) (n : List ℕ) (p : Path) → is_some (get t (ss ++ n ∷ p)) ≡ true → is_some (get t (n ∷ p)) ≡ true
  up_some [] n p h = h
  up_some (m ∷ ss) n p h = up_some ss n p (some_folder (get t (ss ++ n ∷ p)) (folders m (ss ++ n ∷ p) h))

  -- the names from a directory's child on, the last one first
  long_up : (p : HostPath) (n m : List ℕ) (s : HostPath) → upward (p ++ n ∷ m ∷ s) ≡ reverse s ++ m ∷ n ∷ upward p
  long_up p n m s =
      ap reverse (sym (append_assoc p (n ∷ m ∷ []) s))
      ∙ (reverse-append (p ++ n ∷ m ∷ []) s
      ∙ ap (λ z. reverse s ++ z) (reverse-append p (n ∷ m ∷ [])))

  deep_folder : (p : HostPath) (n m : List ℕ) (s : HostPath) (row : Row) → get t (upward (p ++ n ∷ m ∷ s)) ≡ Some row → is_folder (get t (n ∷ upward p)) ≡ true
  deep_folder p n m s row h = folders m (n ∷ upward p) (up_some (reverse s) m (n ∷ upward p) (ap is_some (sym (ap (get t) (long_up p n m s)) ∙ h)))

  folder_row : (o : Option Row) → is_folder o ≡ true → (x : Row) × ((o ≡ Some x) × (x.attr.kind ≡ Directory))
  folder_row None h = let bad : false ≡ true = h in cc
  folder_row (Some x) h = (x, (refl, by x.attr.kind h))
    where
      by : (k : Kind) → is_directory k ≡ true → k ≡ Directory
      by Directory e = refl
      by File e = let bad : false ≡ true = e in cc
      by Link e = let bad : false ≡ true = e in cc

  found_kid : (p : HostPath) (n : List ℕ) (x : Row) → get t (n ∷ upward p) ≡ Some x → find name_cmp n (entries (children t (upward p))) ≡ Some x
  found_kid p n x h = sym (get-entries (children t (upward p)) n) ∙ (get-children t (upward p) n ∙ h)

  head_is : (b : Bool) (x y : Row) (o : Option Row) → b ≡ true → cond b (Some y) o ≡ Some x → y ≡ x
  head_is true x y o e h = one_of y x h
  head_is false x y o e h = let bad : false ≡ true = e in cc

  tail_is : (b : Bool) (x y : Row) (o : Option Row) → b ≡ false → cond b (Some y) o ≡ Some x → o ≡ Some x
  tail_is true x y o e h = let bad : true ≡ false = e in cc
  tail_is false x y o e h = h

  own_covered : (B : HostPath → HostPath → List Dressed → Type 0) (p to : HostPath) (n : List ℕ) (x : Row) (es : List (List ℕ × Row)) (ds : List Dressed) → find name_cmp n es ≡ Some x → RowsTour B p to (map attributed es) ds → HasHost (p ++ n ∷ []) ds
  own_covered B p to n x [] ds f h = let bad : None ≡ Some x = f in cc
  own_covered B p to n x (e ∷ es) ds f (below, (rest, (tour, (more, is)))) = subst (HasHost (p ++ n ∷ [])) (sym is) (host_right (p ++ n ∷ []) below (dressed p to (attributed e) ∷ rest) (elim (name_split n e.0) [
    | inl same ↦ inl (ap (λ (z : List ℕ). p ++ z ∷ []) (sym same))
    | inr differ ↦ inr (own_covered B p to n x es rest (tail_is (eq_by_cmp name_cmp n e.0) x e.1 (find name_cmp n es) (name_apart n e.0 differ) f) more)
  ]))

  deep_covered : (B : HostPath → HostPath → List Dressed → Type 0) (p to : HostPath) (n : List ℕ) (path : HostPath) (x : Row) → x.attr.kind ≡ Directory → ((ds : List Dressed) → B (p ++ n ∷ []) (to ++ n ∷ []) ds → HasHost path ds) → (es : List (List ℕ × Row)) (ds : List Dressed)
      → find name_cmp n es ≡ Some x → RowsTour B p to (map attributed es) ds → HasHost path ds
  deep_covered B p to n path x k below_has [] ds f h = let bad : None ≡ Some x = f in cc
  deep_covered B p to n path x k below_has (e ∷ es) ds f (below, (rest, (tour, (more, is)))) = subst (HasHost path) (sym is) (elim (name_split n e.0) [
    | inl same ↦ host_left path below (dressed p to (attributed e) ∷ rest) (below_has below (by e.1.attr.kind (ap (λ (r : Row). r.attr.kind) (head_is (eq_by_cmp name_cmp n e.0) x e.1 (find name_cmp n es) (ap (λ z. eq_by_cmp name_cmp z e.0) same ∙ name_same e.0) f) ∙ k)
        (subst (λ (z : List ℕ). BelowIs e.1.attr.kind (B (p ++ z ∷ []) (to ++ z ∷ [])) below) (sym same) tour)))
    | inr differ ↦ host_right path below (dressed p to (attributed e) ∷ rest) (inr (deep_covered B p to n path x k below_has es rest (tail_is (eq_by_cmp name_cmp n e.0) x e.1 (find name_cmp n es) (name_apart n e.0 differ) f) more))
  ])
    where
      by : (kind : Kind) → kind ≡ Directory → BelowIs kind (B (p ++ n ∷ []) (to ++ n ∷ [])) below → B (p ++ n ∷ []) (to ++ n ∷ []) below
      by Directory e h = h
      by File e h = let bad : File ≡ Directory = e in cc
      by Link e h = let bad : Link ≡ Directory = e in cc

  pub covers : (depth : ℕ) (p to : HostPath) (ds : List Dressed) → IsTour depth (told_kids t) p to ds → (n : List ℕ) (s : HostPath) (row : Row) → get t (upward (p ++ n ∷ s)) ≡ Some row → HasHost (p ++ n ∷ s) ds
  covers zero p to ds h n s row is = absurd h
  covers (suc depth) p to ds h n [] row is = own_covered (IsTour depth (told_kids t)) p to n row (entries (children t (upward p))) ds (found_kid p n row (sym (ap (get t) (child_up p n)) ∙ is)) h
  covers (suc depth) p to ds h n (m ∷ s) row is =
      let x = folder_row (get t (n ∷ upward p)) (deep_folder p n m s row is) in
      deep_covered (IsTour depth (told_kids t)) p to n (p ++ n ∷ m ∷ s) x.0 x.1.1
      (λ es tour. subst (λ z. HasHost z es) (append_assoc p (n ∷ []) (m ∷ s)) (covers depth (p ++ n ∷ []) (to ++ n ∷ []) es tour m s row (ap (λ z. get t (upward z)) (append_assoc p (n ∷ []) (m ∷ s)) ∙ is)))
      (entries (children t (upward p))) ds (found_kid p n x.0 x.1.0) h

-- ---- the law

pub up_same : (p r : HostPath) → upward p ≡ upward r → p ≡ r
up_same p r e = sym (reverse-reverse p) ∙ (ap reverse e ∙ reverse-reverse r)

pub attr_same : (o : Option Row) (row : Row) (attr : Attr) → o ≡ Some row → attr_in o ≡ Some attr → attr ≡ row.attr
attr_same o row attr is h = ap (λ z. of z) (sym h ∙ ap attr_in is)
  where
    of : Option Attr → Attr
    of (Some a) = a
    of None = attr

agrees : (t : Tree) (q : HostPath) (n : List ℕ) (r : HostPath) (row : Row) → get t (upward (n ∷ r)) ≡ Some row → (ds : List Dressed) → AreTold t q ds → Agree (upward (q ++ n ∷ r)) row.attr ds
agrees t q n r row is [] h = tt
agrees t q n r row is (d ∷ ds) ((m, (s, (host, (tree, attr)))), more) = (
  λ e.
      let same : n ∷ r ≡ m ∷ s = append_cancel_left q (n ∷ r) (m ∷ s) (up_same (q ++ n ∷ r) d.tree e ∙ tree) in
      attr_same (get t (upward d.host)) row d.attr (ap (λ z. get t (upward z)) (host ∙ sym same) ∙ is) attr,
  agrees t q n r row is ds more,
)

in_rows : (t : Tree) (q : HostPath) (n : List ℕ) (r : HostPath) (ds : List Dressed) → AreTold t q ds → HasHost (n ∷ r) ds → InRows (upward (q ++ n ∷ r)) ds
in_rows t q n r [] h i = absurd i
in_rows t q n r (d ∷ ds) ((m, (s, (host, (tree, attr)))), more) (inl e) = inl (ap upward (ap (λ z. q ++ z) (sym e ∙ host) ∙ sym tree))
in_rows t q n r (d ∷ ds) (first, more) (inr i) = inr (in_rows t q n r ds more i)

some_attr : (o : Option Row) (attr : Attr) → attr_in o ≡ Some attr → is_some o ≡ true
some_attr None attr h = let bad : None ≡ Some attr = h in cc
some_attr (Some row) attr h = refl

apart_rows : (t : Tree) (q : HostPath) (p : Path) → ((n : List ℕ) (r : HostPath) → is_some (get t (upward (n ∷ r))) ≡ true → p ≢ upward (q ++ n ∷ r)) → (ds : List Dressed) → AreTold t q ds → InRows p ds → ⊥
apart_rows t q p apart [] h i = i
apart_rows t q p apart (d ∷ ds) ((m, (s, (host, (tree, attr)))), more) (inl e) = apart m s (ap (λ z. is_some (get t (upward z))) (sym host) ∙ some_attr (get t (upward d.host)) d.attr attr) (e ∙ ap upward tree)
apart_rows t q p apart (d ∷ ds) (first, more) (inr i) = apart_rows t q p apart ds more i

pub gives_all : GivesAll
gives_all t q depth rows qs now old new folders tour given is followed =
    let all = rows_done now rows old new (subst (λ cs. AllDone old now cs new) is (done_follows now qs old new (given_done qs given) followed)) in
    let told = tour_told t q depth [] q rows (sym (append-nil q)) tour in
    record {
      each = λ n r row there. given_here now rows old new (upward (q ++ n ∷ r)) row.attr all (agrees t q n r row there rows told) (in_rows t q n r rows told (covers t folders depth [] q rows tour n r row there));
      rest = λ p apart. untouched now rows old new p all (apart_rows t q p apart rows told);
    }
