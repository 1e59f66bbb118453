-- What stands below a path of a tree, as a folder's tree.
use Rattle.std.proofs.Common.{◌≡◌, inl, inr, ℕ, true, false, cond, List, [], ◌∷◌, ◌++◌, refl, sym, ◌∙◌, ap, subst}
use Rattle.std.specs.Prelude.{reverse, is_some, Some, None, IsTrue}
use Rattle.std.proofs.lemmas.List.{reverse-append, reverse-reverse, append_cancel_left}
use Rattle.std.specs.FinMap.{get, find, entries, from_entries, get-from_entries, get-entries}
use Rattle.std.specs.declared.option.Option.{Option}
use Rattle.fs_model.specs.declared.attr.Kind.{Kind}
use Rattle.fs_model.specs.declared.attr.Kind.TheVariants.{Directory, File, Link}
use Rattle.fs_model.specs.Fitting.{is_target}
use Rattle.fs_model.specs.Tree.{Path, Row, Tree, FitsKind, IsWellFormed, is_directory, is_folder, path_cmp, same_path, upward}
use Rattle.fs_model.proofs.TreeLemmas.{path_total, path_split, path_same, apart, name_split}
use Rattle.host_folder.specs.Folders.{HostRow, HostPath, HostTree, IsHostTree, directory_row}
use Rattle.copy_laws.specs.Importing.{plain_of}

abbrev plain : Row → HostRow
plain row = record { kind = row.attr.kind; bytes = row.bytes }

-- whether the path stands below q, and where
data IsBelow (q p : HostPath) : Type 0 where
  Below : (n : List ℕ) (r : HostPath) → p ≡ q ++ n ∷ r → IsBelow q p
  Other : ((n : List ℕ) (r : HostPath) → p ≡ q ++ n ∷ r → ⊥) → IsBelow q p

no_names : (n : List ℕ) (r : HostPath) → [] ≡ n ∷ r → ⊥
no_names n r e = cc

abbrev longer : (a : List ℕ) (q p : HostPath) → IsBelow q p → IsBelow (a ∷ q) (a ∷ p)
longer a q p (Below n r e) = Below n r (ap (λ z. a ∷ z) e)
longer a q p (Other never) = Other (λ n r e. never n r (tail e))
  where
    tail : {s : HostPath} → a ∷ p ≡ a ∷ s → p ≡ s
    tail e = cc

other_name : (a b : List ℕ) (q p : HostPath) → (a ≡ b → ⊥) → IsBelow (a ∷ q) (b ∷ p)
other_name a b q p differ = Other (λ n r e. differ (head e))
  where
    head : {s : HostPath} → b ∷ p ≡ a ∷ s → a ≡ b
    head e = cc

place : (q p : HostPath) → IsBelow q p
place [] [] = Other no_names
place [] (n ∷ r) = Below n r refl
place (a ∷ q) [] = Other (λ n r e. cc)
place (a ∷ q) (b ∷ p) = elim (name_split a b) [
  | inl e ↦ subst (λ z. IsBelow (a ∷ q) (z ∷ p)) e (longer a q p (place q p))
  | inr differ ↦ other_name a b q p differ
]

abbrev put : {q p : HostPath} → IsBelow q p → HostRow → List (HostPath × HostRow) → List (HostPath × HostRow)
put (Below n r e) row es = (n ∷ r, row) ∷ es
put (Other never) row es = es

rows_below : HostPath → List (Path × Row) → List (HostPath × HostRow)
rows_below q [] = []
rows_below q (e ∷ es) = put (place q (reverse e.0)) (plain e.1) (rows_below q es)

pub below : Tree → HostPath → HostTree
below t q = from_entries (([], directory_row) ∷ rows_below q (entries t))

find_below : (q : HostPath) (n : List ℕ) (r : HostPath) (es : List (Path × Row)) → find path_cmp (n ∷ r) (rows_below q es) ≡ plain_of (find path_cmp (reverse (q ++ n ∷ r)) es)
unfolding rows_below
find_below q n r [] = refl
find_below q n r (e ∷ es) = by (place q (reverse e.0)) (find_below q n r es)
  where
    same : reverse e.0 ≡ q ++ n ∷ r → same_path (reverse (q ++ n ∷ r)) e.0 ≡ true
    same at = ap (λ z. same_path z e.0) (ap reverse (sym at) ∙ reverse-reverse e.0) ∙ path_same e.0

    other : (reverse e.0 ≡ q ++ n ∷ r → ⊥) → same_path (reverse (q ++ n ∷ r)) e.0 ≡ false
    other differ = apart (reverse (q ++ n ∷ r)) e.0 (λ at. differ (sym (ap reverse at) ∙ reverse-reverse (q ++ n ∷ r)))

    by : (b : IsBelow q (reverse e.0)) → find path_cmp (n ∷ r) (rows_below q es) ≡ plain_of (find path_cmp (reverse (q ++ n ∷ r)) es)
        → find path_cmp (n ∷ r) (put b (plain e.1) (rows_below q es)) ≡ plain_of (cond (same_path (reverse (q ++ n ∷ r)) e.0) (Some e.1) (find path_cmp (reverse (q ++ n ∷ r)) es))
    by (Other never) rest = rest ∙ sym (ap (λ b. plain_of (cond b (Some e.1) (find path_cmp (reverse (q ++ n ∷ r)) es))) (other (never n r)))
    by (Below m s at) rest = elim (path_split (n ∷ r) (m ∷ s)) [
      | inl is ↦
          ap (λ b. cond b (Some (plain e.1)) (find path_cmp (n ∷ r) (rows_below q es))) (ap (same_path (n ∷ r)) (sym is) ∙ path_same (n ∷ r))
          ∙ sym (ap (λ b. plain_of (cond b (Some e.1) (find path_cmp (reverse (q ++ n ∷ r)) es))) (same (at ∙ ap (λ z. q ++ z) (sym is))))
      | inr differ ↦
          ap (λ b. cond b (Some (plain e.1)) (find path_cmp (n ∷ r) (rows_below q es))) (apart (n ∷ r) (m ∷ s) differ)
          ∙ (rest ∙ sym (ap (λ b. plain_of (cond b (Some e.1) (find path_cmp (reverse (q ++ n ∷ r)) es))) (other (λ here. differ (append_cancel_left q (n ∷ r) (m ∷ s) (sym here ∙ at))))))
    ]

pub get_below : (t : Tree) (q : HostPath) (n : List ℕ) (r : HostPath) → get (below t q) (n ∷ r) ≡ plain_of (get t (upward (q ++ n ∷ r)))
unfolding below
get_below t q n r = get-from_entries path_total (([], directory_row) ∷ rows_below q (entries t)) (n ∷ r) ∙ (find_below q n r (entries t) ∙ sym (ap plain_of (get-entries t (upward (q ++ n ∷ r)))))

pub get_top : (t : Tree) (q : HostPath) → get (below t q) [] ≡ Some directory_row
unfolding below rows_below
get_top t q = get-from_entries path_total (([], directory_row) ∷ rows_below q (entries t)) []

-- a child of a path below
pub get_child : (t : Tree) (q p : HostPath) (n : List ℕ) → get (below t q) (p ++ n ∷ []) ≡ plain_of (get t (n ∷ upward (q ++ p)))
get_child t q [] n = get_below t q n [] ∙ ap (λ z. plain_of (get t z)) (reverse-append q (n ∷ []) ∙ ap (λ z. n ∷ reverse z) (sym (nil q)))
  where
    nil : (w : HostPath) → w ++ [] ≡ w
    nil [] = refl
    nil (x ∷ w) = ap (λ z. x ∷ z) (nil w)
get_child t q (m ∷ s) n = get_below t q m (s ++ n ∷ []) ∙ ap (λ z. plain_of (get t z)) (ap reverse (assoc q) ∙ reverse-append (q ++ m ∷ s) (n ∷ []))
  where
    assoc : (w : HostPath) → w ++ m ∷ (s ++ n ∷ []) ≡ (w ++ m ∷ s) ++ n ∷ []
    assoc [] = refl
    assoc (x ∷ w) = ap (λ z. x ∷ z) (assoc w)

-- the row of the tree that a row below is
row_there : (o : Option Row) (row : HostRow) → plain_of o ≡ Some row → (x : Row) × ((o ≡ Some x) × (plain x ≡ row))
row_there None row h = let bad : None ≡ Some row = h in absurd cc
row_there (Some x) row h = (x, (refl, cc))

some_there : (o : Option Row) → is_some (plain_of o) ≡ true → is_some o ≡ true
some_there None h = h
some_there (Some x) h = refl

empty_bytes : (k : Kind) (w : List ℕ) → FitsKind k w → k ≡ Directory → w ≡ []
empty_bytes Directory w h e = h
empty_bytes File w h e = let bad : File ≡ Directory = e in cc
empty_bytes Link w h e = let bad : Link ≡ Directory = e in cc

target_bytes : (k : Kind) (w : List ℕ) → FitsKind k w → k ≡ Link → IsTrue (is_target w)
target_bytes Directory w h e = let bad : Directory ≡ Link = e in cc
target_bytes File w h e = let bad : File ≡ Link = e in cc
target_bytes Link w h e = h

directory_there : (o : Option Row) → is_folder o ≡ true → (x : Row) × ((o ≡ Some x) × (x.attr.kind ≡ Directory))
directory_there None h = let bad : false ≡ true = h in absurd cc
directory_there (Some x) h = (x, (refl, by x.attr.kind h))
  where
    by : (k : Kind) → is_directory k ≡ true → k ≡ Directory
    by Directory h = refl
    by File h = let bad : false ≡ true = h in cc
    by Link h = let bad : false ≡ true = h in cc

pub below_is : (t : Tree) (q : HostPath) → IsWellFormed t → IsHostTree (below t q)
below_is t q wf = record {
  root = get_top t q;
  parents = λ p n some. parent p n (some_there (get t (n ∷ upward (q ++ p))) (ap is_some (sym (get_child t q p n)) ∙ some));
  names = λ p n some. wf.names n (upward (q ++ p)) (some_there (get t (n ∷ upward (q ++ p))) (ap is_some (sym (get_child t q p n)) ∙ some));
  plain = λ p row is e. by_plain p row is e;
  targets = λ p row is e. by_target p row is e;
}
  where
    fits : (n : List ℕ) (r : HostPath) (row : HostRow) → get (below t q) (n ∷ r) ≡ Some row → FitsKind row.kind row.bytes
    fits n r row is =
        let found = row_there (get t (upward (q ++ n ∷ r))) row (sym (get_below t q n r) ∙ is) in
        subst (λ (z : HostRow). FitsKind z.kind z.bytes) found.1.1 (wf.rows (upward (q ++ n ∷ r)) found.0 found.1.0).content

    parent : (p : HostPath) (n : List ℕ) → is_some (get t (n ∷ upward (q ++ p))) ≡ true → get (below t q) p ≡ Some directory_row
    parent [] n some = get_top t q
    parent (m ∷ s) n some =
        let found = directory_there (get t (upward (q ++ m ∷ s))) (wf.rooted.parents n (upward (q ++ m ∷ s)) some) in
        let none : found.0.bytes ≡ [] = empty_bytes found.0.attr.kind found.0.bytes (wf.rows (upward (q ++ m ∷ s)) found.0 found.1.0).content found.1.1 in
        get_below t q m s ∙ (ap plain_of found.1.0 ∙ (ap (λ k. Some (record { kind = k; bytes = found.0.bytes })) found.1.1 ∙ ap (λ w. Some (record { kind = Directory; bytes = w })) none))

    top_is : (row : HostRow) → get (below t q) [] ≡ Some row → directory_row ≡ row
    top_is row is = let both : Some directory_row ≡ Some row = sym (get_top t q) ∙ is in cc

    by_plain : (p : HostPath) (row : HostRow) → get (below t q) p ≡ Some row → row.kind ≡ Directory → row.bytes ≡ []
    by_plain [] row is e = sym (ap (λ (z : HostRow). z.bytes) (top_is row is))
    by_plain (n ∷ r) row is e = empty_bytes row.kind row.bytes (fits n r row is) e

    by_target : (p : HostPath) (row : HostRow) → get (below t q) p ≡ Some row → row.kind ≡ Link → IsTrue (is_target row.bytes)
    by_target [] row is e = let bad : Directory ≡ Link = ap (λ (z : HostRow). z.kind) (top_is row is) ∙ e in absurd cc
    by_target (n ∷ r) row is e = target_bytes row.kind row.bytes (fits n r row is) e
