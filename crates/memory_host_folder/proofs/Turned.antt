-- A tree's rows by paths from the root on.
use Rattle.std.proofs.Common.{◌≡◌, inl, inr, ℕ, Bool, true, false, cond, List, [], ◌∷◌, ◌++◌, map, refl, sym, ◌∙◌, ap}
use Rattle.std.specs.Prelude.{reverse, Some, None}
use Rattle.std.proofs.lemmas.List.{reverse-append, reverse-reverse}
use Rattle.std.specs.FinMap.{get, find, entries, insert, get-from_entries, get-entries, get-insert, same_map}
use Rattle.std.specs.declared.option.Option.{Option}
use Rattle.std.specs.Option.{IsSome}
use Rattle.fs_model.specs.declared.attr.Kind.{Kind}
use Rattle.fs_model.specs.declared.reply.ListRow.{ListRow}
use Rattle.fs_model.specs.Step.{list_row}
use Rattle.fs_model.specs.Tree.{Path, Row, Tree, name_cmp, path_cmp, same_path, upward, children}
use Rattle.fs_model.proofs.TreeLemmas.{path_total, path_exact, path_split, path_same, apart}
use Rattle.host_attributes.specs.host_folder.Folders.{HostRow, HostPath, row_pair, kind_in}
use Rattle.host_attributes.proofs.host_folder_lemmas.Listings.{row_kind, rows_each as listed_each}
use Rattle.memory_host_folder.specs.Told.{host_row, turned, told_by}

abbrev pub host_in : Option Row → Option HostRow
host_in None = None
host_in (Some row) = Some (host_row row)

-- a test of turned paths is that of the paths
same_turned : (p : HostPath) (q : Path) → same_path p (reverse q) ≡ same_path (reverse p) q
same_turned p q = elim (path_split (reverse p) q) [
  | inl e ↦ ap (λ z. same_path p (reverse z)) (sym e) ∙ (ap (same_path p) (reverse-reverse p) ∙ (path_same p ∙ sym (ap (λ z. same_path z q) e ∙ path_same q)))
  | inr differ ↦ apart p (reverse q) (λ e. differ (ap reverse e ∙ reverse-reverse q)) ∙ sym (apart (reverse p) q differ)
]

find_turned : (p : HostPath) (es : List (Path × Row)) → find path_cmp p (map turned es) ≡ host_in (find path_cmp (reverse p) es)
find_turned p [] = refl
find_turned p (e ∷ es) = ap (λ b. cond b (Some (host_row e.1)) (find path_cmp p (map turned es))) (same_turned p e.0) ∙ by (same_path (reverse p) e.0) (find path_cmp p (map turned es)) (find path_cmp (reverse p) es) (find_turned p es)
  where
    by : (b : Bool) (o : Option HostRow) (r : Option Row) → o ≡ host_in r → cond b (Some (host_row e.1)) o ≡ host_in (cond b (Some e.1) r)
    by true o r h = refl
    by false o r h = h

pub get_told : (t : Tree) (p : HostPath) → get (told_by t) p ≡ host_in (get t (upward p))
unfolding told_by
get_told t p = get-from_entries path_total (map turned (entries t)) p ∙ (find_turned p (entries t) ∙ sym (ap host_in (get-entries t (reverse p))))

in_cond : (b : Bool) (x : Row) (o : Option Row) → host_in (cond b (Some x) o) ≡ cond b (Some (host_row x)) (host_in o)
in_cond true x o = refl
in_cond false x o = refl

pub told_insert : (t : Tree) (p : HostPath) (row : Row) → told_by (insert t (upward p) row) ≡ insert (told_by t) p (host_row row)
told_insert t p row = same_map path_total path_exact _ _ (λ q.
    get_told (insert t (upward p) row) q
    ∙ (ap host_in (get-insert path_total t (upward p) row (upward q))
    ∙ (in_cond (same_path (upward q) (upward p)) row (get t (upward q))
    ∙ (ap (λ b. cond b (Some (host_row row)) (host_in (get t (upward q)))) (sym (same_turned q (upward p)) ∙ ap (same_path q) (reverse-reverse p))
    ∙ (ap (cond (same_path q p) (Some (host_row row))) (sym (get_told t q))
    ∙ sym (get-insert path_total (told_by t) p (host_row row) q))))))

pub none_told : (t : Tree) (p : HostPath) → get (told_by t) p ≡ None → get t (upward p) ≡ None
none_told t p h = by (get t (upward p)) (sym (get_told t p) ∙ h)
  where
    by : (o : Option Row) → host_in o ≡ None → o ≡ None
    by None h = refl
    by (Some row) h = let bad : Some (host_row row) ≡ None = h in cc

pub some_told : (t : Tree) (p : HostPath) (row : HostRow) → get (told_by t) p ≡ Some row → IsSome (get t (upward p))
some_told t p row h = by (get t (upward p)) (sym (get_told t p) ∙ h)
  where
    by : (o : Option Row) → host_in o ≡ Some row → IsSome o
    by None h = let bad : None ≡ Some row = h in cc
    by (Some r) h = refl

pub told_next : (t next : Tree) (p : HostPath) (row : Row) (k : Kind) → next ≡ insert t (upward p) row → row.attr.kind ≡ k → told_by next ≡ insert (told_by t) p (record { kind = k; bytes = row.bytes })
told_next t next p row k e is = ap told_by e ∙ (told_insert t p row ∙ ap (λ z. insert (told_by t) p (record { kind = z; bytes = row.bytes })) is)

-- the rows of a listing
kind_told : (o : Option Row) → row_kind o ≡ kind_in (host_in o)
kind_told None = refl
kind_told (Some row) = refl

pub rows_each : (t : Tree) (p : HostPath) (rows : List ListRow) → rows ≡ map list_row (entries (children t (upward p)))
    → (n : List ℕ) → find name_cmp n (map row_pair rows) ≡ kind_in (get (told_by t) (p ++ n ∷ []))
rows_each t p rows is n =
    listed_each t (upward p) rows is n
    ∙ (kind_told (get t (n ∷ upward p))
    ∙ (ap (λ z. kind_in (host_in (get t z))) (sym (reverse-append p (n ∷ [])))
    ∙ sym (ap kind_in (get_told t (p ++ n ∷ [])))))
