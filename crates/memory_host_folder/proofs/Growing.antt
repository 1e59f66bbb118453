-- A folder's tree with one row more, or another.
use Rattle.std.proofs.Common.{◌≡◌, inl, inr, ℕ, ◌-◌, ◌≤◌, Bool, true, false, List, [], ◌∷◌, ◌++◌, length, take, refl, sym, ◌∙◌, ap, subst, arith, Bor}
use Rattle.std.specs.Prelude.{is_some, Some, None, IfSome, IsTrue, All, ◌||◌, not, option_map}
use Rattle.std.proofs.lemmas.List.{take-append-le, take_all, length-append, get_or_push}
use Rattle.std.specs.FinMap.{get, insert, empty, get-empty, same_map}
use Rattle.std.specs.declared.option.Option.{Option}
use Rattle.fs_model.specs.declared.attr.Kind.{Kind}
use Rattle.fs_model.specs.declared.attr.Kind.TheVariants.{Directory, File, Link}
use Rattle.fs_model.specs.Fitting.{is_target}
use Rattle.fs_model.specs.Names.{IsName}
use Rattle.fs_model.specs.Step.{by_kind}
use Rattle.fs_model.specs.Tree.{path_cmp, empty_tree, is_root, root_row, upward}
use Rattle.fs_model.proofs.TreeLemmas.{path_total, path_exact, path_split}
use Rattle.fs_model.proofs.PathLemmas.{not_root}
use Rattle.host_attributes.specs.host_folder.Folders.{HostRow, HostPath, HostTree, IsHostTree, HasTarget, directory_row}
use Rattle.host_attributes.proofs.host_folder_lemmas.Inserts.{here, other}
use Rattle.memory_host_folder.specs.States.{is_file, is_folder, make_fails}
use Rattle.memory_host_folder.specs.Told.{told_by}
use Rattle.memory_host_folder.proofs.Turned.{get_told, told_insert, host_in}

abbrev row_or : HostRow → Option HostRow → HostRow
row_or x None = x
row_or x (Some y) = y

same_row : (x y : HostRow) → Some x ≡ Some y → x ≡ y
same_row x y e = ap (row_or x) e

pub grown : (t : HostTree) (p : HostPath) (row : HostRow) → IsHostTree t → (row.kind ≡ Directory → row.bytes ≡ []) → (row.kind ≡ Link → IsTrue (is_target row.bytes))
    → (get t p ≡ Some directory_row → ⊥) → ((q : HostPath) (n : List ℕ) → q ++ n ∷ [] ≡ p → get t q ≡ Some directory_row)
    → ((q : HostPath) (n : List ℕ) → q ++ n ∷ [] ≡ p → IsName n) → IsHostTree (insert t p row)
grown t p row h plain target differs above named = record {
  root = keeps [] h.root;
  parents = λ q n is. elim (path_split (q ++ n ∷ []) p) [
    | inl e ↦ keeps q (above q n e)
    | inr d ↦ keeps q (h.parents q n (ap is_some (sym (other t p row (q ++ n ∷ []) d)) ∙ is))
  ];
  names = λ q n is. elim (path_split (q ++ n ∷ []) p) [
    | inl e ↦ named q n e
    | inr d ↦ h.names q n (ap is_some (sym (other t p row (q ++ n ∷ []) d)) ∙ is)
  ];
  plain = λ q r is. elim (path_split q p) [
    | inl e ↦ subst (λ z. z.kind ≡ Directory → z.bytes ≡ []) (at q r e is) plain
    | inr d ↦ h.plain q r (sym (other t p row q d) ∙ is)
  ];
  targets = λ q r is. elim (path_split q p) [
    | inl e ↦ subst (λ z. z.kind ≡ Link → IsTrue (is_target z.bytes)) (at q r e is) target
    | inr d ↦ h.targets q r (sym (other t p row q d) ∙ is)
  ];
}
  where
    keeps : (q : HostPath) → get t q ≡ Some directory_row → get (insert t p row) q ≡ Some directory_row
    keeps q is = other t p row q (λ e. differs (ap (get t) (sym e) ∙ is)) ∙ is

    at : (q : HostPath) (r : HostRow) → q ≡ p → get (insert t p row) q ≡ Some r → row ≡ r
    at q r e is = same_row row r (sym (here t p row) ∙ (ap (get (insert t p row)) (sym e) ∙ is))

front_of : (q : HostPath) (n : List ℕ) → take (length (q ++ n ∷ []) - 1) (q ++ n ∷ []) ≡ q
front_of q n =
    let long = length-append q (n ∷ []) in
    let less : length q ≤ length q = omega arith in
    ap (λ k. take k (q ++ n ∷ [])) (omega (arith, long)) ∙ (take-append-le (length q) q (n ∷ []) less ∙ take_all (length q) q less)

last_name : (q : HostPath) (n : List ℕ) → All IsName (q ++ n ∷ []) → IsName n
last_name q n h =
    let long = length-append q (n ∷ []) in
    subst IsName (get_or_push q n n (length q) refl) (h (length q) n (omega (arith, long)))

is_directory : (t : HostTree) (p : HostPath) (o : Option HostRow) → IsHostTree t → get t p ≡ o → is_folder o ≡ true → get t p ≡ Some directory_row
is_directory t p None h is f = let bad : false ≡ true = f in cc
is_directory t p (Some row) h is f = by row.kind row.bytes is (h.plain p row is) f
  where
    by : (k : Kind) (w : List ℕ) → get t p ≡ Some (record { kind = k; bytes = w }) → (k ≡ Directory → w ≡ []) → by_kind k true false false ≡ true → get t p ≡ Some directory_row
    by Directory w is plain f = is ∙ ap (λ z. Some (record { kind = Directory; bytes = z })) (plain refl)
    by File w is plain f = let bad : false ≡ true = f in cc
    by Link w is plain f = let bad : false ≡ true = f in cc

none_there : (o : Option HostRow) (b : Bool) → (is_some o || b) ≡ false → o ≡ None
none_there None b h = refl
none_there (Some row) b h = let bad : true ≡ false = h in cc

folder_there : (o : Option HostRow) (b : Bool) → (is_some o || not b) ≡ false → b ≡ true
folder_there None true h = refl
folder_there None false h = let bad : true ≡ false = h in cc
folder_there (Some row) b h = let bad : true ≡ false = h in cc

pub free_there : (t : HostTree) (p : HostPath) → make_fails t p ≡ false → get t p ≡ None
free_there t p f = none_there (get t p) (not (is_folder (get t (take (length p - 1) p)))) f

plain_made : (k : Kind) (w : List ℕ) → HasTarget k w → k ≡ Directory → w ≡ []
plain_made Directory w h e = h
plain_made File w h e = let bad : File ≡ Directory = e in cc
plain_made Link w h e = let bad : Link ≡ Directory = e in cc

target_made : (k : Kind) (w : List ℕ) → HasTarget k w → k ≡ Link → IsTrue (is_target w)
target_made Directory w h e = let bad : Directory ≡ Link = e in cc
target_made File w h e = let bad : File ≡ Link = e in cc
target_made Link w h e = h

-- a row that may be made
pub made : (t : HostTree) (p : HostPath) (k : Kind) (w : List ℕ) → IsHostTree t → All IsName p → HasTarget k w → make_fails t p ≡ false → IsHostTree (insert t p (record { kind = k; bytes = w }))
made t p k w h names target f =
    grown t p (record { kind = k; bytes = w }) h (plain_made k w target) (target_made k w target)
    (λ e. let bad : None ≡ Some directory_row = sym (free_there t p f) ∙ e in cc)
    (λ q n e. above q n e)
    (λ q n e. last_name q n (subst (λ z. All IsName z) (sym e) names))
  where
    above : (q : HostPath) (n : List ℕ) → q ++ n ∷ [] ≡ p → get t q ≡ Some directory_row
    above q n e =
        let front = ap (λ z. take (length z - 1) z) (sym e) ∙ front_of q n in
        is_directory t q (get t q) h refl (ap (λ z. is_folder (get t z)) (sym front) ∙ folder_there (get t p) (is_folder (get t (take (length p - 1) p))) f)

-- a file with other bytes
pub filled : (t : HostTree) (p : HostPath) (old new : List ℕ) → IsHostTree t → get t p ≡ Some (record { kind = File; bytes = old }) → IsHostTree (insert t p (record { kind = File; bytes = new }))
filled t p old new h is =
    grown t p (record { kind = File; bytes = new }) h (λ e. let bad : File ≡ Directory = e in cc) (λ e. let bad : File ≡ Link = e in cc)
    (λ e. let bad : File ≡ Directory = ap (λ r. r.kind) (same_row (record { kind = File; bytes = old }) directory_row (sym is ∙ e)) in cc)
    (λ q n e. h.parents q n (there q n e))
    (λ q n e. h.names q n (there q n e))
  where
    there : (q : HostPath) (n : List ℕ) → q ++ n ∷ [] ≡ p → is_some (get t (q ++ n ∷ [])) ≡ true
    there q n e = ap (λ z. is_some (get t z)) e ∙ ap is_some is

-- the root alone
abbrev root_tree : HostTree
root_tree = insert empty [] directory_row

pub told_root : told_by empty_tree ≡ root_tree
told_root = told_insert empty [] root_row ∙ ap (λ t. insert t [] directory_row) none
  where
    none : told_by empty ≡ empty
    none = same_map path_total path_exact _ _ (λ q. get_told empty q ∙ (ap host_in (get-empty path_cmp (upward q)) ∙ sym (get-empty path_cmp q)))

none_below : (p : HostPath) → (p ≡ [] → ⊥) → get root_tree p ≡ None
none_below p d = other empty [] directory_row p d ∙ get-empty path_cmp p

no_end : (p : HostPath) (n : List ℕ) → p ++ n ∷ [] ≡ [] → ⊥
no_end p n e = let long = length-append p (n ∷ []) in let none = ap length e in omega (arith, long, none)

root_alone : (p : HostPath) (row : HostRow) → get root_tree p ≡ Some row → row ≡ directory_row
root_alone p row is = elim (path_split p []) [
  | inl e ↦ same_row row directory_row (sym is ∙ (ap (get root_tree) e ∙ here empty [] directory_row))
  | inr d ↦ (let bad : None ≡ Some row = sym (none_below p d) ∙ is in cc)
]

pub root_is : IsHostTree root_tree
root_is = record {
  root = here empty [] directory_row;
  parents = λ p n is. (let bad : false ≡ true = ap is_some (sym (none_below (p ++ n ∷ []) (no_end p n))) ∙ is in cc);
  names = λ p n is. (let bad : false ≡ true = ap is_some (sym (none_below (p ++ n ∷ []) (no_end p n))) ∙ is in cc);
  plain = λ p row is k. ap (λ r. r.bytes) (root_alone p row is);
  targets = λ p row is k. (let bad : Directory ≡ Link = sym (ap (λ r. r.kind) (root_alone p row is)) ∙ k in cc);
}

some_name : (p : HostPath) (n : List ℕ) → is_root (upward (n ∷ p)) ≡ false
some_name p n = not_root (n ∷ p) (omega arith)

-- a file isn't the root
pub file_named : (t : HostTree) (p : HostPath) (w : List ℕ) → IsHostTree t → get t p ≡ Some (record { kind = File; bytes = w }) → is_root (upward p) ≡ false
file_named t [] w h is = (let bad : Directory ≡ File = ap (λ r. r.kind) (same_row directory_row (record { kind = File; bytes = w }) (sym h.root ∙ is)) in cc)
file_named t (n ∷ p) w h is = some_name p n

pub file_there : (o : Option HostRow) → is_file o ≡ true → (w : List ℕ) × (o ≡ Some (record { kind = File; bytes = w }))
file_there None h = let bad : false ≡ true = h in cc
file_there (Some row) h = by row.kind row.bytes h
  where
    by : (k : Kind) (w : List ℕ) → by_kind k false true false ≡ true → (v : List ℕ) × ◌≡◌ {A = Option HostRow} (Some (record { kind = k; bytes = w })) (Some (record { kind = File; bytes = v }))
    by Directory w h = let bad : false ≡ true = h in cc
    by File w h = (w, refl)
    by Link w h = let bad : false ≡ true = h in cc

-- a link's target fits
pub fits_at : (t : HostTree) (p : HostPath) (r : Option (Kind × Bor (List ℕ))) → option_map (λ row. record { kind = row.0; bytes = row.1.now }) r ≡ get t p → IsHostTree t
    → IfSome r (λ row. row.0 ≡ Link → IsTrue (is_target row.1.now))
fits_at t p None e h = tt
fits_at t p (Some row) e h = λ is. h.targets p (record { kind = row.0; bytes = row.1.now }) (sym e) is
