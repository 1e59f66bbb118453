-- The look-up by the longest prefix is the walk from the root on.
use Rattle.std.specs.Prelude.{◌≡◌, ℕ, true, false, cond, List, [], ◌∷◌, is_some}
use Rattle.std.proofs.Common.{refl, sym, ◌∙◌, ap}
use Rattle.std.specs.FinMap.{get}
use Rattle.std.specs.declared.option.Option.{Option}
use Rattle.std.specs.declared.option.Option.TheVariants.{None, Some}
use Rattle.fs_model.specs.declared.error.FsError.TheVariants.{NoEntry, NotDirectory}
use Rattle.fs_model.specs.Tree.{Path, Tree, Row, root_row, parent, same_path, is_directory, is_folder, IsRooted}
use Rattle.fs_model.specs.LookUp.{longest, LookedUp, Found, Free, Bad, missing, seen, look, goes_on, start, walk}
use Rattle.fs_model.proofs.TreeLemmas.{path_same, apart}

longest_here : (t : Tree) (p : Path) → is_some (get t p) ≡ true → longest t p ≡ p
longest_here t [] h = refl
longest_here t (n ∷ p) h = ap (λ b. cond b (n ∷ p) (longest t p)) h

found_on : (row next : Row) → is_directory row.attr.kind ≡ true → Found next ≡ goes_on (Found row) (Some next)
found_on row next h = ap (λ b. cond b (Found next) (Bad NotDirectory)) (sym h)

-- below a path that is there
below_there : (n : List ℕ) (p : Path) (row : Row) → missing (n ∷ p) p (Some row) ≡ goes_on (Found row) None
below_there n p row = ap (λ b. cond (is_directory row.attr.kind) (cond b Free (Bad NoEntry)) (Bad NotDirectory)) (path_same p)

-- below a path that isn't there
below_missing : (n : List ℕ) (p q : Path) (o : Option Row) → (is_some o ≡ true → same_path q p ≡ false) → missing (n ∷ p) q o ≡ goes_on (missing p q o) None
below_missing n p q None h = refl
below_missing n p q (Some row) h =
    ap (λ b. cond (is_directory row.attr.kind) (cond b Free (Bad NoEntry)) (Bad NotDirectory)) (h refl)
    ∙ elim (is_directory row.attr.kind) as (λ b. cond b (Bad NoEntry) (Bad NotDirectory) ≡ goes_on (cond b (cond (same_path q (parent p)) Free (Bad NoEntry)) (Bad NotDirectory)) None) [
      | true ↦ elim (same_path q (parent p)) as (λ c. Bad NoEntry ≡ goes_on (cond c Free (Bad NoEntry)) None) [ true ↦ refl | false ↦ refl ]
      | false ↦ refl
    ]

look_on : (t : Tree) (n : List ℕ) (p : Path) (o next : Option Row) → get t p ≡ o → get t (n ∷ p) ≡ next → (is_some next ≡ true → is_folder o ≡ true)
    → seen t (n ∷ p) next ≡ goes_on (seen t p o) next
look_on t n p None (Some r) e f h = absurd (cc (h refl))
look_on t n p (Some row) (Some r) e f h = found_on row r (h refl)
look_on t n p (Some row) None e f h =
    let l : longest t (n ∷ p) ≡ p = ap (λ o. cond (is_some o) (n ∷ p) (longest t p)) f ∙ longest_here t p (ap is_some e) in
    ap (λ q. missing (n ∷ p) q (get t q)) l ∙ (ap (missing (n ∷ p) p) e ∙ below_there n p row)
look_on t n p None None e f h =
    let l : longest t (n ∷ p) ≡ longest t p = ap (λ o. cond (is_some o) (n ∷ p) (longest t p)) f in
    ap (λ q. missing (n ∷ p) q (get t q)) l
    ∙ below_missing n p (longest t p) (get t (longest t p)) (λ s. apart _ _ (λ same. let bad : false ≡ true = ap is_some (sym e) ∙ (ap (λ q. is_some (get t q)) (sym same) ∙ s) in cc))

-- in a well-formed tree the longest prefix says what walking says
pub look-walk : (t : Tree) → IsRooted t → (p : Path) → look t p ≡ walk t p
look-walk t wf [] = elim (get t []) as (λ o. is_folder o ≡ true → seen t [] o ≡ start o) [ None ↦ λ h. cc | Some row ↦ λ h. refl ] (ap is_folder wf.root)
look-walk t wf (n ∷ p) = look_on t n p _ _ refl refl (wf.parents n p) ∙ ap (λ s. goes_on s (get t (n ∷ p))) (look-walk t wf p)

-- what a look-up that found a row, or a free path, says of the tree
some_found : (t : Tree) (p : Path) (row : Row) (o : Option Row) → get t p ≡ o → seen t p o ≡ Found row → o ≡ Some row
some_found t p row (Some r) e h = ap Some (found_same r row h)
  where
    found_same : (r s : Row) → Found r ≡ Found s → r ≡ s
    found_same r s h = cc
some_found t p row None e h = absurd (not_missing (get t (longest t p)) h)
  where
    not_missing : (o : Option Row) → missing p (longest t p) o ≡ Found row → ⊥
    not_missing None h = cc
    not_missing (Some r) h = elim (is_directory r.attr.kind) as (λ b. cond b (cond (same_path (longest t p) (parent p)) Free (Bad NoEntry)) (Bad NotDirectory) ≡ Found row → ⊥) [
      | true ↦ elim (same_path (longest t p) (parent p)) as (λ b. cond b Free (Bad NoEntry) ≡ Found row → ⊥) [ true ↦ λ h. cc | false ↦ λ h. cc ]
      | false ↦ λ h. cc
    ] h

pub get-found : (t : Tree) (p : Path) (row : Row) → look t p ≡ Found row → get t p ≡ Some row
get-found t p row h = some_found t p row (get t p) refl h

pub look-found : (t : Tree) (p : Path) (row : Row) → get t p ≡ Some row → look t p ≡ Found row
look-found t p row e = ap (seen t p) e

-- a free path is a name below a directory
pub record IsFree (t : Tree) (p : Path) (n : List ℕ) (q : Path) : Type 0 where
  pub path : p ≡ n ∷ q
  pub absent : get t p ≡ None
  pub folder : is_folder (get t q) ≡ true

free_on : (t : Tree) (n : List ℕ) (q : Path) (s : LookedUp) (o : Option Row) → get t (n ∷ q) ≡ o → walk t q ≡ s → (is_folder (get t q) ≡ true → s ≡ walk t q) → goes_on s o ≡ Free → (o ≡ None) × ((row : Row) × (walk t q ≡ Found row) × (is_directory row.attr.kind ≡ true))
free_on t n q (Found row) (Some r) e w f h = absurd (elim (is_directory row.attr.kind) as (λ b. cond b (Found r) (Bad NotDirectory) ≡ Free → ⊥) [ true ↦ λ h. cc | false ↦ λ h. cc ] h)
free_on t n q (Found row) None e w f h = (refl, (row, w, elim (is_directory row.attr.kind) as (λ b. cond b Free (Bad NotDirectory) ≡ Free → b ≡ true) [ true ↦ λ h. refl | false ↦ λ h. cc ] h))
free_on t n q Free o e w f h = cc
free_on t n q (Bad x) o e w f h = cc

pub get-free : (t : Tree) → IsRooted t → (p : Path) → look t p ≡ Free → (n : List ℕ) × ((q : Path) × IsFree t p n q)
get-free t wf [] h = absurd (let bad : Found root_row ≡ Free = sym (look-found t [] root_row wf.root) ∙ h in cc)
get-free t wf (n ∷ q) h =
    let on = free_on t n q (walk t q) (get t (n ∷ q)) refl refl (λ _. refl) (sym (look-walk t wf (n ∷ q)) ∙ h) in
    let there = get-found t q on.1.0 (look-walk t wf q ∙ on.1.1) in
    (n, (q, record { path = refl; absent = on.0; folder = ap is_folder there ∙ on.1.2 }))
