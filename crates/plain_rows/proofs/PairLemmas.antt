-- Directories at other paths.
use Rattle.std.proofs.Common.{◌≡◌, ℕ, suc, zero, ◌+◌, ◌-◌, ◌<◌, ◌≤◌, ◌++◌, length, take, drop, get_or, map, cond, T, List, [], ◌∷◌, refl, sym, ◌∙◌, ap, subst, arith}
use Rattle.std.proofs.lemmas.List.{get_or-take}
use Rattle.std.specs.Global.{Box}
use Rattle.std.specs.FinMap.{find, is_sorted}
use Rattle.std.specs.FinMap.Entries.{put, find-put, is_sorted-put}
use Rattle.std.specs.declared.option.Option.TheVariants.{Some}
use Rattle.fs_model.specs.Tree.{Path, upward, name_cmp, path_cmp, same_path, entries_size}
use Rattle.fs_model.proofs.TreeLemmas.{path_total}
use Rattle.plain_rows.specs.declared.rows.Folder.{Folder}
use Rattle.plain_rows.specs.Rows.{Names, names_of, item_entry, folder_entry}
use Rattle.plain_rows.specs.Formed.{IsFull, AllFull}
use Rattle.plain_rows.specs.Moves.{paired}

-- the pair at an index, and those after it
pub paired-drop : (ps : List (List (List ℕ))) (fs : List (Box Folder)) (k : ℕ) (p : List (List ℕ)) (f : Box Folder) → k < length fs → k < length ps → p ≡ get_or ps k p → f ≡ get_or fs k f
    → drop k (paired ps fs) ≡ (upward p, names_of f.value) ∷ drop (suc k) (paired ps fs)
paired-drop [] fs k p f a b e g = absurd (omega arith)
paired-drop (q ∷ ps) [] k p f a b e g = absurd (omega arith)
paired-drop (q ∷ ps) (h ∷ fs) zero p f a b e g = ap (λ z. (upward z, names_of h.value) ∷ paired ps fs) (sym e) ∙ ap (λ z. (upward p, names_of z.value) ∷ paired ps fs) (sym g)
paired-drop (q ∷ ps) (h ∷ fs) (suc k) p f a b e g = paired-drop ps fs k p f (omega arith) (omega arith) e g

pub length-paired : (ps : List (List (List ℕ))) (fs : List (Box Folder)) → length ps ≡ length fs → length (paired ps fs) ≡ length fs
length-paired [] [] e = refl
length-paired [] (f ∷ fs) e = absurd (omega arith)
length-paired (p ∷ ps) [] e = absurd (omega arith)
length-paired (p ∷ ps) (f ∷ fs) e = let rest = length-paired ps fs (omega arith) in omega arith

-- one pair more is found; g is f at the path p
pub found_more : (old new : List (Box Folder)) (ps : List (List (List ℕ))) (fs : List (Box Folder)) (k n : ℕ) (p : List (List ℕ)) (f g : Box Folder) → n ≡ k + 1 → k < length fs → k < length ps → p ≡ get_or ps k p → f ≡ get_or fs k f
    → g.value.path ≡ p → g.value.items ≡ f.value.items
    → map folder_entry new ≡ put path_cmp (upward g.value.path) (names_of g.value) (map folder_entry old)
    → ((r : Path) → find path_cmp r (map folder_entry old) ≡ find path_cmp r (drop n (paired ps fs)))
    → (r : Path) → find path_cmp r (map folder_entry new) ≡ find path_cmp r (drop k (paired ps fs))
found_more old new ps fs k n p f g e a b hp hf path items after before r =
    let next : n ≡ suc k = omega arith in
    let named : names_of g.value ≡ names_of f.value = ap (λ v. map item_entry v.items) items in
    ap (find path_cmp r) (after ∙ (ap (λ z. put path_cmp (upward z) (names_of g.value) (map folder_entry old)) path ∙ ap (λ z. put path_cmp (upward p) z (map folder_entry old)) named))
    ∙ (find-put path_cmp path_total r (upward p) (names_of f.value) (map folder_entry old)
    ∙ (ap (cond (same_path r (upward p)) (Some (names_of f.value))) (before r ∙ ap (λ j. find path_cmp r (drop j (paired ps fs))) next)
    ∙ sym (ap (find path_cmp r) (paired-drop ps fs k p f a b hp hf))))

pub sorted_more : (old new : List (Box Folder)) (g : Box Folder) → map folder_entry new ≡ put path_cmp (upward g.value.path) (names_of g.value) (map folder_entry old) → T (is_sorted path_cmp (map folder_entry old)) → T (is_sorted path_cmp (map folder_entry new))
sorted_more old new g e h = subst (λ es. T (is_sorted path_cmp es)) (sym e) (is_sorted-put {X = Names} path_cmp path_total (upward g.value.path) (names_of g.value) (map folder_entry old) h)

-- the last element taken off the first n
pub popped : {X : Type 0} (all now rest : List X) (n k : ℕ) (x : X) → now ≡ take n all → n ≡ k + 1 → n ≤ length all → rest ≡ take (n - 1) now → Some x ≡ Some (get_or now (n - 1) x) → (rest ≡ take k all) × (x ≡ get_or all k x)
popped all now rest n k x is e le front last =
    let less : n - 1 ≡ k = omega arith in
    let value : x ≡ get_or now (n - 1) x = cc in (
      front ∙ (ap (take (n - 1)) is ∙ (ap (λ j. take j (take n all)) less ∙ take_front k n all (omega arith))),
      value ∙ (ap (λ xs. get_or xs (n - 1) x) is ∙ (ap (λ j. get_or (take n all) j x) less ∙ get_or-take n all k x (omega arith))),
    )
  where
    take_front : {X : Type 0} (k n : ℕ) (xs : List X) → k ≤ n → take k (take n xs) ≡ take k xs
    take_front zero n [] le = refl
    take_front zero n (x ∷ xs) le = refl
    take_front (suc k) zero xs le = absurd (omega arith)
    take_front (suc k) (suc n) [] le = refl
    take_front (suc k) (suc n) (x ∷ xs) le = ap (λ ys. x ∷ ys) (take_front k n xs (omega arith))

-- a directory at another path
pub full_moved : (f g : Folder) → g.items ≡ f.items → g.size ≡ f.size → IsFull f → IsFull g
full_moved f g items size full =
    let named : names_of g ≡ names_of f = ap (λ v. map item_entry v.items) items in
    record {
      sorted = subst (λ es. T (is_sorted name_cmp es)) (sym named) full.sorted;
      some = let same = ap (λ v. length v.items) items in let some = full.some in omega arith;
      size = size ∙ (full.size ∙ ap entries_size (sym named));
    }

pub full-last : (fs : List (Box Folder)) (f : Box Folder) → AllFull (fs ++ f ∷ []) → AllFull fs × IsFull f.value
full-last [] f h = (tt, h.0)
full-last (g ∷ fs) f h = let rest = full-last fs f h.1 in ((h.0, rest.0), rest.1)
