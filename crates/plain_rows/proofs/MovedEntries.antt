-- What is found at a path after a move.
use Rattle.std.proofs.Common.{◌≡◌, ℕ, true, false, cond, List, [], ◌∷◌, ◌++◌, map, refl, sym, ◌∙◌, ap}
use Rattle.std.specs.FinMap.{find}
use Rattle.std.specs.declared.option.Option.{Option}
use Rattle.std.specs.declared.option.Option.TheVariants.{None, Some}
use Rattle.std.specs.Global.{Box}
use Rattle.std.specs.Cmp.{tied_itself}
use Rattle.std.specs.Ordering.{is_eq}
use Rattle.std.specs.FinMap.{get, is_sorted}
use Rattle.std.proofs.Common.{T, length, ◌<◌, arith}
use Rattle.std.proofs.lemmas.Option.{same_Some, none-some}
use Rattle.fs_model.specs.Tree.{Path, Row, upward, path_cmp, name_cmp, same_path}
use Rattle.fs_model.specs.Move.{strip, moved, move_entry}
use Rattle.fs_model.proofs.TreeLemmas.{name_total}
use Rattle.fs_model.proofs.MoveLemmas.{strip-append, find-moved}
use Rattle.plain_rows.specs.declared.rows.Folder.{Folder}
use Rattle.plain_rows.specs.declared.rows.Item.{Item}
use Rattle.plain_rows.specs.Rows.{Names, item_row, item_entry, names_of, folders, inside, tree_of}
use Rattle.plain_rows.specs.Formed.{AllFull, IsOrdered}
use Rattle.plain_rows.specs.Moves.{paired, IsBelowMoved}
use Rattle.plain_rows.proofs.FlatLemmas.{get_named, get_root}

-- directories at the moved paths are the moved directories
pub paired-moved : (p q : Path) (ps : List (List (List ℕ))) (fs : List (Box Folder)) → map upward ps ≡ map (λ f. moved p q (upward f.value.path)) fs → paired ps fs ≡ map (move_entry p q) (folders fs)
paired-moved p q [] [] e = refl
paired-moved p q [] (f ∷ fs) e = cc
paired-moved p q (x ∷ ps) [] e = cc
paired-moved p q (x ∷ ps) (f ∷ fs) e =
    let head : upward x ≡ moved p q (upward f.value.path) = cc in
    let tail : map upward ps ≡ map (λ f. moved p q (upward f.value.path)) fs = cc in
    ap (λ z. (z, names_of f.value) ∷ paired ps fs) head ∙ ap (λ es. (moved p q (upward f.value.path), names_of f.value) ∷ es) (paired-moved p q ps fs tail)

-- a directory that is found has a row
first_row : (es : List (Box Item)) → 0 < length es → (n : List ℕ) × ((row : Row) × (find name_cmp n (map item_entry es) ≡ Some row))
first_row [] h = absurd (omega arith)
first_row (e ∷ es) h = (e.value.name, (item_row e.value, ap (λ r. cond (is_eq r) (Some (item_row e.value)) (find name_cmp e.value.name (map item_entry es))) (tied_itself name_total e.value.name)))

found_full : (fs : List (Box Folder)) → AllFull fs → (u : Path) (es : Names) → find path_cmp u (folders fs) ≡ Some es → (n : List ℕ) × ((row : Row) × (find name_cmp n es ≡ Some row))
found_full [] h u es e = cc
found_full (f ∷ fs) h u es e = elim (same_path u (upward f.value.path)) as (λ b. cond b (Some (names_of f.value)) (find path_cmp u (folders fs)) ≡ Some es → (n : List ℕ) × ((row : Row) × (find name_cmp n es ≡ Some row))) [
  | true ↦ λ k.
      let first = first_row f.value.items.items h.0.some in
      let same : names_of f.value ≡ es = same_Some _ _ k in
      (first.0, (first.1.0, ap (find name_cmp first.0) (sym same) ∙ first.1.1))
  | false ↦ λ k. found_full fs h.1 u es k
] e

-- where no row is below a path, no directory is at or below it
free_of : (fs : List (Box Folder)) (q : Path) → IsOrdered fs → ((s : Path) (n : List ℕ) → get (tree_of fs) (n ∷ (s ++ q)) ≡ None) → (s : Path) → find path_cmp (s ++ q) (folders fs) ≡ None
free_of fs q ordered bare s = elim (find path_cmp (s ++ q) (folders fs)) as (λ o. find path_cmp (s ++ q) (folders fs) ≡ o → o ≡ None) [
  | None ↦ λ e. refl
  | Some es ↦ λ e.
      let row = found_full fs ordered.full (s ++ q) es e in
      absurd (none-some row.1.0 (sym (bare s row.0) ∙ (get_named fs row.0 (s ++ q) ordered.sorted ∙ (ap (λ z. inside z row.0) e ∙ row.1.1))))
] refl

pub below_moved : (old new : List (Box Folder)) (p q : Path) → IsOrdered old → T (is_sorted path_cmp (folders new)) → ((s : Path) (n : List ℕ) → get (tree_of old) (n ∷ (s ++ q)) ≡ None)
    → ((r : Path) → find path_cmp r (folders new) ≡ find path_cmp r (map (move_entry p q) (folders old))) → IsBelowMoved (tree_of old) (tree_of new) p q
below_moved old new p q ordered up bare found =
    let free = free_of old q ordered bare in
    let at = λ (r : Path) (a b : Option Path) (ha : strip q r ≡ a) (hb : strip p r ≡ b). found r ∙ find-moved p q r (folders old) free a b ha hb in
    record {
      root = get_root new ∙ sym (get_root old);
      arrived = λ n s. get_named new n (s ++ q) up ∙ (ap (λ z. inside z n) (at (s ++ q) (Some s) (strip p (s ++ q)) (strip-append q s) refl) ∙ sym (get_named old n (s ++ p) ordered.sorted));
      gone = λ n s h. get_named new n (s ++ p) up ∙ ap (λ z. inside z n) (at (s ++ p) None (Some s) h (strip-append p s));
      stays = λ n r hq hp. get_named new n r up ∙ (ap (λ z. inside z n) (at r None None hq hp) ∙ sym (get_named old n r ordered.sorted));
    }
