-- Replacing a prefix of paths.
use Rattle.std.specs.Prelude.{◌≡◌, ℕ, Bool, true, false, cond, ◌||◌, List, [], ◌∷◌, ◌++◌, map}
use Rattle.std.specs.FinMap.{entries, from_entries, get}
use Rattle.std.specs.declared.option.Option.{Option}
use Rattle.std.specs.declared.option.Option.TheVariants.{None, Some}
use Rattle.fs_model.specs.Tree.{Path, Row, Tree, same_path, is_folder}

-- p is a proper prefix of this path
abbrev pub is_above : Path → Path → Bool
is_above p [] = false
is_above p (n ∷ q) = same_path p q || is_above p q

abbrev pub under : List ℕ → Option Path → Option Path
under n None = None
under n (Some s) = Some (n ∷ s)

-- what stands below p on the way to r: the names s where r is s ++ p
abbrev pub strip : Path → Path → Option Path
strip p [] = cond (same_path p []) (Some []) None
strip p (n ∷ r) = cond (same_path p (n ∷ r)) (Some []) (under n (strip p r))

abbrev pub moved_by : Option Path → Path → Path → Path
moved_by None q r = r
moved_by (Some s) q r = s ++ q

-- the path r, in which the prefix p is replaced by q
abbrev pub moved : Path → Path → Path → Path
moved p q r = moved_by (strip p r) q r

abbrev pub move_entry : {X : Type 0} → Path → Path → Path × X → Path × X
move_entry p q e = (moved p q e.0, e.1)

-- every path that has the prefix p gets the prefix q
unfoldable pub renamed : Tree → Path → Path → Tree
renamed t p q = from_entries (map (move_entry p q) (entries t))

-- the row at the name pn of pd may go to the name qn of the directory qd: nothing stands below that, nor is it below the row
pub record CanMove (t : Tree) (pn : List ℕ) (pd : Path) (qn : List ℕ) (qd : Path) (row : Row) : Type 0 where
  pub here : get t (pn ∷ pd) ≡ Some row
  pub above : is_above (pn ∷ pd) (qn ∷ qd) ≡ false
  pub differ : pn ∷ pd ≡ qn ∷ qd → ⊥
  pub folder : is_folder (get t qd) ≡ true
  pub bare : (s : Path) (n : List ℕ) → get t (n ∷ (s ++ (qn ∷ qd))) ≡ None
