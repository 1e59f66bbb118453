-- Moves that nothing refuses.
use Rattle.std.specs.Prelude.{◌≡◌, ℕ, Bool, true, false, cond, List, [], ◌∷◌, ◌++◌, is_some}
use Rattle.std.specs.FinMap.{get, insert}
use Rattle.std.specs.declared.option.Option.TheVariants.{None, Some}
use Rattle.fs_model.specs.declared.attr.Attr.{Attr}
use Rattle.fs_model.specs.Tree.{Path, Row, Tree, parent, is_root, is_folder}
use Rattle.fs_model.specs.Move.{is_above}

-- a row at p, and a path q that isn't at or below p, stands below a directory and has nothing below it
pub record IsMove (t : Tree) (p q : Path) (row : Row) (replaces : Bool) : Type 0 where
  pub here : get t p ≡ Some row
  pub from_named : is_root p ≡ false
  pub to_named : is_root q ≡ false
  pub above : is_above p q ≡ false
  pub differ : p ≡ q → ⊥
  pub folder : is_folder (get t (parent q)) ≡ true
  pub bare : (s : Path) (n : List ℕ) → get t (n ∷ (s ++ q)) ≡ None
  pub target : is_some (get t q) ≡ replaces

-- a row without bytes at q, where there is none
abbrev pub held : Tree → Path → Attr → Bool → Tree
held t q attr replaces = cond replaces t (insert t q (record { attr = attr; bytes = [] }))
