-- What touching a directory leaves.
use Rattle.std.specs.Prelude.{◌≡◌, ℕ, true, false, List, [], ◌∷◌, is_some}
use Rattle.std.proofs.Common.{refl, sym, ◌∙◌, ap, inl, inr}
use Rattle.std.specs.FinMap.{get, insert}
use Rattle.std.specs.declared.option.Option.{Option}
use Rattle.std.specs.declared.option.Option.TheVariants.{None, Some}
use Rattle.fs_model.specs.Instant.{Instant}
use Rattle.fs_model.specs.Tree.{Path, Tree, Row, is_root, IsWellFormed}
use Rattle.fs_model.specs.Step.{with_moments, touched_at, touched}
use Rattle.fs_model.proofs.TreeLemmas.{path_split, insert_here, insert_apart, set_again}
use Rattle.fs_model.proofs.PutRows.{insert_found}

module _ (t : Tree) (now : Instant) where
  at_apart : (n : List ℕ) (d : Path) (o : Option Row) (r : Path) → (r ≡ n ∷ d → ⊥) → get (touched_at t now (n ∷ d) o) r ≡ get t r
  at_apart n d None r differ = refl
  at_apart n d (Some row) r differ = insert_apart t (n ∷ d) (with_moments row now) r differ

  -- every other row stays
  pub touched-apart : (d r : Path) → (r ≡ d → ⊥) → get (touched t now d) r ≡ get t r
  touched-apart [] r differ = refl
  touched-apart (n ∷ d) r differ = at_apart n d (get t (n ∷ d)) r differ

  -- the root stays
  pub touched-root : (d : Path) → get (touched t now d) [] ≡ get t []
  touched-root [] = refl
  touched-root (n ∷ d) = at_apart n d (get t (n ∷ d)) [] (λ e. cc)

  -- a touched row
  pub touched-here : (n : List ℕ) (d : Path) (row : Row) → get t (n ∷ d) ≡ Some row → get (touched t now (n ∷ d)) (n ∷ d) ≡ Some (with_moments row now)
  touched-here n d row there = ap (λ o. get (touched_at t now (n ∷ d) o) (n ∷ d)) there ∙ insert_here t (n ∷ d) (with_moments row now)

  at_well : (n : List ℕ) (d : Path) (o : Option Row) → IsWellFormed t → get t (n ∷ d) ≡ o → IsWellFormed (touched_at t now (n ∷ d) o)
  at_well n d None wf there = wf
  at_well n d (Some row) wf there =
      let limits = wf.rows (n ∷ d) row there in
      insert_found t n d (with_moments row now) row wf there refl (record { content = limits.content; mode = limits.mode })

  pub touched_well : (d : Path) → IsWellFormed t → IsWellFormed (touched t now d)
  touched_well [] wf = wf
  touched_well (n ∷ d) wf = at_well n d (get t (n ∷ d)) wf refl

  at_some : (n : List ℕ) (d : Path) (o : Option Row) (r : Path) (x : Row) → get t (n ∷ d) ≡ o → get (touched_at t now (n ∷ d) o) r ≡ Some x → is_some (get t r) ≡ true
  at_some n d None r x there is = ap is_some is
  at_some n d (Some row) r x there is = elim (path_split r (n ∷ d)) [
    | inl e ↦ ap (λ z. is_some (get t z)) e ∙ ap is_some there
    | inr differ ↦ ap is_some (sym (insert_apart t (n ∷ d) (with_moments row now) r differ) ∙ is)
  ]

  -- no row is new
  pub touched-some : (d r : Path) (x : Row) → get (touched t now d) r ≡ Some x → is_some (get t r) ≡ true
  touched-some [] r x is = ap is_some is
  touched-some (n ∷ d) r x is = at_some n d (get t (n ∷ d)) r x refl is

  -- as one row set
  pub touched-none : (p : Path) → get t p ≡ None → touched t now p ≡ t
  touched-none [] none = refl
  touched-none (n ∷ d) none = ap (touched_at t now (n ∷ d)) none

  pub touched-set : (p : Path) (row : Row) → is_root p ≡ false → get t p ≡ Some row → touched t now p ≡ insert t p (with_moments row now)
  touched-set [] row named there = cc
  touched-set (n ∷ d) row named there = ap (touched_at t now (n ∷ d)) there

-- a directory touched twice
pub touched-again : (t : Tree) (now : Instant) (d : Path) → touched (touched t now d) now d ≡ touched t now d
touched-again t now [] = refl
touched-again t now (n ∷ d) = again (get t (n ∷ d)) refl
  where
    q : Path
    q = n ∷ d

    again : (o : Option Row) → get t q ≡ o → touched (touched t now q) now q ≡ touched t now q
    again None none = ap (λ z. touched z now q) (touched-none t now q none)
    again (Some row) there =
        let set = touched-set t now q row refl there in
        touched-set (touched t now q) now q (with_moments row now) refl (touched-here t now n d row there)
        ∙ (ap (λ z. insert z q (with_moments row now)) set ∙ (set_again t q (with_moments row now) (with_moments row now) ∙ sym set))
