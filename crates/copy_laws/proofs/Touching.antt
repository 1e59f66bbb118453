-- Touching a directory leaves each path its kind and bytes.
use Rattle.std.proofs.Common.{◌≡◌, ◌≢◌, ℕ, List, ◌∷◌, [], length, refl, sym, ◌∙◌, ap, inl, inr, arith}
use Rattle.std.specs.FinMap.{get, insert}
use Rattle.std.specs.declared.option.Option.{Option}
use Rattle.std.specs.declared.option.Option.TheVariants.{None, Some}
use Rattle.fs_model.specs.Instant.{Instant}
use Rattle.fs_model.specs.Step.{with_moments, touched_at, touched}
use Rattle.fs_model.specs.Tree.{Path, Row, Tree}
use Rattle.fs_model.proofs.TreeLemmas.{path_split, insert_here, insert_apart}
use Rattle.copy_laws.specs.Importing.{plain_of}

pub longer_not : (n : List ℕ) (d : Path) → n ∷ d ≢ d
longer_not n d e = let same = ap length e in omega arith

at_plain : (t : Tree) (now : Instant) (d r : Path) (o : Option Row) → get t d ≡ o → plain_of (get (touched_at t now d o) r) ≡ plain_of (get t r)
at_plain t now d r None there = refl
at_plain t now d r (Some row) there = elim (path_split r d) [
  | inl e ↦ ap (λ z. plain_of (get (insert t d (with_moments row now)) z)) e ∙ (ap plain_of (insert_here t d (with_moments row now)) ∙ sym (ap (λ z. plain_of (get t z)) e ∙ ap plain_of there))
  | inr differ ↦ ap plain_of (insert_apart t d (with_moments row now) r differ)
]

pub touched_plain : (t : Tree) (now : Instant) (d r : Path) → plain_of (get (touched t now d) r) ≡ plain_of (get t r)
touched_plain t now [] r = refl
touched_plain t now (n ∷ d) r = at_plain t now (n ∷ d) r (get t (n ∷ d)) refl
