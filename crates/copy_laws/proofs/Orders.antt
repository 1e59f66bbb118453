-- The order of a folder's paths.
use Rattle.std.proofs.Common.{◌≡◌, ℕ, List, [], ◌∷◌, ◌++◌, refl, sym, ◌∙◌, subst, append-nil}
use Rattle.std.specs.Cmp.{tied_itself}
use Rattle.std.specs.Ordering.{ordering_then}
use Rattle.std.specs.declared.cmp.Ordering.{Ordering}
use Rattle.std.specs.declared.cmp.Ordering.TheVariants.{Less, Equal, Greater}
use Rattle.fs_model.specs.Tree.{path_cmp, name_cmp}
use Rattle.fs_model.proofs.TreeLemmas.{name_total, path_total}
use Rattle.host_folder.specs.Folders.{HostPath}
use Rattle.copy_laws.specs.Walks.{Before, BeforeBy}

less_by : (o r : Ordering) (P : Type 0) → (P → r ≡ Less) → BeforeBy o P → ordering_then o r ≡ Less
less_by Less r P f h = refl
less_by Equal r P f h = f h
less_by Greater r P f h = absurd h

pub before_less : (a b : HostPath) → Before a b → path_cmp a b ≡ Less
before_less [] b h = absurd h
before_less (m ∷ a) [] h = absurd h
before_less (m ∷ a) (n ∷ b) h = less_by (name_cmp m n) (path_cmp a b) (Before a b) (λ g. before_less a b g) h

below_by : (o : Ordering) (P Q : Type 0) → (P → Q) → BeforeBy o P → BeforeBy o Q
below_by Less P Q f h = tt
below_by Equal P Q f h = f h
below_by Greater P Q f h = absurd h

pub before_below : (a b x y : HostPath) → Before a b → Before (a ++ x) (b ++ y)
before_below [] b x y h = absurd h
before_below (m ∷ a) [] x y h = absurd h
before_below (m ∷ a) (n ∷ b) x y h = below_by (name_cmp m n) (Before a b) (Before (a ++ x) (b ++ y)) (λ g. before_below a b x y g) h

pub before_name : (p : HostPath) (m n : List ℕ) → name_cmp m n ≡ Less → Before (p ++ m ∷ []) (p ++ n ∷ [])
before_name [] m n e = subst (λ o. BeforeBy o (Before [] [])) (sym e) tt
before_name (k ∷ p) m n e = subst (λ o. BeforeBy o (Before (p ++ m ∷ []) (p ++ n ∷ []))) (sym (tied_itself name_total k)) (before_name p m n e)

pub less_below : (p : HostPath) (n : List ℕ) (s : HostPath) → path_cmp p (p ++ n ∷ s) ≡ Less
less_below [] n s = refl
less_below (k ∷ p) n s = subst (λ o. ordering_then o (path_cmp p (p ++ n ∷ s)) ≡ Less) (sym (tied_itself name_total k)) (less_below p n s)

pub never_less : (p : HostPath) → path_cmp p p ≡ Less → ⊥
never_less p e = let bad : Less ≡ Equal = sym e ∙ tied_itself path_total p in cc

-- p isn't greater than what stands below it
pub not_back : (p s : HostPath) → path_cmp (p ++ s) p ≡ Less → ⊥
not_back p [] e = never_less p (subst (λ q. path_cmp q p ≡ Less) (append-nil p) e)
not_back p (n ∷ s) e = never_less p (path_total.trans p (p ++ n ∷ s) p (less_below p n s) e)
