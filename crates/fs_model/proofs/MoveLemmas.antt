-- Replacing a prefix of paths: what the renamed tree has at a path.
use Rattle.std.specs.Prelude.{◌≡◌, ℕ, true, false, cond, List, [], ◌∷◌, ◌++◌, map, length}
use Rattle.std.proofs.Common.{refl, sym, ◌∙◌, ap, inl, inr, arith, length-append}
use Rattle.std.specs.FinMap.{get, entries, find, get-from_entries, get-entries}
use Rattle.std.specs.declared.option.Option.{Option}
use Rattle.std.specs.declared.option.Option.TheVariants.{None, Some}
use Rattle.std.proofs.lemmas.Option.{same_Some}
use Rattle.fs_model.specs.Tree.{Path, Tree, path_cmp, same_path}
use Rattle.fs_model.specs.Move.{under, strip, moved_by, moved, move_entry, renamed}
use Rattle.fs_model.proofs.TreeLemmas.{path_total, path_split, path_same, apart}

longer : (n : List ℕ) (s q : Path) → q ≡ n ∷ (s ++ q) → ⊥
longer n s q e = omega (arith, ap length e, length-append s q)

pub strip-append : (q s : Path) → strip q (s ++ q) ≡ Some s
strip-append [] [] = refl
strip-append (n ∷ q) [] = ap (λ b. cond b (Some []) (under n (strip (n ∷ q) q))) (path_same (n ∷ q))
strip-append q (n ∷ s) = ap (λ b. cond b (Some []) (under n (strip q (s ++ q)))) (apart q (n ∷ (s ++ q)) (longer n s q)) ∙ ap (under n) (strip-append q s)

under_is : (n : List ℕ) (o : Option Path) (s : Path) → under n o ≡ Some s → (z : Path) × (o ≡ Some z) × (s ≡ n ∷ z)
under_is n None s h = cc
under_is n (Some z) s h = (z, refl, sym (same_Some _ _ h))

pub strip-is : (p r s : Path) → strip p r ≡ Some s → r ≡ s ++ p
strip-is p [] s h = elim (path_split p []) [
  | inl e ↦
      let f : Some [] ≡ Some s = sym (ap (λ b. cond b (Some []) None) (ap (λ z. same_path z []) e ∙ path_same [])) ∙ h in
      sym e ∙ ap (λ z. z ++ p) (same_Some _ _ f)
  | inr d ↦ let f : None ≡ Some s = sym (ap (λ b. cond b (Some []) None) (apart p [] d)) ∙ h in cc
]
strip-is p (n ∷ r) s h = elim (path_split p (n ∷ r)) [
  | inl e ↦
      let f : Some [] ≡ Some s = sym (ap (λ b. cond b (Some []) (under n (strip p r))) (ap (λ z. same_path z (n ∷ r)) e ∙ path_same (n ∷ r))) ∙ h in
      sym e ∙ ap (λ z. z ++ p) (same_Some _ _ f)
  | inr d ↦
      let f = under_is n (strip p r) s (sym (ap (λ b. cond b (Some []) (under n (strip p r))) (apart p (n ∷ r) d)) ∙ h) in
      ap (λ z. n ∷ z) (strip-is p r f.0 f.1) ∙ ap (λ z. z ++ p) (sym f.2)
]

same_iff : (a b c d : Path) → (a ≡ b → c ≡ d) → (c ≡ d → a ≡ b) → same_path a b ≡ same_path c d
same_iff a b c d f g = elim (path_split a b) [
  | inl e ↦ ap (same_path a) (sym e) ∙ (path_same a ∙ (sym (path_same c) ∙ ap (same_path c) (f e)))
  | inr n ↦ apart a b n ∙ sym (apart c d (λ e. n (g e)))
]

-- where what is at r comes from, by what stands below q and below p on the way to r
abbrev pub source : {X : Type 0} → (Path → Option X) → Path → Path → Option Path → Option Path → Option X
source at p r (Some s) o = at (s ++ p)
source at p r None None = at r
source at p r None (Some s) = None

-- of a path x that isn't at or below q
module _ (p q : Path) where
  moved_below : (s : Path) → moved p q (s ++ p) ≡ s ++ q
  moved_below s = ap (λ o. moved_by o q (s ++ p)) (strip-append p s)

  moved_on : (s x : Path) → (x ≡ s ++ q → ⊥) → s ++ q ≡ moved p q x → s ++ p ≡ x
  moved_on s x free e = elim (strip p x) as (λ o. strip p x ≡ o → s ++ q ≡ moved_by o q x → s ++ p ≡ x) [
    | None ↦ λ _ e. absurd (free (sym e))
    | Some z ↦ λ h e.
        let same : s ≡ z = same_Some _ _ (sym (strip-append q s) ∙ (ap (strip q) e ∙ strip-append q z)) in
        ap (λ y. y ++ p) same ∙ sym (strip-is p x z h)
  ] refl e

  moved_off : (r x : Path) → strip q r ≡ None → r ≡ moved p q x → (strip p x ≡ None) × (r ≡ x)
  moved_off r x none e = elim (strip p x) as (λ o. strip p x ≡ o → r ≡ moved_by o q x → (strip p x ≡ None) × (r ≡ x)) [
    | None ↦ λ h e. (h, e)
    | Some z ↦ λ h e. let bad : None ≡ Some z = sym none ∙ (ap (strip q) e ∙ strip-append q z) in cc
  ] refl e

  pub find-moved : {X : Type 0} (r : Path) (es : List (Path × X)) → ((s : Path) → find path_cmp (s ++ q) es ≡ None)
      → (a b : Option Path) → strip q r ≡ a → strip p r ≡ b → find path_cmp r (map (move_entry p q) es) ≡ source (λ x. find path_cmp x es) p r a b
  find-moved r [] free (Some s) b ha hb = refl
  find-moved r [] free None None ha hb = refl
  find-moved r [] free None (Some s) ha hb = refl
  find-moved r (e ∷ es) free (Some s) b ha hb =
      let rest = find-moved r es (λ z. tail_free z (free z)) (Some s) b ha hb in
      let is = strip-is q r s ha in
      ap (λ t. cond t (Some e.1) (find path_cmp r (map (move_entry p q) es))) (same_iff r (moved p q e.0) (s ++ p) e.0
      (λ h. moved_on s e.0 (head_free s (free s)) (sym is ∙ h))
      (λ h. is ∙ (sym (moved_below s) ∙ ap (moved p q) h)))
      ∙ ap (cond (same_path (s ++ p) e.0) (Some e.1)) rest
    where
      head_free : (z : Path) → find path_cmp (z ++ q) (e ∷ es) ≡ None → e.0 ≡ z ++ q → ⊥
      head_free z h same = let bad : Some e.1 ≡ None = sym (ap (λ t. cond t (Some e.1) (find path_cmp (z ++ q) es)) (ap (same_path (z ++ q)) same ∙ path_same (z ++ q))) ∙ h in cc

      tail_free : (z : Path) → find path_cmp (z ++ q) (e ∷ es) ≡ None → find path_cmp (z ++ q) es ≡ None
      tail_free z h = elim (same_path (z ++ q) e.0) as (λ t. cond t (Some e.1) (find path_cmp (z ++ q) es) ≡ None → find path_cmp (z ++ q) es ≡ None) [ true ↦ λ k. cc | false ↦ λ k. k ] h
  find-moved r (e ∷ es) free None None ha hb =
      ap (λ t. cond t (Some e.1) (find path_cmp r (map (move_entry p q) es))) (same_iff r (moved p q e.0) r e.0
      (λ h. (moved_off r e.0 ha h).1)
      (λ h. h ∙ sym (ap (λ o. moved_by o q e.0) (ap (strip p) (sym h) ∙ hb))))
      ∙ ap (cond (same_path r e.0) (Some e.1)) (find-moved r es (λ z. tail_free z (free z)) None None ha hb)
    where
      tail_free : (z : Path) → find path_cmp (z ++ q) (e ∷ es) ≡ None → find path_cmp (z ++ q) es ≡ None
      tail_free z h = elim (same_path (z ++ q) e.0) as (λ t. cond t (Some e.1) (find path_cmp (z ++ q) es) ≡ None → find path_cmp (z ++ q) es ≡ None) [ true ↦ λ k. cc | false ↦ λ k. k ] h
  find-moved r (e ∷ es) free None (Some s) ha hb =
      ap (λ t. cond t (Some e.1) (find path_cmp r (map (move_entry p q) es))) (apart r (moved p q e.0) (λ h.
      let off = moved_off r e.0 ha h in
      let bad : None ≡ Some s = sym off.0 ∙ (ap (strip p) (sym off.1) ∙ hb) in cc))
      ∙ find-moved r es (λ z. tail_free z (free z)) None (Some s) ha hb
    where
      tail_free : (z : Path) → find path_cmp (z ++ q) (e ∷ es) ≡ None → find path_cmp (z ++ q) es ≡ None
      tail_free z h = elim (same_path (z ++ q) e.0) as (λ t. cond t (Some e.1) (find path_cmp (z ++ q) es) ≡ None → find path_cmp (z ++ q) es ≡ None) [ true ↦ λ k. cc | false ↦ λ k. k ] h

-- what the tree has at a path after the move, where nothing was at or below q
pub get-renamed : (t : Tree) (p q r : Path) → ((s : Path) → get t (s ++ q) ≡ None) → get (renamed t p q) r ≡ source (get t) p r (strip q r) (strip p r)
unfolding renamed
get-renamed t p q r free =
    get-from_entries path_total (map (move_entry p q) (entries t)) r
    ∙ (find-moved p q r (entries t) (λ s. sym (get-entries t (s ++ q)) ∙ free s) (strip q r) (strip p r) refl refl
    ∙ back (strip q r) (strip p r))
  where
    back : (a b : Option Path) → source (λ x. find path_cmp x (entries t)) p r a b ≡ source (get t) p r a b
    back (Some s) b = sym (get-entries t (s ++ p))
    back None None = sym (get-entries t r)
    back None (Some s) = refl
