-- The entries of the program's map, sorted, are those of the finite map.
use Rattle.std.proofs.Common.{◌≡◌, ℕ, suc, ◌<◌, Bool, true, false, List, [], ◌∷◌, map, length, get_or, Option, Some, None, refl, sym, ap, ◌∙◌, arith, T, subst}
use Rattle.std.specs.Prelude.{◌&&◌}
use Rattle.std.specs.declared.cmp.Ordering.{Ordering}
use Rattle.std.specs.declared.cmp.Ordering.TheVariants.{Less, Equal, Greater}
use Rattle.std.specs.FinMap as fin
use Rattle.std.specs.FinMap.{get-from_sorted, entries-from_sorted, same_map, slice_cmp-IsAntisymmetric, nat_cmp-IsAntisymmetric}
use Rattle.std.specs.FinMap.Entries.{is_sorted, below_all}
use Rattle.std.specs.Ordering.{nat_cmp, is_lt, is_eq, ordering_then, ordering_reverse}
use Rattle.std.specs.Cmp.{IsEquivalence}
use Rattle.std.specs.Cmp.Lexicographic.{slice_cmp, texts_ties, bytes_decides, nat_list_cmp_total, nat_list_eq_equiv}
use Rattle.std.specs.List.{IsDistinct, AllByRecursion}
use Rattle.std.specs.List.Sorted.{IsPermutation, IsSorted}
use Rattle.std.specs.Map.{lookup, keys_of}
use Rattle.std.proofs.lemmas.List.Sorted.{Contains-permutation, IsPermutation-map, IsPermutation-sym, sorted_far, ranks_by}
use Rattle.std.proofs.lemmas.Map.Keys.{IsDistinct-IsPermutation}
use Rattle.std.proofs.lemmas.Map.Views.{Contains-from_lookup, lookup-from_Contains}
use Rattle.block_id.specs.declared.id.BlockId.{BlockId}
use Rattle.local_state.specs.declared.life.Life.{Life}
use Rattle.local_state.specs.Known.{same_id, plain_entry, lives_of, HaveDistinctIds}
use Rattle.local_state.proofs.Lookups.{find-plain, get-lives_of}

ids_equiv : IsEquivalence same_id
ids_equiv = record { refl = λ x. nat_list_eq_equiv.refl x.0; symm = λ x y. nat_list_eq_equiv.symm x.0 y.0; congr = λ x y z. nat_list_eq_equiv.congr x.0 y.0 z.0 }

same_ids : (x y : BlockId) → same_id x y ≡ true → x ≡ y
same_ids x y e = let h : x.0 ≡ y.0 = (bytes_decides x.0 y.0).0 e in λ i. record { 0 = h i }

-- what one of two lists of the same entries finds, the other finds
found_in : (q : BlockId) (v : Life) (es fs : List (BlockId × Life)) → IsPermutation es fs → IsDistinct same_id (keys_of fs) → lookup (same_id q) es ≡ Some v → lookup (same_id q) fs ≡ Some v
found_in q v es fs p distinct e = lookup-from_Contains ids_equiv q v fs distinct (Contains-permutation es fs (q, v) p (Contains-from_lookup same_ids q v es e))

alike : (o r : Option Life) → ((v : Life) → o ≡ Some v → r ≡ Some v) → ((v : Life) → r ≡ Some v → o ≡ Some v) → r ≡ o
alike (Some v) r f g = f v refl
alike None None f g = refl
alike None (Some v) f g = sym (g v refl)

pub lookup-permutation : (q : BlockId) (es fs : List (BlockId × Life)) → IsPermutation es fs → IsDistinct same_id (keys_of es) → lookup (same_id q) fs ≡ lookup (same_id q) es
lookup-permutation q es fs p distinct =
    let other = IsDistinct-IsPermutation same_id ids_equiv.symm (keys_of es) (keys_of fs) (IsPermutation-map (λ (e : BlockId × Life). e.0) es fs p) distinct in
    alike (lookup (same_id q) es) (lookup (same_id q) fs) (λ v. found_in q v es fs p other) (λ v. found_in q v fs es (IsPermutation-sym es fs p) distinct)

-- ---- in order

not_above : (r s : Ordering) → is_lt (ordering_then r s) ≡ false → is_lt r ≡ false
not_above Less s e = e
not_above Equal s e = refl
not_above Greater s e = refl

-- what isn't above is below, where the two differ
below_other : (x y : BlockId) → is_lt (slice_cmp nat_cmp y.0 x.0) ≡ false → same_id x y ≡ false → is_lt (slice_cmp nat_cmp x.0 y.0) ≡ true
below_other x y above differs =
    by (slice_cmp nat_cmp x.0 y.0) (ap is_lt (sym (nat_list_cmp_total.antisymm y.0 x.0)) ∙ above) (sym (texts_ties x.0 y.0) ∙ differs)
  where
    by : (r : Ordering) → is_lt (ordering_reverse r) ≡ false → is_eq r ≡ false → is_lt r ≡ true
    by Less a d = refl
    by Equal a d = absurd (cc)
    by Greater a d = absurd (cc)

-- a later entry isn't below an earlier one
abbrev AscendIn : List (BlockId × Life) → Type 0
AscendIn es = (i j : ℕ) (d : BlockId × Life) → i < j → j < length es → is_lt (slice_cmp nat_cmp (get_or es j d).0.0 (get_or es i d).0.0) ≡ false

both : (a b : Bool) → T a → T b → T (a && b)
both true b p q = q
both false b p q = p

rest_below : (e : BlockId × Life) (es : List (BlockId × Life)) → ((j : ℕ) (d : BlockId × Life) → j < length es → is_lt (slice_cmp nat_cmp (get_or es j d).0.0 e.0.0) ≡ false)
    → AllByRecursion (λ y. same_id e.0 y ≡ false) (keys_of es) → T (below_all (slice_cmp nat_cmp) e.0.0 (map plain_entry es))
rest_below e [] above differs = tt
rest_below e (f ∷ es) above differs =
    both _ _ (subst T (sym (below_other e.0 f.0 (above 0 f (omega arith)) differs.0)) tt) (rest_below e es (λ j d lt. above (suc j) d (omega arith)) differs.1)

is_sorted-plain : (es : List (BlockId × Life)) → AscendIn es → HaveDistinctIds es → T (is_sorted (slice_cmp nat_cmp) (map plain_entry es))
unfolding IsDistinct
is_sorted-plain [] up distinct = tt
is_sorted-plain (e ∷ es) up distinct =
    both _ _ (rest_below e es (λ j d lt. up 0 (suc j) d (omega arith) (omega arith)) distinct.0) (is_sorted-plain es (λ i j d lt fits. up (suc i) (suc j) d (omega arith) (omega arith)) distinct.1)

-- a sorted list of a map's entries is the finite map's
pub entries-sorted : (es fs : List (BlockId × Life)) → HaveDistinctIds es → IsPermutation es fs → AscendIn fs → map plain_entry fs ≡ fin.entries (lives_of es)
entries-sorted es fs distinct p up =
    let order = slice_cmp nat_cmp in
    let other = IsDistinct-IsPermutation same_id ids_equiv.symm (keys_of es) (keys_of fs) (IsPermutation-map (λ (e : BlockId × Life). e.0) es fs p) distinct in
    let sorted = is_sorted-plain fs up other in
    let same : fin.from_sorted {R = slice_cmp nat_cmp} (map plain_entry fs) ≡ lives_of es =
    same_map nat_list_cmp_total (slice_cmp-IsAntisymmetric nat_cmp-IsAntisymmetric) _ _
    (λ q. let k : BlockId = record { 0 = q } in
    get-from_sorted (slice_cmp nat_cmp) (map plain_entry fs) q sorted ∙ find-plain k fs ∙ lookup-permutation k es fs p distinct ∙ sym (get-lives_of k es)) in
    sym (entries-from_sorted (slice_cmp nat_cmp) (map plain_entry fs) sorted) ∙ ap fin.entries same

pub AscendIn-from_sort : (fs : List (BlockId × Life)) (rest : BlockId × Life → BlockId × Life → Ordering) → IsSorted (λ x y. ordering_then (slice_cmp nat_cmp x.0.0 y.0.0) (rest x y)) fs → AscendIn fs
AscendIn-from_sort fs rest up i j d lt fits =
    sorted_far (λ x y. is_lt (slice_cmp nat_cmp x.0.0 y.0.0)) (ranks_by nat_list_cmp_total (λ (e : BlockId × Life). e.0.0)) fs (λ k f low within. not_above _ _ (up k f low within)) i j d (omega arith) fits
