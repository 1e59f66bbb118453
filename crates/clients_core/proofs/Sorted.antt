-- The entries of the program's map of others' versions, sorted, are those of the finite map.
use Rattle.std.proofs.Common.{◌≡◌, ℕ, suc, ◌<◌, Bool, true, false, List, [], ◌∷◌, map, length, get_or, Option, Some, None, refl, sym, ap, ◌∙◌, arith, T, subst}
use Rattle.std.specs.Prelude.{◌&&◌}
use Rattle.std.specs.declared.cmp.Ordering.{Ordering}
use Rattle.std.specs.declared.cmp.Ordering.TheVariants.{Less, Equal, Greater}
use Rattle.std.specs.FinMap as fin
use Rattle.std.specs.FinMap.{get-from_sorted, entries-from_sorted, same_map}
use Rattle.std.specs.FinMap.Entries.{is_sorted, below_all}
use Rattle.std.specs.Ordering.{is_lt, is_eq, eq_by_cmp, ordering_then, ordering_reverse}
use Rattle.std.specs.Cmp.{IsEquivalence, eq_by_cmp_equiv}
use Rattle.std.specs.List.{IsDistinct, AllByRecursion}
use Rattle.std.specs.List.Sorted.{IsPermutation, IsSorted}
use Rattle.std.specs.Map.{lookup, keys_of}
use Rattle.std.proofs.lemmas.List.Sorted.{Contains-permutation, IsPermutation-map, IsPermutation-sym, sorted_far, ranks_by}
use Rattle.std.proofs.lemmas.Map.Keys.{IsDistinct-IsPermutation}
use Rattle.std.proofs.lemmas.Map.Views.{Contains-from_lookup, lookup-from_Contains}
use Rattle.clients_core.specs.declared.others.Author.{Author}
use Rattle.clients_core.specs.Others.{key_cmp, plain_key, plain_entry, others_of, same_author, HaveDistinctAuthors}
use Rattle.clients_core.proofs.Keys.{key_total, key_antisymmetric, keys_tied}
use Rattle.clients_core.proofs.Lookups.{ties, find-plain, get-others_of}

keys_equiv : IsEquivalence (eq_by_cmp key_cmp)
keys_equiv = eq_by_cmp_equiv key_total

authors_equiv : IsEquivalence same_author
authors_equiv = record {
  refl = λ x. ties x x ∙ keys_equiv.refl (plain_key x);
  symm = λ x y. ties x y ∙ keys_equiv.symm (plain_key x) (plain_key y) ∙ sym (ties y x);
  congr = λ x y z e. ties x z ∙ keys_equiv.congr (plain_key x) (plain_key y) (plain_key z) (sym (ties x y) ∙ e) ∙ sym (ties y z);
}

same_authors : (x y : Author) → same_author x y ≡ true → x ≡ y
same_authors x y e = let h : plain_key x ≡ plain_key y = keys_tied (plain_key x) (plain_key y) (sym (ties x y) ∙ e) in λ i. record { id = record { 0 = (h i).0 }; client = (h i).1 }

-- what one of two lists of the same entries finds, the other finds
found_in : (q : Author) (v : ℕ) (es fs : List (Author × ℕ)) → IsPermutation es fs → IsDistinct same_author (keys_of fs) → lookup (same_author q) es ≡ Some v → lookup (same_author q) fs ≡ Some v
found_in q v es fs p distinct e = lookup-from_Contains authors_equiv q v fs distinct (Contains-permutation es fs (q, v) p (Contains-from_lookup same_authors q v es e))

alike : (o r : Option ℕ) → ((v : ℕ) → o ≡ Some v → r ≡ Some v) → ((v : ℕ) → r ≡ Some v → o ≡ Some v) → r ≡ o
alike (Some v) r f g = f v refl
alike None None f g = refl
alike None (Some v) f g = sym (g v refl)

pub lookup-permutation : (q : Author) (es fs : List (Author × ℕ)) → IsPermutation es fs → IsDistinct same_author (keys_of es) → lookup (same_author q) fs ≡ lookup (same_author q) es
lookup-permutation q es fs p distinct =
    let other = IsDistinct-IsPermutation same_author authors_equiv.symm (keys_of es) (keys_of fs) (IsPermutation-map (λ (e : Author × ℕ). e.0) es fs p) distinct in
    alike (lookup (same_author q) es) (lookup (same_author q) fs) (λ v. found_in q v es fs p other) (λ v. found_in q v fs es (IsPermutation-sym es fs p) distinct)

-- ---- in order

not_above : (r s : Ordering) → is_lt (ordering_then r s) ≡ false → is_lt r ≡ false
not_above Less s e = e
not_above Equal s e = refl
not_above Greater s e = refl

-- what isn't above is below, where the two differ
below_other : (x y : Author) → is_lt (key_cmp (plain_key y) (plain_key x)) ≡ false → same_author x y ≡ false → is_lt (key_cmp (plain_key x) (plain_key y)) ≡ true
below_other x y above differs =
    by (key_cmp (plain_key x) (plain_key y)) (ap is_lt (sym (key_total.antisymm (plain_key y) (plain_key x))) ∙ above) (sym (ties x y) ∙ differs)
  where
    by : (r : Ordering) → is_lt (ordering_reverse r) ≡ false → is_eq r ≡ false → is_lt r ≡ true
    by Less a d = refl
    by Equal a d = absurd (cc)
    by Greater a d = absurd (cc)

-- a later entry isn't below an earlier one
abbrev AscendIn : List (Author × ℕ) → Type 0
AscendIn es = (i j : ℕ) (d : Author × ℕ) → i < j → j < length es → is_lt (key_cmp (plain_key (get_or es j d).0) (plain_key (get_or es i d).0)) ≡ false

both : (a b : Bool) → T a → T b → T (a && b)
both true b p q = q
both false b p q = p

rest_below : (e : Author × ℕ) (es : List (Author × ℕ)) → ((j : ℕ) (d : Author × ℕ) → j < length es → is_lt (key_cmp (plain_key (get_or es j d).0) (plain_key e.0)) ≡ false)
    → AllByRecursion (λ y. same_author e.0 y ≡ false) (keys_of es) → T (below_all key_cmp (plain_key e.0) (map plain_entry es))
rest_below e [] above differs = tt
rest_below e (f ∷ es) above differs =
    both _ _ (subst T (sym (below_other e.0 f.0 (above 0 f (omega arith)) differs.0)) tt) (rest_below e es (λ j d lt. above (suc j) d (omega arith)) differs.1)

is_sorted-plain : (es : List (Author × ℕ)) → AscendIn es → HaveDistinctAuthors es → T (is_sorted key_cmp (map plain_entry es))
unfolding IsDistinct
is_sorted-plain [] up distinct = tt
is_sorted-plain (e ∷ es) up distinct =
    both _ _ (rest_below e es (λ j d lt. up 0 (suc j) d (omega arith) (omega arith)) distinct.0) (is_sorted-plain es (λ i j d lt fits. up (suc i) (suc j) d (omega arith) (omega arith)) distinct.1)

-- a sorted list of a map's entries is the finite map's
pub entries-sorted : (es fs : List (Author × ℕ)) → HaveDistinctAuthors es → IsPermutation es fs → AscendIn fs → map plain_entry fs ≡ fin.entries (others_of es)
entries-sorted es fs distinct p up =
    let other = IsDistinct-IsPermutation same_author authors_equiv.symm (keys_of es) (keys_of fs) (IsPermutation-map (λ (e : Author × ℕ). e.0) es fs p) distinct in
    let sorted = is_sorted-plain fs up other in
    let same : fin.from_sorted {R = key_cmp} (map plain_entry fs) ≡ others_of es =
    same_map key_total key_antisymmetric _ _
    (λ q. let k : Author = record { id = record { 0 = q.0 }; client = q.1 } in
    get-from_sorted key_cmp (map plain_entry fs) q sorted ∙ find-plain k fs ∙ lookup-permutation k es fs p distinct ∙ sym (get-others_of k es)) in
    sym (entries-from_sorted key_cmp (map plain_entry fs) sorted) ∙ ap fin.entries same

pub AscendIn-from_sort : (fs : List (Author × ℕ)) (rest : Author × ℕ → Author × ℕ → Ordering) → IsSorted (λ x y. ordering_then (key_cmp (plain_key x.0) (plain_key y.0)) (rest x y)) fs → AscendIn fs
AscendIn-from_sort fs rest up i j d lt fits =
    sorted_far (λ x y. is_lt (key_cmp (plain_key x.0) (plain_key y.0))) (ranks_by key_total (λ (e : Author × ℕ). plain_key e.0)) fs (λ k f low within. not_above _ _ (up k f low within)) i j d (omega arith) fits
