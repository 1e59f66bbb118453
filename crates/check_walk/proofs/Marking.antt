-- A mark that is set.
use Rattle.std.proofs.Common.{◌≡◌, ℕ, zero, suc, ◌+◌, ◌<◌, cond, List, [], ◌∷◌, ◌++◌, length, T, refl, sym, ◌∙◌, ap, subst, arith}
use Rattle.std.specs.Prelude.{map, take, Some, slice_index_or}
use Rattle.std.proofs.Common.{get_or}
use Rattle.std.proofs.lemmas.List.{map-append, map_more}
use Rattle.std.specs.FinMap.{find, is_sorted}
use Rattle.std.specs.FinMap.Entries.{find-put, is_sorted-put, put}
use Rattle.std.specs.Cmp.Lexicographic.{nat_list_cmp_total}
use Rattle.std.proofs.Math.ListN.{set}
use Rattle.plain_rows.specs.Sorted.{IsElementAt}
use Rattle.plain_rows.proofs.SortedLemmas.{set_put}
use Rattle.data_tree.specs.store_api.Content.{Id, id_cmp, same_id}
use Rattle.check_walk.specs.declared.marks.Mark.{Mark}
use Rattle.check_walk.specs.Marks.{mark_entry, MarkedOne, owner_of}

pub not_zero : (n : ℕ) → (n ≡ 0 → ⊥) → 0 < n
not_zero zero h = absurd (h refl)
not_zero (suc n) h = omega arith

set_is : (marks : List Mark) (i : ℕ) (m : Mark) (id : Id) → T (is_sorted id_cmp (map mark_entry marks)) → IsElementAt id_cmp mark_entry marks id i → m.id.0 ≡ id → map mark_entry (set marks i m) ≡ put id_cmp m.id.0 m.owner (map mark_entry marks)
set_is marks i m id sorted at is = set_put nat_list_cmp_total mark_entry marks i m m sorted at.in_range (is ∙ sym (at.key m))

pub set-sorted : (marks : List Mark) (i : ℕ) (m : Mark) (id : Id) → T (is_sorted id_cmp (map mark_entry marks)) → IsElementAt id_cmp mark_entry marks id i → m.id.0 ≡ id → T (is_sorted id_cmp (map mark_entry (set marks i m)))
set-sorted marks i m id sorted at is =
    subst (λ z. T (is_sorted id_cmp z)) (sym (set_is marks i m id sorted at is)) (is_sorted-put {X = ℕ} id_cmp nat_list_cmp_total m.id.0 m.owner (map mark_entry marks) sorted)

pub set-marks : (marks : List Mark) (i : ℕ) (m d : Mark) (id : Id) (owner : ℕ) → T (is_sorted id_cmp (map mark_entry marks)) → IsElementAt id_cmp mark_entry marks id i → m.id.0 ≡ id → m.owner ≡ owner → (slice_index_or marks i d).owner ≡ 0
    → MarkedOne (map mark_entry marks) (map mark_entry (set marks i m)) id owner
set-marks marks i m d id owner sorted at is owns free = record {
  was = at.found d ∙ ap Some free;
  now = λ q. ap (find id_cmp q) (set_is marks i m id sorted at is)
      ∙ (find-put id_cmp nat_list_cmp_total q m.id.0 m.owner (map mark_entry marks)
      ∙ (ap (λ k. cond (same_id q k) (Some m.owner) (owner_of (map mark_entry marks) q)) is
      ∙ ap (λ o. cond (same_id q id) (Some o) (owner_of (map mark_entry marks) q)) owns));
}

-- one more element, each as the other
pub more_marked : {A B C : Type 0} (f : A → C) (g : B → C) (xs ys : List A) (x : A) (zs : List B) (i : ℕ) (d : B) → ys ≡ xs ++ x ∷ [] → map f xs ≡ map g (take i zs) → i < length zs → f x ≡ g (get_or zs i d) → map f ys ≡ map g (take (i + 1) zs)
more_marked f g xs ys x zs i d more all lt same =
    ap (map f) more ∙ (map-append f xs (x ∷ []) ∙ (ap (λ z. z ++ f x ∷ []) all ∙ (ap (λ z. map g (take i zs) ++ z ∷ []) same ∙ sym (map_more g zs i d lt))))
