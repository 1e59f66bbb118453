-- Ids in order, lists whose keys rise, and one more turn of a loop over entries.
use Rattle.std.proofs.Common.{◌≡◌, ℕ, suc, ◌+◌, ◌<◌, List, [], ◌∷◌, true, cond, length, drop, drop-cons, get_or, refl, sym, ◌∙◌, ap, add-one}
use Rattle.std.specs.Prelude.{T, Some, None, map}
use Rattle.std.proofs.lemmas.List.{drop-map}
use Rattle.std.specs.FinMap.{slice_cmp-IsAntisymmetric, nat_cmp-IsAntisymmetric}
use Rattle.std.specs.FinMap.Entries.{find, below_all}
use Rattle.std.specs.Cmp.{IsTotalOrder, Equal-is}
use Rattle.std.specs.Cmp.Lexicographic.{nat_list_cmp_total}
use Rattle.std.specs.Ordering.{is_eq, is_lt}
use Rattle.std.specs.declared.cmp.Ordering.{Ordering}
use Rattle.std.specs.declared.cmp.Ordering.TheVariants.{Less, Equal}
use Rattle.block_id.proofs.Orders.{less_so}
use Rattle.block_id.proofs.Conditions.{left, right}
use Rattle.block_id.specs.declared.id.BlockId.{BlockId}
use Rattle.store_api.specs.declared.batch.BatchChange.{BatchChange}
use Rattle.store_api.specs.Content.{Id, id_cmp, same_id}
use Rattle.store_api.specs.Entries.{entry_view, entries_of}

pub ids_total : IsTotalOrder id_cmp
ids_total = nat_list_cmp_total

pub same_id_is : (a b : Id) → same_id a b ≡ true → a ≡ b
same_id_is a b e = slice_cmp-IsAntisymmetric nat_cmp-IsAntisymmetric a b ((Equal-is (id_cmp a b)).0 e)

-- a key that ties with one below all of a list isn't in it
pub not_below : {K X : Type 0} {R : K → K → Ordering} (o : IsTotalOrder R) (q x : K) (es : List (K × X)) → R q x ≡ Equal → T (below_all R x es) → find R q es ≡ None
not_below o q x [] same h = refl
not_below {R = R} o q x (e ∷ es) same h =
    let first : R x e.0 ≡ Less = less_so (R x e.0) (left (is_lt (R x e.0)) (below_all R x es) h) in
    let here : R q e.0 ≡ Less = o.congr q x e.0 same ∙ first in
    ap (λ r. cond (is_eq r) (Some e.1) (find R q es)) here ∙ not_below o q x es same (right (is_lt (R x e.0)) (below_all R x es) h)

-- the entry of this turn, and those of the turns to come
pub turn : (es : List (BlockId × BatchChange)) (i : ℕ) (e : BlockId × BatchChange) → i < length es → e ≡ get_or es i e → drop i (entries_of es) ≡ entry_view e ∷ drop (i + 1) (entries_of es)
turn es i e h is =
    drop-map entry_view i es ∙ ap (map entry_view) (drop-cons es i e h) ∙ ap (λ x. entry_view x ∷ map entry_view (drop (suc i) es)) (sym is)
    ∙ ap (λ xs. entry_view e ∷ xs) (sym (drop-map entry_view (suc i) es) ∙ ap (λ k. drop k (entries_of es)) (sym (add-one i)))
