-- One change of the ids of trees after another.
use Rattle.std.proofs.Common.{◌≡◌, ◌⊎◌, Bool, true, false, List, [], ◌++◌, refl, sym, ◌∙◌, inl, inr}
use Rattle.std.specs.Prelude.{None, is_some}
use Rattle.std.proofs.lemmas.Bool.{false_from_ne_true}
use Rattle.block_id.proofs.Options.{none_is}
use Rattle.store_api.specs.Content.{Id, Content}
use Rattle.store_api.specs.Holdings.{has_id}
use Rattle.data_tree.specs.Trees.{Replaces}
use Rattle.data_tree.proofs.Ids.{in_left, in_one, not_both}

-- an id that came isn't one that had a block
pub came_none : (A B : Content) (ids : List Id) → Replaces A B [] ids → (q : Id) → is_some (A q) ≡ true → has_id ids q ≡ false
came_none A B ids r q there = false_from_ne_true (has_id ids q) (λ h. elim (r.came q h) [ inl never ↦ absurd (let no_id : has_id [] q ≡ true = never in cc) | inr none ↦ none_is (A q) none there ])

-- new ids came in place of some, and then others were dropped
pub then_drops : (A C D : Content) (xs ys new : List Id) → Replaces A C xs new → Replaces C D ys [] → ((q : Id) → has_id ys q ≡ true → has_id new q ≡ false) → Replaces A D (xs ++ ys) new
then_drops A C D xs ys new one two differ = record {
  kept = λ q o n. let none = not_both xs ys q o in two.kept q none.1 refl ∙ one.kept q none.0 n;
  gone = λ q o n. gone_in q n (has_id ys q) refl (in_one xs ys q o);
  came = λ q n. elim (one.came q n) [ inl old ↦ inl (in_left xs ys q old) | inr none ↦ inr none ];
}
  where
    gone_in : (q : Id) → has_id new q ≡ false → (b : Bool) → has_id ys q ≡ b → (has_id xs q ≡ true) ⊎ ((has_id xs q ≡ false) × (has_id ys q ≡ true)) → D q ≡ None
    gone_in q n true e h = two.gone q e refl
    gone_in q n false e (inl first) = two.kept q e refl ∙ one.gone q first n
    gone_in q n false e (inr second) = absurd (let bad : false ≡ true = sym e ∙ second.1 in cc)

-- one replacement after another
pub replaces_then : (A B C : Content) (old mid new : List Id) → Replaces A B old mid → Replaces B C mid new → Replaces A C old new
replaces_then A B C old mid new one two = record {
  kept = λ q o n. kept_in q o n (has_id mid q) refl;
  gone = λ q o n. gone_in q o n (has_id mid q) refl;
  came = λ q n. came_in q n (has_id old q) refl (has_id mid q) refl;
}
  where
    kept_in : (q : Id) → has_id old q ≡ false → has_id new q ≡ false → (m : Bool) → has_id mid q ≡ m → C q ≡ A q
    kept_in q o n false e = two.kept q e n ∙ one.kept q o e
    kept_in q o n true e = elim (one.came q e) [ inl was ↦ absurd (let bad : false ≡ true = sym o ∙ was in cc) | inr none ↦ two.gone q e n ∙ sym none ]

    gone_in : (q : Id) → has_id old q ≡ true → has_id new q ≡ false → (m : Bool) → has_id mid q ≡ m → C q ≡ None
    gone_in q o n true e = two.gone q e n
    gone_in q o n false e = two.kept q e n ∙ one.gone q o e

    came_in : (q : Id) → has_id new q ≡ true → (o : Bool) → has_id old q ≡ o → (m : Bool) → has_id mid q ≡ m → (has_id old q ≡ true) ⊎ (A q ≡ None)
    came_in q n true e m f = inl e
    came_in q n false e true f = one.came q f
    came_in q n false e false f = elim (two.came q n) [ inl was ↦ absurd (let bad : false ≡ true = sym f ∙ was in cc) | inr none ↦ inr (sym (one.kept q e f) ∙ none) ]
