-- Lists of ids without doubles, and what replaces them.
use Rattle.std.proofs.Common.{◌≡◌, ◌⊎◌, ℕ, Bool, true, false, cond, List, [], ◌∷◌, ◌++◌, refl, sym, ◌∙◌, ap, subst, inl, inr}
use Rattle.std.specs.Prelude.{Option, None, ◌||◌}
use Rattle.std.specs.Cmp.{eq_by_cmp_equiv}
use Rattle.std.specs.Cmp.Lexicographic.{nat_list_cmp_total}
use Rattle.std.proofs.lemmas.Bool.{or_parts}
use Rattle.store_api.specs.Content.{Id, Content, id_cmp, same_id}
use Rattle.store_api.specs.Holdings.{has_id}
use Rattle.store_api.proofs.Ids.{has-append}
use Rattle.store_api.proofs.Rising.{same_id_is}
use Rattle.data_tree.specs.Trees.{NoDoubles, Replaces}
use Rattle.data_tree.specs.Needs.{Sets}

or_left : (a b c : Bool) → c ≡ (a || b) → a ≡ true → c ≡ true
or_left true b c e t = e
or_left false b c e t = absurd (cc)

or_right : (a b c : Bool) → c ≡ (a || b) → b ≡ true → c ≡ true
or_right true b c e t = e
or_right false b c e t = e ∙ t

or_cases : (a b : Bool) → (a || b) ≡ true → (a ≡ true) ⊎ ((a ≡ false) × (b ≡ true))
or_cases true b e = inl refl
or_cases false b e = inr (refl, e)

pub not_both : (xs ys : List Id) (id : Id) → has_id (xs ++ ys) id ≡ false → (has_id xs id ≡ false) × (has_id ys id ≡ false)
not_both xs ys id e = or_parts (has_id xs id) (has_id ys id) (sym (has-append xs ys id) ∙ e)

pub in_left : (xs ys : List Id) (id : Id) → has_id xs id ≡ true → has_id (xs ++ ys) id ≡ true
in_left xs ys id h = or_left (has_id xs id) (has_id ys id) (has_id (xs ++ ys) id) (has-append xs ys id) h

pub in_right : (xs ys : List Id) (id : Id) → has_id ys id ≡ true → has_id (xs ++ ys) id ≡ true
in_right xs ys id h = or_right (has_id xs id) (has_id ys id) (has_id (xs ++ ys) id) (has-append xs ys id) h

pub in_one : (xs ys : List Id) (id : Id) → has_id (xs ++ ys) id ≡ true → (has_id xs id ≡ true) ⊎ ((has_id xs id ≡ false) × (has_id ys id ≡ true))
in_one xs ys id h = or_cases (has_id xs id) (has_id ys id) (sym (has-append xs ys id) ∙ h)

pub alone-parts : (xs ys : List Id) → NoDoubles (xs ++ ys) → NoDoubles xs × NoDoubles ys
alone-parts [] ys h = (tt, h)
alone-parts (x ∷ xs) ys h =
    let rest = alone-parts xs ys h.1 in
    (((not_both xs ys x h.0).0, rest.0), rest.1)

pub same_self : (id : Id) → same_id id id ≡ true
same_self id = (eq_by_cmp_equiv {R = id_cmp} nat_list_cmp_total).refl id

-- the ids of the first list aren't in the second
pub apart : (xs ys : List Id) → NoDoubles (xs ++ ys) → (id : Id) → has_id xs id ≡ true → has_id ys id ≡ false
apart [] ys h id e = absurd (cc)
apart (x ∷ xs) ys h id e =
    elim (or_cases (same_id id x) (has_id xs id) e) [
      | inl same ↦ subst (λ q. has_id ys q ≡ false) (sym (same_id_is id x same)) (not_both xs ys x h.0).1
      | inr later ↦ apart xs ys h.1 id later.1
    ]

pub apart_right : (xs ys : List Id) → NoDoubles (xs ++ ys) → (id : Id) → has_id ys id ≡ true → has_id xs id ≡ false
apart_right xs ys h id e = by (has_id xs id) refl
  where
    by : (b : Bool) → has_id xs id ≡ b → has_id xs id ≡ false
    by false n = n
    by true n = let bad : false ≡ true = sym (apart xs ys h id n) ∙ e in absurd (cc)

pub replaces_nothing : (A : Content) → Replaces A A [] []
replaces_nothing A = record { kept = λ id o n. refl; gone = λ id o n. absurd (cc); came = λ id n. absurd (cc) }

-- more is dropped, of other ids
pub drops_more : (A B C : Content) (xs ys : List Id) → Replaces A B xs [] → Replaces B C ys [] → Replaces A C (xs ++ ys) []
drops_more A B C xs ys one two = record {
  kept = λ id o n. let none = not_both xs ys id o in two.kept id none.1 n ∙ one.kept id none.0 n;
  gone = λ id o n. gone_in id n (has_id ys id) refl (in_one xs ys id o);
  came = λ id n. absurd (cc);
}
  where
    gone_in : (id : Id) → has_id [] id ≡ false → (b : Bool) → has_id ys id ≡ b → (has_id xs id ≡ true) ⊎ ((has_id xs id ≡ false) × (has_id ys id ≡ true)) → C id ≡ None
    gone_in id n true e h = two.gone id e n
    gone_in id n false e (inl first) = two.kept id e n ∙ one.gone id first n
    gone_in id n false e (inr second) = absurd (cc)

-- one is dropped
pub drops_one : (A B : Content) (id : Id) → Sets A B id None → Replaces A B (id ∷ []) []
drops_one A B id sets = record {
  kept = λ q o n. sets q ∙ ap (λ b. cond b None (A q)) (only q o);
  gone = λ q o n. sets q ∙ ap (λ b. cond b None (A q)) (is q o);
  came = λ q n. absurd (cc);
}
  where
    only : (q : Id) → (same_id q id || false) ≡ false → same_id q id ≡ false
    only q h = (or_parts (same_id q id) false h).0

    is : (q : Id) → (same_id q id || false) ≡ true → same_id q id ≡ true
    is q h = elim (or_cases (same_id q id) false h) [ inl same ↦ same | inr never ↦ absurd (let bad : false ≡ true = never.1 in cc) ]

-- a node and then all below it are dropped
pub drops_tree : (A B C D : Content) (id : Id) (below ids : List Id) → ((q : Id) → B q ≡ A q) → Sets B C id None → ids ≡ id ∷ below → Replaces C D below [] → Replaces A D ids []
drops_tree A B C D id below ids same sets all rest =
    let whole : Replaces B D (id ∷ below) [] = drops_more B C D (id ∷ []) below (drops_one B C id sets) rest in
    let path : B ≡ A = λ i q. same q i in
    subst (λ xs. Replaces A D xs []) (sym all) (subst (λ X. Replaces X D (id ∷ below) []) path whole)

-- a block of another id has what it had
pub other : (A B : Content) (id : Id) (change : Option (List ℕ)) (below : List Id) → Sets A B id change → has_id below id ≡ false → (q : Id) → has_id below q ≡ true → B q ≡ A q
other A B id change below sets none q h = sets q ∙ ap (λ b. cond b change (A q)) (differs (same_id q id) refl)
  where
    differs : (b : Bool) → same_id q id ≡ b → same_id q id ≡ false
    differs false e = e
    differs true e = let bad : false ≡ true = sym none ∙ subst (λ x. has_id below x ≡ true) (same_id_is q id e) h in absurd (cc)
