-- Lists of ids, one after another.
use Rattle.std.proofs.Common.{◌≡◌, ◌≢◌, ◌<◌, ◌≤◌, ◌+◌, ◌^◌, ◌||◌, ◌++◌, ℕ, zero, suc, Bool, true, false, List, [], ◌∷◌, map, length, take, drop, drop-cons, get_or, refl, sym, ◌∙◌, ap, subst, inl, inr, arith}
use Rattle.std.proofs.lemmas.List.{drop-map, take-append-drop}
use Rattle.block_id.specs.declared.id.BlockId.{BlockId}
use Rattle.mount_answering.proofs.data_tree_lemmas.Ids.{apart_right, in_one, in_right, not_both, same_self}
use Rattle.mount_answering.specs.data_tree.Trees.{NoDoubles}
use Rattle.mount_answering.proofs.store_api_lemmas.Rising.{same_id_is}
use Rattle.mount_answering.specs.store_api.Content.{Id, same_id}
use Rattle.mount_answering.specs.store_api.Durables.{Durables, IsNewFile}
use Rattle.mount_answering.specs.store_api.Holdings.{Holdings, has_id}
use Rattle.mount_migrating.specs.Migrating.{AreNew, AreUnspent, IsSpentAmong, Raises}
use Rattle.mount_migrating.proofs.Batches.{one_has}

abbrev pub listed : List BlockId → List Id
listed ids = map (λ id. id.0) ids

-- one more turn of a loop over them
pub turned : (ids : List BlockId) (i : ℕ) (d : BlockId) → i < length ids → drop i (listed ids) ≡ (get_or ids i d).0 ∷ drop (suc i) (listed ids)
turned ids i d h =
    drop-map (λ id. id.0) i ids ∙ ap (map (λ id. id.0)) (drop-cons ids i d h)
    ∙ ap (λ xs. (get_or ids i d).0 ∷ xs) (sym (drop-map (λ id. id.0) (suc i) ids))

pub next_taken : (xs : List Id) (i : ℕ) (x : Id) (ys : List Id) → drop i xs ≡ x ∷ ys → take (suc i) xs ≡ take i xs ++ x ∷ []
next_taken [] i x ys e = absurd (nothing i e)
  where
    nothing : (i : ℕ) → drop i [] ≡ x ∷ ys → ⊥
    nothing zero e = cc e
    nothing (suc i) e = cc e
next_taken (z ∷ zs) zero x ys e = cc e
next_taken (z ∷ zs) (suc i) x ys e = ap (λ l. z ∷ l) (next_taken zs i x ys e)

module _ (xs : List Id) (i : ℕ) (x : Id) (ys : List Id) (at : drop i xs ≡ x ∷ ys) where
  parts : xs ≡ take i xs ++ x ∷ ys
  parts = sym (take-append-drop i xs) ∙ ap (λ l. take i xs ++ l) at

  first_has : has_id (x ∷ ys) x ≡ true
  first_has = ap (λ b. b || has_id ys x) (same_self x)

  -- it is one of them, and none of those before it
  pub is_in : has_id xs x ≡ true
  is_in = subst (λ l. has_id l x ≡ true) (sym parts) (in_right (take i xs) (x ∷ ys) x first_has)

  pub is_next : NoDoubles xs → has_id (take i xs) x ≡ false
  is_next once = apart_right (take i xs) (x ∷ ys) (subst NoDoubles parts once) x first_has

module _ {S : Type 0} (H : Holdings S) (D : Durables S) (a b c : S) (done : List Id) (id : Id) (fresh : has_id done id ≡ false) where
  pub raises_then : Raises H a b done → Raises H b c (id ∷ []) → Raises H a c (done ++ id ∷ [])
  raises_then p q = record {
    raised = λ other. by other (has_id done other) refl;
    rests = λ other none. q.rests other (not_both done (id ∷ []) other none).1 ∙ p.rests other (not_both done (id ∷ []) other none).0;
  }
    where
      by : (other : Id) (e : Bool) → has_id done other ≡ e → H.version c other ≤ H.version a other + 1
      by other true has = let r = p.raised other in let s = q.rests other (one_has id other ∙ apart other has) in omega (arith, r, s)
        where
          apart : (other : Id) → has_id done other ≡ true → same_id other id ≡ false
          apart other has = at (same_id other id) refl
            where
              at : (e : Bool) → same_id other id ≡ e → same_id other id ≡ false
              at false e = e
              at true e = absurd (cc (sym fresh ∙ (ap (has_id done) (sym (same_id_is other id e)) ∙ has)))
      by other false has = let r = q.raised other in let s = p.rests other has in omega (arith, r, s)

  pub unspent_then : Raises H a b done → AreUnspent H a done → AreUnspent H b (id ∷ []) → AreUnspent H a (done ++ id ∷ [])
  unspent_then p before next other has = elim (in_one done (id ∷ []) other has) as (λ _. H.version a other + 1 ≢ 2 ^ 64) [
    | inl h ↦ before other h
    | inr h ↦ λ last. next other h.1 (ap (λ n. n + 1) (p.rests other h.0) ∙ last)
  ]

  pub new_then : AreNew H D b done → AreNew H D c (id ∷ []) → ((other : Id) → IsNewFile D b other → IsNewFile D c other) → AreNew H D c (done ++ id ∷ [])
  new_then before next stays other has = elim (in_one done (id ∷ []) other has) as (λ _. IsNewFile D c other) [
    | inl h ↦ stays other (before other h)
    | inr h ↦ next other h.1
  ]

  pub spent_then : (all : List Id) → has_id all id ≡ true → Raises H a b done → IsSpentAmong H b (id ∷ []) → IsSpentAmong H a all
  spent_then all has p (other, one, last) =
      let is = same_id_is other id (sym (one_has id other) ∙ one) in
      (id, has, subst (λ x. H.version a x + 1 ≡ 2 ^ 64) is (ap (λ n. n + 1) (sym (p.rests other (ap (has_id done) is ∙ fresh))) ∙ last))

-- of more ids
pub raises_wider : {S : Type 0} (H : Holdings S) (a b : S) (xs ys : List Id) → Raises H a b xs → Raises H a b (xs ++ ys)
raises_wider H a b xs ys r = record { raised = r.raised; rests = λ other none. r.rests other (not_both xs ys other none).0 }
