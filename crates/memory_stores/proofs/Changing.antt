-- What a store of rows owes after its rows were changed.
use Rattle.std.proofs.Common.{◌≡◌, ◌⊎◌, ◌≤◌, ℕ, Bool, true, false, List, refl, sym, ◌∙◌, ap, subst, inl, inr, arith}
use Rattle.std.specs.Prelude.{Option, Some, None, is_some, not, ◌&&◌}
use Rattle.std.specs.FinMap as fin
use Rattle.std.specs.FinMap.{get-empty}
use Rattle.block_id.specs.Fresh.{zero_id}
use Rattle.block_id.specs.declared.sizes.TheConstants.{MIN_PAYLOAD, MAX_BLOCK}
use Rattle.store_api.specs.Content.{Id, id_cmp, Changes, same_id, or_else, over}
use Rattle.store_api.specs.Holdings.{FitsStore, Changed, IsFew, has_id}
use Rattle.memory_stores.specs.Rows.{Kept, AreWith, newer, content_of, meanings_of, holdings_of, has_id-keys}

abbrev pub Row : Type 0
Row = Option (Option (List ℕ))

newer_cases : (o row x : Row) → newer o row ≡ x → (o ≡ x) ⊎ (row ≡ x)
newer_cases None row x h = inr h
newer_cases (Some change) row x h = inl h

shown : (o row : Row) → or_else (newer o row) None ≡ or_else o (or_else row None)
shown None row = refl
shown (Some change) row = refl

used_with : (o row : Row) → is_some (newer o row) ≡ true → (is_some row ≡ true) ⊎ (is_some o ≡ true)
used_with None row h = inl h
used_with (Some change) row h = inr refl

stays_with : (o row : Row) → is_some row ≡ true → is_some (newer o row) ≡ true
stays_with None row h = h
stays_with (Some change) row h = refl

never : (b : Bool) → (not b && not (same_id zero_id zero_id)) ≡ true → ⊥
never true h = absurd (cc)
never false h = absurd (cc)

not_there : (row : Row) → row ≡ None → is_some (or_else row None) ≡ true → ⊥
not_there None e h = absurd (cc)
not_there (Some change) e h = absurd (cc)

none_some : (x : Option (List ℕ)) → None ≡ Some x → ⊥
none_some x e = absurd (cc)

-- a new store
pub kept_nothing : (payload : ℕ) (rows : Changes) → MIN_PAYLOAD ≤ payload → payload ≤ MAX_BLOCK → rows ≡ fin.empty → Kept payload rows
kept_nothing payload rows low high is = record {
  at_least = low;
  at_most = high;
  sized = λ id bytes h. absurd (none_some (Some bytes) (sym (ap (λ m. fin.get m id) is ∙ get-empty id_cmp id) ∙ h));
  no_zero = ap (λ m. fin.get m zero_id) is ∙ get-empty id_cmp zero_id;
}

module _ {S : Type 0} (p : S → ℕ) (r : S → Changes) (a b : S) (changes : Changes) where
  -- the changes say nothing of the zero id
  zero_unchanged : Kept (p a) (r a) → FitsStore (holdings_of p r) a changes → (o : Row) → fin.get changes zero_id ≡ o → o ≡ None
  zero_unchanged k fits None e = refl
  zero_unchanged k fits (Some None) e = absurd (not_there (fin.get (r a) zero_id) k.no_zero (fits.removes zero_id e))
  zero_unchanged k fits (Some (Some bytes)) e = elim (fits.gets zero_id bytes e) [
    | inl there ↦ absurd (not_there (fin.get (r a) zero_id) k.no_zero there)
    | inr free ↦ absurd (never (has_id (fin.keys (r a)) zero_id) free)
  ]

  pub kept_with : Kept (p a) (r a) → FitsStore (holdings_of p r) a changes → p b ≡ p a → AreWith changes (r a) (r b) → Kept (p b) (r b)
  kept_with k fits same are = record {
    at_least = subst (λ n. MIN_PAYLOAD ≤ n) (sym same) k.at_least;
    at_most = subst (λ n. n ≤ MAX_BLOCK) (sym same) k.at_most;
    sized = λ id bytes h. elim (newer_cases (fin.get changes id) (fin.get (r a) id) (Some (Some bytes)) (sym (are id) ∙ h)) [
      | inl new ↦ fits.sized id bytes new ∙ sym same
      | inr old ↦ k.sized id bytes old ∙ sym same
    ];
    no_zero = are zero_id ∙ (ap (λ o. newer o (fin.get (r a) zero_id)) (zero_unchanged k fits (fin.get changes zero_id) refl) ∙ k.no_zero);
  }

  content_with : AreWith changes (r a) (r b) → (id : Id) → content_of (r b) id ≡ over changes (content_of (r a)) id
  content_with are id = ap (λ o. or_else o None) (are id) ∙ shown (fin.get changes id) (fin.get (r a) id)

  pub changed_with : p b ≡ p a → AreWith changes (r a) (r b) → IsFew (fin.keys (r b)) → Changed (meanings_of p r) (holdings_of p r) a b changes
  changed_with same are few = record {
    ids = λ id. ap is_some (content_with are id);
    content = λ t id. content_with are id;
    told = refl;
    used = λ id h. elim (used_with (fin.get changes id) (fin.get (r a) id) (sym (ap is_some (are id)) ∙ (sym (has_id-keys (r b) id) ∙ h))) [
      | inl old ↦ inl (has_id-keys (r a) id ∙ old)
      | inr new ↦ inr new
    ];
    stays_used = λ id h. has_id-keys (r b) id ∙ (ap is_some (are id) ∙ stays_with (fin.get changes id) (fin.get (r a) id) (sym (has_id-keys (r a) id) ∙ h));
    few = λ f. few;
    spent = λ id none. refl;
    kept = λ id. omega arith;
    raised = λ id. omega arith;
    rests = λ id none. refl;
    payload = same;
    sound = λ s. tt;
  }
