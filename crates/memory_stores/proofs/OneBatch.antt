-- A batch of one payload.
use Rattle.std.proofs.Common.{◌≡◌, ℕ, Bool, true, false, cond, List, length, refl, sym, ◌∙◌, ap, subst}
use Rattle.std.specs.Prelude.{Option, Some, None}
use Rattle.std.specs.FinMap as fin
use Rattle.std.specs.FinMap.{get-empty, get-insert}
use Rattle.std.proofs.lemmas.Option.{none-some, same_Some}
use Rattle.store_api.specs.Content.{Id, id_cmp, same_id, Changes}
use Rattle.store_api.specs.Holdings.{Holdings, FitsStore, MayGet}
use Rattle.store_api.proofs.Rising.{ids_total, same_id_is}

-- it, and its one entry
abbrev one_of : Id → List ℕ → Changes
one_of id bytes = fin.insert fin.empty id (Some bytes)

the_entry : (id bytes : List ℕ) (q : Id) (c : Option (List ℕ)) → fin.get (one_of id bytes) q ≡ Some c → (q ≡ id) × (Some bytes ≡ c)
the_entry id bytes q c e = by (same_id q id) refl (sym (get-insert ids_total fin.empty id (Some bytes) q) ∙ e)
  where
    by : (b : Bool) → same_id q id ≡ b → cond b (Some (Some bytes)) (fin.get {R = id_cmp} fin.empty q) ≡ Some c → (q ≡ id) × (Some bytes ≡ c)
    by true same h = (same_id_is q id same, same_Some _ _ h)
    by false other h = absurd (none-some c (sym (get-empty id_cmp q) ∙ h))

-- it fits a store that lets its id get the payload
pub fits_one : {S : Type 0} (H : Holdings S) (s : S) (id bytes : List ℕ) → length bytes ≡ H.payload s → MayGet H s id → FitsStore H s (one_of id bytes)
fits_one H s id bytes sized may = record {
  sized = λ q other e. ap length (sym (same_Some _ _ (the_entry id bytes q (Some other) e).1)) ∙ sized;
  gets = λ q other e. subst (MayGet H s) (sym (the_entry id bytes q (Some other) e).0) may;
  removes = λ q e. absurd (none-some bytes (sym (the_entry id bytes q None e).1));
}
