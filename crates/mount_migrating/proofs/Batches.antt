-- A batch of one payload.
use Rattle.std.proofs.Common.{◌≡◌, ◌||◌, ℕ, Bool, true, false, cond, length, List, [], ◌∷◌, refl, sym, ◌∙◌, ap, subst, inl}
use Rattle.std.specs.Prelude.{is_some}
use Rattle.std.specs.FinMap as fin
use Rattle.std.specs.FinMap.{get-empty, get-insert}
use Rattle.std.specs.declared.option.Option.{Option}
use Rattle.std.specs.declared.option.Option.TheVariants.{None, Some}
use Rattle.std.proofs.lemmas.Option.{same_Some, none-some}
use Rattle.mount_answering.proofs.data_tree_lemmas.Ids.{same_self}
use Rattle.mount_answering.specs.mount_core.Drawing.{NamesKnown}
use Rattle.mount_answering.specs.store_outcome.Meanings.{Meanings}
use Rattle.mount_answering.proofs.store_api_lemmas.Rising.{ids_total, same_id_is}
use Rattle.mount_answering.specs.store_api.Content.{Id, Content, SameContent, Changes, id_cmp, same_id, or_else, over}
use Rattle.mount_answering.specs.store_api.Holdings.{Holdings, Steady, FitsStore, MayGet, has_id, gives_payload}

-- this payload for this id
abbrev pub one : Id → List ℕ → Changes
one id payload = fin.insert fin.empty id (Some payload)

pub one_get : (id other : Id) (payload : List ℕ) → fin.get (one id payload) other ≡ cond (same_id other id) (Some (Some payload)) None
one_get id other payload = get-insert ids_total fin.empty id (Some payload) other ∙ ap (λ x. cond (same_id other id) (Some (Some payload)) x) (get-empty id_cmp other)

-- what it says of an id, it says of this one
pub one_says : (id other : Id) (payload : List ℕ) (change : Option (List ℕ)) → fin.get (one id payload) other ≡ Some change → (other ≡ id) × (change ≡ Some payload)
one_says id other payload change e = by (same_id other id) refl
  where
    by : (b : Bool) → same_id other id ≡ b → (other ≡ id) × (change ≡ Some payload)
    by true s = (same_id_is other id s, sym (same_Some _ _ (ap (λ b. cond b (Some (Some payload)) None) (sym s) ∙ (sym (one_get id other payload) ∙ e))))
    by false s = absurd (none-some change (ap (λ b. cond b (Some (Some payload)) None) (sym s) ∙ (sym (one_get id other payload) ∙ e)))

pub one_other : (id other : Id) (payload : List ℕ) → same_id other id ≡ false → fin.get (one id payload) other ≡ None
one_other id other payload s = one_get id other payload ∙ ap (λ b. cond b (Some (Some payload)) None) s

-- it fits where the id is in the content, and the payload has its length
pub one_fits : {S : Type 0} (H : Holdings S) (s : S) (id : Id) (payload : List ℕ) → is_some (H.content s id) ≡ true → length payload ≡ H.payload s → FitsStore H s (one id payload)
one_fits H s id payload live sized = record {
  sized = λ other bytes e. ap length (same_Some _ _ (one_says id other payload (Some bytes) e).1) ∙ sized;
  gets = λ other bytes e. subst (MayGet H s) (sym (one_says id other payload (Some bytes) e).0) (inl live);
  removes = λ other e. absurd (none-some payload (one_says id other payload None e).1);
}

-- its id is used then
pub one_known : {S : Type 0} (M : Meanings S) (H : Holdings S) → Steady M H → (s : S) (id : Id) (payload : List ℕ) → M.intact s → is_some (H.content s id) ≡ true → NamesKnown H s (one id payload)
one_known M H steady s id payload intact live other some = by (same_id other id) refl
  where
    by : (b : Bool) → same_id other id ≡ b → has_id (H.used s) other ≡ true
    by true e = subst (λ x. has_id (H.used s) x ≡ true) (sym (same_id_is other id e)) (steady.content_used s id intact live)
    by false e = let bad : false ≡ true = sym (ap is_some (one_other id other payload e)) ∙ some in absurd (cc)

-- it leaves a content that holds the payload
pub one_leaves : (id : Id) (payload : List ℕ) (content : Content) → content id ≡ Some payload → SameContent content (over (one id payload) content)
one_leaves id payload content holds other = by (same_id other id) refl
  where
    by : (b : Bool) → same_id other id ≡ b → over (one id payload) content other ≡ content other
    by true s =
        ap (λ x. or_else x (content other)) (one_get id other payload ∙ ap (λ b. cond b (Some (Some payload)) None) s)
        ∙ sym (ap content (same_id_is other id s) ∙ holds)
    by false s = ap (λ x. or_else x (content other)) (one_other id other payload s)

-- nor does it change which ids there are
pub one_ids : (id : Id) (payload : List ℕ) (content : Content) → is_some (content id) ≡ true → (other : Id) → is_some (over (one id payload) content other) ≡ is_some (content other)
one_ids id payload content live other = by (same_id other id) refl
  where
    by : (b : Bool) → same_id other id ≡ b → is_some (over (one id payload) content other) ≡ is_some (content other)
    by true s =
        ap (λ x. is_some (or_else x (content other))) (one_get id other payload ∙ ap (λ b. cond b (Some (Some payload)) None) s)
        ∙ sym (ap (λ x. is_some (content x)) (same_id_is other id s) ∙ live)
    by false s = ap (λ x. is_some (or_else x (content other))) (one_other id other payload s)

-- ---- a list of one id

or_none : (b : Bool) → (b || false) ≡ b
or_none true = refl
or_none false = refl

pub one_has : (id other : Id) → has_id (id ∷ []) other ≡ same_id other id
one_has id other = or_none (same_id other id)

pub one_rests : (id other : Id) (payload : List ℕ) → has_id (id ∷ []) other ≡ false → gives_payload (fin.get (one id payload) other) ≡ false
one_rests id other payload none = ap gives_payload (one_other id other payload (sym (one_has id other) ∙ none))

pub one_self : (id : Id) (payload : List ℕ) → fin.get (one id payload) id ≡ Some (Some payload)
one_self id payload = one_get id id payload ∙ ap (λ b. cond b (Some (Some payload)) None) (same_self id)
