-- A store seen through changes that aren't made yet.
use Rattle.std.specs.Prelude.{◌≡◌, ◌⊎◌, ◌||◌, ◌&&◌, ℕ, Bool, true, false, cond, not, ◌++◌, List, is_some, Option, Some, None, Result, refl, ◌≤◌, Ok}
use Rattle.block_id.specs.declared.fail.Fail.{Fail}
use Rattle.std.proofs.Common.{sym, ◌∙◌, ap, subst, inl, inr}
use Rattle.std.specs.FinMap as fin
use Rattle.std.specs.FinMap.{contains_key-keys}
use Rattle.std.proofs.lemmas.List.Folds.{list_any-append}
use Rattle.std.proofs.lemmas.Bool.{or_right, or_parts}
use Rattle.block_id.specs.Fresh.{zero_id}
use Rattle.store_outcome.specs.Meanings.{Meanings, Lawful}
use Rattle.store_outcome.specs.Outcome.{Outcome}
use Rattle.store_api.specs.Content.{Id, same_id, Changes, or_else, over}
use Rattle.store_api.specs.Holdings.{Holdings, Steady, FitsStore, IsFew, has_id}
use Rattle.store_api.specs.Ids.{ComeOfSeed, Drawn}

-- the changes with the removal of an id: an id that the store doesn't know is forgotten
abbrev pub without : List Id → Changes → Id → Changes
without used changes id = cond (has_id used id) (fin.insert changes id None) (fin.remove changes id)

-- Changes that fit a store of which so few ids are used that new ones can be drawn. Each new id among them was drawn.
pub record Overlaid {S : Type 0} (H : Holdings S) (s : S) (changes : Changes) (drawn : Drawn) : Type 0 where
  pub fits : FitsStore H s changes
  pub few : IsFew (H.used s)
  pub ids : ComeOfSeed drawn.seed drawn.left (H.used s) changes

-- f is the store below, g are the changes over it, and d is what draws their new ids: while blocks are loaded its seed stays
abbrev pub meanings_over : {A B : Type 0} → (A → B) → (A → Changes) → (A → Drawn) → Meanings B → Holdings B → Meanings A
meanings_over f g d M H = record {
  intact = λ a. M.intact (f a) × Overlaid H (f a) (g a) (d a);
  sound = λ a. M.sound (f a);
  forgeries = λ a. M.forgeries (f a);
  lies = λ a. M.lies (f a);
  faults = λ a. M.faults (f a);
  loaded = λ a b. M.loaded (f a) (f b) × ((d b).seed ≡ (d a).seed);
  met = λ a b why. M.met (f a) (f b) why;
  gave = λ a b why. M.gave (f a) (f b) why;
}

abbrev pub holdings_over : {A B : Type 0} → (A → B) → (A → Changes) → Holdings B → Holdings A
holdings_over f g H = record {
  content = λ a. over (g a) (H.content (f a));
  told = λ a. H.told (f a);
  used = λ a. fin.keys (g a) ++ H.used (f a);
  spent = λ a. H.spent (f a);
  version = λ a. H.version (f a);
  payload = λ a. H.payload (f a);
}

pub lawful_over : {A B : Type 0} (f : A → B) (g : A → Changes) (d : A → Drawn) (M : Meanings B) (H : Holdings B) → Lawful M → Lawful (meanings_over f g d M H)
lawful_over f g d M H l = record {
  same = λ a. (l.same (f a), refl);
  onward = λ a b c x y. (l.onward (f a) (f b) (f c) x.0 y.0, y.1 ∙ x.1);
  met_before = λ a b c why x y. l.met_before (f a) (f b) (f c) why x.0 y.0;
  met_after = λ a b c why x y. l.met_after (f a) (f b) (f c) why x.0 y.0;
  forgeries_grow = λ a b x. l.forgeries_grow (f a) (f b) x.0;
  lies_grow = λ a b x. l.lies_grow (f a) (f b) x.0;
  faults_grow = λ a b x. l.faults_grow (f a) (f b) x.0;
  honest_unforged = λ a b x. l.honest_unforged (f a) (f b) x.0;
  honest_unmet = λ a b why x. l.honest_unmet (f a) (f b) why x.0;
  gave_same = λ a. l.gave_same (f a);
  gave_split = λ a b c why x y. l.gave_split (f a) (f b) (f c) why x.0 y.0;
}

-- a call of the store below is one of this, which leaves the seed
pub called_over : {A B : Type 0} (f : A → B) (g : A → Changes) (d : A → Drawn) {M : Meanings B} (H : Holdings B) {T : Type 0} {N : Type 0} {P : N → T → Type 0} {r : Result T Fail} (a b : A)
    → Overlaid H (f b) (g b) (d b) → (d b).seed ≡ (d a).seed → Outcome M N (f a) (f b) r P → Outcome (meanings_over f g d M H) N a b r P
called_over f g d H a b kept seeded o = record { intact = (o.intact, kept); loaded = (o.loaded, seeded); sound = o.sound; met = o.met; fault = o.fault; quiet = o.quiet; noticed = o.noticed; value = o.value; structure = o.structure }

-- an id is used in the changes or in the store
pub has_id-over : (changes : Changes) (used : List Id) (id : Id) → has_id (fin.keys changes ++ used) id ≡ (is_some (fin.get changes id) || has_id used id)
has_id-over changes used id = list_any-append (same_id id) (fin.keys changes) used ∙ ap (λ b. b || has_id used id) (sym (contains_key-keys changes id))

used_if : (o : Option (Option (List ℕ))) (c : Option (List ℕ)) (b : Bool) → (is_some c ≡ true → b ≡ true) → is_some (or_else o c) ≡ true → (is_some o || b) ≡ true
used_if (Some change) c b f h = refl
used_if None c b f h = f h

-- the changes say nothing of the zero id
no_zero : {B : Type 0} (M : Meanings B) (H : Holdings B) (s : B) (changes : Changes) → Steady M H → M.intact s → FitsStore H s changes → (o : Option (Option (List ℕ))) → fin.get changes zero_id ≡ o → is_some o ≡ false
no_zero M H s changes st i fits None e = refl
no_zero M H s changes st i fits (Some None) e = let bad : true ≡ false = sym (st.content_used s zero_id i (fits.removes zero_id e)) ∙ st.zero_unused s i in absurd (cc)
no_zero M H s changes st i fits (Some (Some bytes)) e = elim (fits.gets zero_id bytes e) [
  | inl there ↦ let bad : true ≡ false = sym (st.content_used s zero_id i there) ∙ st.zero_unused s i in absurd (cc)
  | inr free ↦ absurd (never (has_id (H.used s) zero_id) free)
]
  where
    never : (b : Bool) → (not b && not (same_id zero_id zero_id)) ≡ true → ⊥
    never true h = absurd (cc)
    never false h = absurd (cc)

sized_over : (o : Option (Option (List ℕ))) (c : Option (List ℕ)) (bytes : List ℕ) → or_else o c ≡ Some bytes → (o ≡ Some (Some bytes)) ⊎ ((o ≡ None) × (c ≡ Some bytes))
sized_over None c bytes e = inr (refl, e)
sized_over (Some change) c bytes e = inl (ap Some e)

pub steady_over : {A B : Type 0} (f : A → B) (g : A → Changes) (d : A → Drawn) (M : Meanings B) (H : Holdings B) → Steady M H → Steady (meanings_over f g d M H) (holdings_over f g H)
steady_over f g d M H st = record {
  sound_told = λ a s. st.sound_told (f a) s;
  at_least = λ a i. st.at_least (f a) i.0;
  at_most = λ a i. st.at_most (f a) i.0;
  content_used = λ a id i h. has_id-over (g a) (H.used (f a)) id ∙ used_if (fin.get (g a) id) (H.content (f a) id) (has_id (H.used (f a)) id) (st.content_used (f a) id i.0) h;
  zero_unused = λ a i. has_id-over (g a) (H.used (f a)) zero_id
      ∙ (ap (λ b. b || has_id (H.used (f a)) zero_id) (no_zero M H (f a) (g a) st i.0 i.1.fits (fin.get (g a) zero_id) refl) ∙ st.zero_unused (f a) i.0);
  sized = λ a id bytes i t h. elim (sized_over (fin.get (g a) id) (H.content (f a) id) bytes h) [
    | inl new ↦ i.1.fits.sized id bytes new
    | inr old ↦ st.sized (f a) id bytes i.0 t old.1
  ];
  spent_used = λ a id i h. has_id-over (g a) (H.used (f a)) id ∙ or_right (is_some (fin.get (g a) id)) (has_id (H.used (f a)) id) (st.spent_used (f a) id i.0 h);
  spent_last = λ a id i. st.spent_last (f a) id i.0;
  last_spent = λ a id i. st.last_spent (f a) id i.0;
  unused_version = λ a id i h. st.unused_version (f a) id i.0 (or_parts (is_some (fin.get (g a) id)) (has_id (H.used (f a)) id) (sym (has_id-over (g a) (H.used (f a)) id) ∙ h)).1;
  loaded_payload = λ a b x. st.loaded_payload (f a) (f b) x.0;
  loaded_version = λ a b id x. st.loaded_version (f a) (f b) id x.0;
}

-- a call, and a change of the changes alone
pub changed_over : {A B : Type 0} (f : A → B) (g : A → Changes) (d : A → Drawn) (M : Meanings B) (H : Holdings B) {T U N : Type 0} {x : T} {y : U} {P : N → T → Type 0} {Q : N → U → Type 0} (a c b : A)
    → f b ≡ f c → (d b).seed ≡ (d c).seed → M.intact (f b) × Overlaid H (f b) (g b) (d b) → Outcome (meanings_over f g d M H) N a c (Ok x) P → ((n : N) → P n x → Q n y)
    → Outcome (meanings_over f g d M H) N a b (Ok y) Q
changed_over f g d M H a c b same seeded intact o into = record {
  intact = intact;
  loaded = (subst (M.loaded (f a)) (sym same) o.loaded.0, seeded ∙ o.loaded.1);
  sound = λ s h. subst M.sound (sym same) (o.sound s (subst (λ s. M.forgeries s ≤ M.forgeries (f a)) same h));
  met = tt;
  fault = tt;
  quiet = ap (λ s. M.faults s) same ∙ o.quiet;
  noticed = λ why given. o.noticed why (subst (λ s. M.gave (f a) s why) same given);
  value = λ n s h. into n (o.value n s (subst (λ s. M.forgeries s ≤ M.forgeries (f a)) same h));
  structure = λ n s h. tt;
}
