-- The laws of a store: of its meanings, and of what it holds.
use Rattle.std.specs.Prelude.{◌≡◌, ◌⊎◌, ◌≤◌, ℕ, ◌+◌, true, false, List, is_some, ◌-◌, length, ◌^◌}
use Rattle.std.specs.declared.option.Option.{Option}
use Rattle.std.specs.declared.option.Option.TheVariants.{None, Some}
use Rattle.std.proofs.Common.{refl, sym, ◌∙◌, ap, subst, inl, inr, arith, eqb-true, eq-eqb}
use Rattle.std.proofs.lemmas.List.{length-replicate}
use Rattle.std.specs.FinMap.{contains_key-keys}
use Rattle.std.specs.FinMap as fin
use Rattle.std.proofs.lemmas.Option.{same_Some}
use Rattle.block_id.specs.declared.fail.Why.{Why}
use Rattle.block_id.specs.Fresh.{zero_id}
use Rattle.outside.specs.Trace.{Call}
use Rattle.outside.specs.Honest.{is_lie, count_told}
use Rattle.store_api.specs.store_outcome.Meanings.{Lawful}
use Rattle.local_state.specs.declared.life.Life.{Life}
use Rattle.local_state.specs.Known.{FitLives, version_if_live, is_last}
use Rattle.store_api.specs.Content.{Id}
use Rattle.store_api.specs.Holdings.{Steady, Stays, has_id}
use Rattle.block_versions.specs.BlockRecords.{opened, payload_in}
use Rattle.block_versions.specs.RecordLaws.{opened_len}
use Rattle.block_versions.specs.AlarmLaws.{found_unmet}
use Rattle.block_versions.specs.Forgeries.{forged}
use Rattle.block_versions.specs.ForgeryLaws.{went_count, went_honest}
use Rattle.block_versions.specs.Held.{Held, file_of, live_version, told_or_none, wanted, where_live}
use Rattle.block_versions.specs.ReadLaws.{found_after, found_before, gave_same, gave_split, wanted_ids, went_on, went_same, went_told, went_wanted}
use Rattle.block_versions.specs.Reads.{FoundSince, GaveWrong, WentOnByReads}
use Rattle.block_versions.specs.Soundness.{SoundBy}
use Rattle.block_versions.specs.Stores.{OnlyRead, holdings_by, meanings_by, version_in}

-- ---- the laws of meanings

only_on : (a b c : Held) (t u v : Option (List Call)) (f g k : ℕ) → OnlyRead a b t u f g → OnlyRead b c u v g k → OnlyRead a c t v f k
only_on a b c t u v f g k x y = record {
  held = y.held ∙ x.held;
  trace = went_on a t u v x.trace (subst (λ s. WentOnByReads s u v) x.held y.trace);
  faults = omega (arith, x.faults, y.faults);
}

only_before : (a b c : Held) (t u v : Option (List Call)) (f g k : ℕ) (why : Why) → OnlyRead a b t u f g → OnlyRead b c u v g k → FoundSince a t u why → FoundSince a t v why
only_before a b c t u v f g k why x y found = found_before a t u v why x.trace (subst (λ s. WentOnByReads s u v) x.held y.trace) found

only_after : (a b c : Held) (t u v : Option (List Call)) (f g k : ℕ) (why : Why) → OnlyRead a b t u f g → OnlyRead b c u v g k → FoundSince b u v why → FoundSince a t v why
only_after a b c t u v f g k why x y found =
    found_after a t u v why x.trace (subst (λ s. WentOnByReads s u v) x.held y.trace) (subst (λ s. FoundSince s u v why) x.held found)

only_forgeries : (a b : Held) (t u : Option (List Call)) (f g : ℕ) → OnlyRead a b t u f g → count_told (forged a.opens a.size) t ≤ count_told (forged b.opens b.size) u
only_forgeries a b t u f g x =
    subst (λ s. count_told (forged a.opens a.size) t ≤ count_told (forged s.opens s.size) u) (sym x.held) (went_count (forged a.opens a.size) a t u x.trace)

only_honest : (a b : Held) (t u : Option (List Call)) (f g : ℕ) → OnlyRead a b t u f g → SoundBy a t → count_told is_lie u ≤ count_told is_lie t
    → count_told (forged b.opens b.size) u ≤ count_told (forged a.opens a.size) t
only_honest a b t u f g x sound few =
    subst (λ s. count_told (forged s.opens s.size) u ≤ count_told (forged a.opens a.size) t) (sym x.held) (went_honest a t u x.trace sound few)

only_unmet : (a b : Held) (t u : Option (List Call)) (f g : ℕ) (why : Why) → OnlyRead a b t u f g → SoundBy a t → count_told is_lie u ≤ count_told is_lie t → FoundSince a t u why → ⊥
only_unmet a b t u f g why x sound few found = found_unmet a t u why x.trace sound few found

only_split : (a b c : Held) (t u v : Option (List Call)) (f g k : ℕ) (why : Why) → OnlyRead a b t u f g → OnlyRead b c u v g k → GaveWrong a t v why → GaveWrong a t u why ⊎ GaveWrong b u v why
only_split a b c t u v f g k why x y gave = elim (gave_split a t u v why x.trace (subst (λ s. WentOnByReads s u v) x.held y.trace) gave) [
  | inl first ↦ inl first
  | inr second ↦ inr (subst (λ s. GaveWrong s u v why) (sym x.held) second)
]

pub lawful_by : {S : Type 0} (held : S → Held) (trace : S → Option (List Call)) (faults : S → ℕ) (own : S → Type 0) → Lawful (meanings_by held trace faults own)
lawful_by held trace faults own = record {
  same = λ a. record { held = refl; trace = went_same (held a) (trace a); faults = omega arith };
  onward = λ a b c x y. only_on _ _ _ _ _ _ _ _ _ x y;
  met_before = λ a b c why x y m. only_before _ _ _ _ _ _ _ _ _ why x y m;
  met_after = λ a b c why x y m. only_after _ _ _ _ _ _ _ _ _ why x y m;
  forgeries_grow = λ a b x. only_forgeries _ _ _ _ _ _ x;
  lies_grow = λ a b x. went_count is_lie _ _ _ x.trace;
  faults_grow = λ a b x. x.faults;
  honest_unforged = λ a b x s l. only_honest _ _ _ _ _ _ x s l;
  honest_unmet = λ a b why x s l m. only_unmet _ _ _ _ _ _ why x s l m;
  gave_same = λ a. gave_same (held a) (trace a);
  gave_split = λ a b c why x y g. only_split _ _ _ _ _ _ _ _ _ why x y g;
}

-- ---- what is steady

true_is_false : true ≡ false → ⊥
true_is_false e = cc

pub sound_is_told : (h : Held) (t : Option (List Call)) → SoundBy h t → is_some t ≡ true
sound_is_told h None s = absurd s
sound_is_told h (Some t) s = refl

-- an id is among the used ones exactly where it is known
pub has-keys : (h : Held) (id : Id) → has_id (fin.keys h.state.lives) id ≡ is_some (fin.get h.state.lives id)
has-keys h id = sym (contains_key-keys h.state.lives id)

live_known : (life : Option Life) (payload : List ℕ) → is_some (where_live (version_if_live life) payload) ≡ true → is_some life ≡ true
live_known None payload e = e
live_known (Some life) payload e = refl

wanted_used : (h : Held) (t : Option (List Call)) (id : Id) → is_some (wanted h t id) ≡ true → has_id (fin.keys h.state.lives) id ≡ true
wanted_used h t id e = has-keys h id ∙ live_known (fin.get h.state.lives id) (payload_in h.opens h.size id (file_of h (told_or_none t) id)) e

last_version : (life : Option Life) → is_last life ≡ true → version_in life + 1 ≡ 2 ^ 64
last_version None e = absurd (cc)
last_version (Some life) e = ap (λ n. n + 1) (eqb-true life.version (2 ^ 64 - 1) e)

version_last : (life : Option Life) → version_in life + 1 ≡ 2 ^ 64 → is_last life ≡ true
version_last None e = absurd (omega arith)
version_last (Some life) e = eq-eqb life.version (2 ^ 64 - 1) (omega arith)

no_version : (life : Option Life) → is_some life ≡ false → version_in life ≡ 0
no_version None e = refl
no_version (Some life) e = absurd (cc)

last_known : (life : Option Life) → is_last life ≡ true → is_some life ≡ true
last_known None e = e
last_known (Some life) e = refl

zero_free : (h : Held) → FitLives h.state.lives → has_id (fin.keys h.state.lives) zero_id ≡ false
zero_free h fits = has-keys h zero_id ∙ elim (fin.get h.state.lives zero_id) as (λ m. fin.get h.state.lives zero_id ≡ m → is_some m ≡ false) [
  | None ↦ λ e. refl
  | Some life ↦ λ e. let f = rw e at (fits zero_id) in absurd (f.not_zero refl)
] refl

file_len : (h : Held) (id : List ℕ) (file : Option (List ℕ)) → length (payload_in h.opens h.size id file) ≡ h.size - 78
file_len h id None = length-replicate (h.size - 78) 0
file_len h id (Some bytes) = opened_len h.size h.opens id bytes (opened h.opens h.size id bytes) refl

live_payload : (live : Option ℕ) (payload bytes : List ℕ) → where_live live payload ≡ Some bytes → payload ≡ bytes
live_payload None payload bytes e = absurd (true_is_false (ap is_some (sym e)))
live_payload (Some version) payload bytes e = same_Some payload bytes e

wanted_len : (h : Held) (t : Option (List Call)) (id bytes : List ℕ) → wanted h t id ≡ Some bytes → length bytes ≡ h.size - 78
wanted_len h t id bytes e =
    subst (λ p. length p ≡ h.size - 78) (live_payload (live_version h id) _ bytes e) (file_len h id (file_of h (told_or_none t) id))

pub steady_by : {S : Type 0} (held : S → Held) (trace : S → Option (List Call)) (faults : S → ℕ) (own : S → Type 0) → Steady (meanings_by held trace faults own) (holdings_by held trace)
steady_by held trace faults own = record {
  sound_told = λ a s. sound_is_told (held a) (trace a) s;
  at_least = λ a i. omega (arith, i.0.least);
  at_most = λ a i. omega (arith, i.0.most);
  content_used = λ a id i e. wanted_used (held a) (trace a) id e;
  zero_unused = λ a i. zero_free (held a) i.0.has_record.state.lives;
  sized = λ a id bytes i told e. wanted_len (held a) (trace a) id bytes e;
  spent_used = λ a id i e. has-keys (held a) id ∙ last_known (fin.get (held a).state.lives id) e;
  spent_last = λ a id i e. last_version (fin.get (held a).state.lives id) e;
  last_spent = λ a id i e. version_last (fin.get (held a).state.lives id) e;
  unused_version = λ a id i e. no_version (fin.get (held a).state.lives id) (sym (has-keys (held a) id) ∙ e);
  loaded_payload = λ a b x. ap (λ h. h.size - 78) x.held;
  loaded_version = λ a b id x. ap (λ h. version_in (fin.get h.state.lives id)) x.held;
}

-- ---- loading

-- where blocks were only loaded, the store holds what it held
pub settled_by : {S : Type 0} (held : S → Held) (trace : S → Option (List Call)) (faults : S → ℕ) (a b : S)
    → OnlyRead (held a) (held b) (trace a) (trace b) (faults a) (faults b) → Stays (holdings_by held trace) a b
settled_by held trace faults a b x = record {
  ids = λ id. subst (λ h. is_some (wanted h (trace b) id) ≡ is_some (wanted (held a) (trace a) id)) (sym x.held) (wanted_ids (held a) (trace a) (trace b) id);
  content = λ told id. subst (λ h. wanted h (trace b) id ≡ wanted (held a) (trace a) id) (sym x.held) (went_wanted (held a) (held a) (trace a) (trace b) x.trace told id);
  told = went_told (held a) (trace a) (trace b) x.trace;
  used = ap (λ h. fin.keys h.state.lives) x.held;
  spent = λ id. ap (λ h. is_last (fin.get h.state.lives id)) x.held;
  version = λ id. ap (λ h. version_in (fin.get h.state.lives id)) x.held;
  payload = ap (λ h. h.size - 78) x.held;
}
