-- The laws of a store of found blocks: of its meanings, and of what it holds.
use Rattle.std.specs.Prelude.{◌≡◌, ◌⊎◌, ◌≤◌, ℕ, ◌+◌, ◌-◌, ◌^◌, Bool, true, false, ◌||◌, List, [], ◌∷◌, is_some, length, cond}
use Rattle.std.specs.FinMap.{find}
use Rattle.std.specs.declared.option.Option.{Option}
use Rattle.std.specs.declared.option.Option.TheVariants.{None, Some}
use Rattle.std.proofs.Common.{refl, sym, ◌∙◌, ap, subst, inl, inr, arith}
use Rattle.std.proofs.lemmas.Option.{same_Some}
use Rattle.block_id.specs.declared.fail.Why.{Why}
use Rattle.block_id.specs.Fresh.{zero_id}
use Rattle.outside.specs.Trace.{Call}
use Rattle.outside.specs.Honest.{count_told}
use Rattle.store_api.specs.store_outcome.Meanings.{Lawful}
use Rattle.store_api.specs.Content.{Id, id_cmp, same_id}
use Rattle.store_api.specs.Holdings.{Steady, Stays, has_id}
use Rattle.block_versions.specs.Verdicts.{Verdict}
use Rattle.found_blocks.specs.Rows.{Author, Authors, author_in, ids_in}
use Rattle.found_blocks.specs.Finding.{Finding, content_of, is_other, is_twin, payload_of, where_found}
use Rattle.found_blocks.specs.ReadLaws.{found_after, found_before, found_unmet, gave_same, gave_split, went_count, went_on, went_same, went_untwinned}
use Rattle.found_blocks.specs.Reads.{FoundSince, GaveWrong, WentOnByReads, passes}
use Rattle.found_blocks.specs.Stores.{OnlyRead, holdings_by, meanings_by}

-- ---- the laws of meanings

only_on : (a b c : Finding) (t u v : Option (List Call)) (f g k : ℕ) → OnlyRead a b t u f g → OnlyRead b c u v g k → OnlyRead a c t v f k
only_on a b c t u v f g k x y = record {
  same = y.same ∙ x.same;
  trace = went_on a t u v x.trace (subst (λ s. WentOnByReads s u v) x.same y.trace);
  faults = omega (arith, x.faults, y.faults);
}

only_before : (a b c : Finding) (t u v : Option (List Call)) (f g k : ℕ) (why : Why) → OnlyRead a b t u f g → OnlyRead b c u v g k → FoundSince a t u why → FoundSince a t v why
only_before a b c t u v f g k why x y found = found_before a t u v why x.trace (subst (λ s. WentOnByReads s u v) x.same y.trace) found

only_after : (a b c : Finding) (t u v : Option (List Call)) (f g k : ℕ) (why : Why) → OnlyRead a b t u f g → OnlyRead b c u v g k → FoundSince b u v why → FoundSince a t v why
only_after a b c t u v f g k why x y found =
    found_after a t u v why x.trace (subst (λ s. WentOnByReads s u v) x.same y.trace) (subst (λ s. FoundSince s u v why) x.same found)

only_count : (test : Verdict → List ℕ → Bool) (a b : Finding) (t u : Option (List Call)) (f g : ℕ) → OnlyRead a b t u f g → count_told (passes test a) t ≤ count_told (passes test b) u
only_count test a b t u f g x =
    subst (λ s. count_told (passes test a) t ≤ count_told (passes test s) u) (sym x.same) (went_count (passes test a) a t u x.trace)

only_honest : (a b : Finding) (t u : Option (List Call)) (f g : ℕ) → OnlyRead a b t u f g → count_told (passes is_other b) u ≤ count_told (passes is_other a) t
    → count_told (passes is_twin b) u ≤ count_told (passes is_twin a) t
only_honest a b t u f g x few =
    subst (λ s. count_told (passes is_twin s) u ≤ count_told (passes is_twin a) t) (sym x.same)
    (went_untwinned a t u x.trace (subst (λ s. count_told (passes is_other s) u ≤ count_told (passes is_other a) t) x.same few))

only_unmet : (a b : Finding) (t u : Option (List Call)) (f g : ℕ) (why : Why) → OnlyRead a b t u f g → is_some t ≡ true → count_told (passes is_other b) u ≤ count_told (passes is_other a) t
    → FoundSince a t u why → ⊥
only_unmet a b t u f g why x told few found =
    found_unmet a t u why told (subst (λ s. count_told (passes is_other s) u ≤ count_told (passes is_other a) t) x.same few) found

only_split : (a b c : Finding) (t u v : Option (List Call)) (f g k : ℕ) (why : Why) → OnlyRead a b t u f g → OnlyRead b c u v g k → GaveWrong a t v why → GaveWrong a t u why ⊎ GaveWrong b u v why
only_split a b c t u v f g k why x y gave = elim (gave_split a t u v why x.trace (subst (λ s. WentOnByReads s u v) x.same y.trace) gave) [
  | inl first ↦ inl first
  | inr second ↦ inr (subst (λ s. GaveWrong s u v why) (sym x.same) second)
]

pub lawful_by : {S : Type 0} (found : S → Finding) (trace : S → Option (List Call)) (faults : S → ℕ) (own : S → Type 0) → Lawful (meanings_by found trace faults own)
lawful_by found trace faults own = record {
  same = λ a. record { same = refl; trace = went_same (found a) (trace a); faults = omega arith };
  onward = λ a b c x y. only_on _ _ _ _ _ _ _ _ _ x y;
  met_before = λ a b c why x y m. only_before _ _ _ _ _ _ _ _ _ why x y m;
  met_after = λ a b c why x y m. only_after _ _ _ _ _ _ _ _ _ why x y m;
  forgeries_grow = λ a b x. only_count is_twin _ _ _ _ _ _ x;
  lies_grow = λ a b x. only_count is_other _ _ _ _ _ _ x;
  faults_grow = λ a b x. x.faults;
  honest_unforged = λ a b x s l. only_honest _ _ _ _ _ _ x l;
  honest_unmet = λ a b why x s l m. only_unmet _ _ _ _ _ _ why x s l m;
  gave_same = λ a. gave_same (found a) (trace a);
  gave_split = λ a b c why x y g. only_split _ _ _ _ _ _ _ _ _ why x y g;
}

-- ---- what is steady

-- a block has a row where it has an author
pub has_row : (rows : Authors) (id : Id) → has_id (ids_in rows) id ≡ is_some (author_in rows id)
has_row [] id = refl
has_row (row ∷ rows) id = elim (same_id id row.0) as (λ b. (b || has_id (ids_in rows) id) ≡ is_some (cond b (Some row.1) (find id_cmp id rows))) [ true ↦ refl | false ↦ has_row rows id ]

pub found_is_some : (author : Option Author) (payload : List ℕ) → is_some (where_found author payload) ≡ is_some author
found_is_some None payload = refl
found_is_some (Some author) payload = refl

none_is : (author : Option Author) → author ≡ None → is_some author ≡ false
none_is author e = ap is_some e

found_len : (author : Option Author) (payload bytes : List ℕ) (n : ℕ) → ((a : Author) → author ≡ Some a → length payload ≡ n) → where_found author payload ≡ Some bytes → length bytes ≡ n
found_len None payload bytes n sized e = absurd (cc)
found_len (Some a) payload bytes n sized e = subst (λ p. length p ≡ n) (same_Some payload bytes e) (sized a refl)

one_not_last : 0 + 1 ≡ 2 ^ 64 → ⊥
one_not_last e = omega arith

pub steady_by : {S : Type 0} (found : S → Finding) (trace : S → Option (List Call)) (faults : S → ℕ) (own : S → Type 0) → Steady (meanings_by found trace faults own) (holdings_by found)
steady_by found trace faults own = record {
  sound_told = λ a s. refl;
  at_least = λ a i. omega (arith, i.0.least);
  at_most = λ a i. omega (arith, i.0.most);
  content_used = λ a id i e. has_row (found a).rows id ∙ (sym (found_is_some (author_in (found a).rows id) (payload_of (found a) id)) ∙ e);
  zero_unused = λ a i. has_row (found a).rows zero_id ∙ none_is _ i.0.no_zero;
  sized = λ a id bytes i told e. found_len (author_in (found a).rows id) (payload_of (found a) id) bytes ((found a).size - 78) (i.0.sized id) e;
  spent_used = λ a id i e. absurd (cc);
  spent_last = λ a id i e. absurd (cc);
  last_spent = λ a id i e. absurd (one_not_last e);
  unused_version = λ a id i e. refl;
  loaded_payload = λ a b x. ap (λ f. f.size - 78) x.same;
  loaded_version = λ a b id x. refl;
}

-- where blocks were only loaded, the store holds what it held
pub settled_by : {S : Type 0} (found : S → Finding) (a b : S) → found b ≡ found a → Stays (holdings_by found) a b
settled_by found a b same = record {
  ids = λ id. ap (λ f. is_some (content_of f id)) same;
  content = λ told id. ap (λ f. content_of f id) same;
  told = refl;
  used = ap (λ f. ids_in f.rows) same;
  spent = λ id. refl;
  version = λ id. refl;
  payload = ap (λ f. f.size - 78) same;
}
