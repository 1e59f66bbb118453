-- Parts of a search, one after another.
use Rattle.std.specs.Prelude.{◌≡◌, ◌⊎◌, ◌≤◌, ◌<◌, ◌^◌, ℕ, ◌+◌, length, ◌||◌, true, false, List, [], ◌∷◌, ◌++◌, cond}
use Rattle.std.specs.FinMap.Entries.{find, put, find-put}
use Rattle.std.specs.declared.option.Option.{Option}
use Rattle.std.specs.declared.option.Option.TheVariants.{None, Some}
use Rattle.std.proofs.Common.{refl, sym, ◌∙◌, ap, subst, inl, inr, append_assoc}
use Rattle.std.proofs.lemmas.Bool.{or_right}
use Rattle.std.proofs.lemmas.List.{length-map}
use Rattle.block_id.specs.declared.sizes.TheConstants.{MIN_BLOCK, MAX_BLOCK}
use Rattle.block_versions.proofs.Judging.{came_len}
use Rattle.block_id.specs.Fresh.{zero_id}
use Rattle.outside.specs.Trace.{block, Call, got, adds}
use Rattle.store_api.specs.Content.{Id, id_cmp, same_id}
use Rattle.store_api.specs.Holdings.{IsFew, has_id}
use Rattle.store_api.proofs.Rising.{ids_total, same_id_is}
use Rattle.block_versions.specs.Reads.{Among}
use Rattle.block_versions.specs.Verdicts.{good}
use Rattle.found_blocks.specs.Rows.{Author, Authors, author_in, ids_in}
use Rattle.found_blocks.specs.Finding.{Finding, IsKept, judged_as, payload_of, payload_or_none}
use Rattle.found_blocks.specs.Searching.{AllGets, AreNew, Discovered, IsFound, Noted, Searched, after_calls, asked_by, ids_asked}

-- ---- calls in a row

all_gets-append : (size : ℕ) (xs ys : List Call) → AllGets size xs → AllGets size ys → AllGets size (xs ++ ys)
all_gets-append size [] ys a b = b
all_gets-append size (x ∷ xs) ys a b = (a.0, all_gets-append size xs ys a.1 b)

asked-append : (xs ys : List Call) → ids_asked (xs ++ ys) ≡ ids_asked xs ++ ids_asked ys
asked-append [] ys = refl
asked-append (x ∷ xs) ys = ap (λ ids. asked_by x ++ ids) (asked-append xs ys) ∙ sym (append_assoc (asked_by x) (ids_asked xs) (ids_asked ys))

new-append : (old xs ys : List Id) → AreNew (ys ++ old) xs → AreNew old ys → AreNew old (xs ++ ys)
new-append old [] ys a b = b
new-append old (x ∷ xs) ys a b = (ap (λ ids. has_id ids x) (append_assoc xs ys old) ∙ a.0, new-append old xs ys a.1 b)

after-append : (xs ys : List Call) (trace : Option (List Call)) → after_calls (xs ++ ys) trace ≡ after_calls xs (after_calls ys trace)
after-append [] ys trace = refl
after-append (x ∷ xs) ys trace = ap (λ t. adds t x) (after-append xs ys trace)

pub among-left : (xs ys : List Call) (call : Call) → Among xs call → Among (xs ++ ys) call
among-left [] ys call in_ = absurd in_
among-left (x ∷ xs) ys call (inl is) = inl is
among-left (x ∷ xs) ys call (inr in_) = inr (among-left xs ys call in_)

among-right : (xs ys : List Call) (call : Call) → Among ys call → Among (xs ++ ys) call
among-right [] ys call in_ = in_
among-right (x ∷ xs) ys call in_ = inr (among-right xs ys call in_)

-- blocks that are new among more are new among fewer
not_later : (ps bs : List Id) (id : Id) → ((other : Id) → has_id bs other ≡ true → has_id ps other ≡ true) → has_id ps id ≡ false → has_id bs id ≡ false
not_later ps bs id more none = elim (has_id bs id) as (λ b. has_id bs id ≡ b → b ≡ false) [
  | true ↦ λ e. let bad : true ≡ false = sym (more id e) ∙ none in absurd (cc)
  | false ↦ λ e. refl
] refl

has-more : (ids ps bs : List Id) (id : Id) → ((other : Id) → has_id bs other ≡ true → has_id ps other ≡ true) → has_id (ids ++ bs) id ≡ true → has_id (ids ++ ps) id ≡ true
has-more [] ps bs id more has = more id has
has-more (x ∷ ids) ps bs id more has = elim (same_id id x) as (λ b. (b || has_id (ids ++ bs) id) ≡ true → (b || has_id (ids ++ ps) id) ≡ true) [
  | true ↦ λ _. refl
  | false ↦ λ later. has-more ids ps bs id more later
] has

new-fewer : (ps bs ids : List Id) → ((other : Id) → has_id bs other ≡ true → has_id ps other ≡ true) → AreNew ps ids → AreNew bs ids
new-fewer ps bs [] more new = tt
new-fewer ps bs (id ∷ ids) more new =
    (not_later (ids ++ ps) (ids ++ bs) id (λ other. has-more ids ps bs other more) new.0, new-fewer ps bs ids more new.1)

-- ---- what was found stays found

found-later : (f g : Finding) (xs ys : List Call) (id : Id) (author : Author) → g.size ≡ f.size → g.opens ≡ f.opens → payload_of g id ≡ payload_of f id → IsFound f ys id author → IsFound g (xs ++ ys) id author
found-later f g xs ys id author size opens payload x = record {
  file = x.file;
  came = subst (λ n. Among (xs ++ ys) (got (block id) (n + 1) (Some x.file))) (sym size) (among-right xs ys _ x.came);
  opens = subst (λ n. judged_as (record g { size = n }) id author (Some x.file) ≡ good (payload_of g id)) (sym size)
      (subst (λ o. judged_as (record { size = f.size; opens = o; rows = g.rows; given = g.given }) id author (Some x.file) ≡ good (payload_of g id)) (sym opens)
      (subst (λ p. judged_as f id author (Some x.file) ≡ good p) (sym payload) x.opens));
}

found-earlier : (f : Finding) (xs ys : List Call) (id : Id) (author : Author) → IsFound f xs id author → IsFound f (xs ++ ys) id author
found-earlier f xs ys id author x = record { file = x.file; came = among-left xs ys _ x.came; opens = x.opens }

-- ---- parts in a row

pub searched_same : (f : Finding) (asked now : List Id) (trace : Option (List Call)) → ((id : Id) → has_id asked id ≡ true → has_id now id ≡ true) → Searched f f asked now trace trace
searched_same f asked now trace more = record {
  calls = [];
  went = refl;
  gets = tt;
  once = tt;
  noted = more;
  size = refl;
  opens = refl;
  found = λ id author row. inr (row, refl);
  no_zero = λ none. none;
}

pub searched_on : (f g k : Finding) (ps bs cs : List Id) (t u v : Option (List Call)) → Searched f g ps bs t u → Searched g k bs cs u v → Searched f k ps cs t v
searched_on f g k ps bs cs t u v x y = record {
  calls = y.calls ++ x.calls;
  went = y.went ∙ ap (after_calls y.calls) x.went ∙ sym (after-append y.calls x.calls t);
  gets = all_gets-append f.size y.calls x.calls (subst (λ n. AllGets n y.calls) x.size y.gets) x.gets;
  once = subst (AreNew ps) (sym (asked-append y.calls x.calls)) (new-append ps (ids_asked y.calls) (ids_asked x.calls) (new-fewer bs (ids_asked x.calls ++ ps) (ids_asked y.calls) x.noted y.once) x.once);
  noted = λ id has. y.noted id (has-more (ids_asked y.calls) bs (ids_asked x.calls ++ ps) id x.noted
      (ap (λ ids. has_id ids id) (sym (append_assoc (ids_asked y.calls) (ids_asked x.calls) ps)) ∙ (ap (λ ids. has_id (ids ++ ps) id) (sym (asked-append y.calls x.calls)) ∙ has)));
  size = y.size ∙ x.size;
  opens = y.opens ∙ x.opens;
  found = λ id author row. elim (y.found id author row) [
    | inl later ↦ inl (found-earlier k y.calls x.calls id author later)
    | inr (before, same) ↦ elim (x.found id author before) [
      | inl earlier ↦ inl (found-later g k y.calls x.calls id author y.size y.opens same earlier)
      | inr (first, again) ↦ inr (first, same ∙ again)
    ]
  ];
  no_zero = λ none. y.no_zero (x.no_zero none);
}

-- ---- one call

-- a block was noted, and nothing was found of it
pub searched_nothing : (f : Finding) (asked now : List Id) (id : Id) (t : Option (List Call)) → Noted asked now id true → Searched f f asked now t t
searched_nothing f asked now id t noted = searched_same f asked now t (λ other has. noted.1 other (or_right (same_id other id) (has_id asked other) has))

pub searched_call : (f : Finding) (asked now : List Id) (id : Id) (answer : Option (List ℕ)) (t u : Option (List Call)) → Noted asked now id true → u ≡ adds t (got (block id) (f.size + 1) answer) → Searched f f asked now t u
searched_call f asked now id answer t u noted is = record {
  calls = got (block id) (f.size + 1) answer ∷ [];
  went = is;
  gets = (record { id = id; answer = answer; is = refl }, tt);
  once = (noted.0, tt);
  noted = noted.1;
  size = refl;
  opens = refl;
  found = λ other author row. inr (row, refl);
  no_zero = λ none. none;
}

with_one : Finding → Id → Author → List ℕ → Finding
with_one f id author payload = record f { rows = put id_cmp id author f.rows; given = (id, payload) ∷ f.given }

-- of the block that was asked for the file was found
pub searched_found : (f g : Finding) (asked now : List Id) (id : Id) (author : Author) (payload file : List ℕ) (t u : Option (List Call)) → Noted asked now id true → u ≡ adds t (got (block id) (f.size + 1) (Some file))
    → same_id id zero_id ≡ false → judged_as f id author (Some file) ≡ good payload
    → g.size ≡ f.size → g.opens ≡ f.opens → g.rows ≡ put id_cmp id author f.rows → g.given ≡ (id, payload) ∷ f.given → Searched f g asked now t u
searched_found f g asked now id author payload file t u noted is not_zero opened size opens rows given = record {
  calls = got (block id) (f.size + 1) (Some file) ∷ [];
  went = is;
  gets = (record { id = id; answer = Some file; is = refl }, tt);
  once = (noted.0, tt);
  noted = noted.1;
  size = size;
  opens = opens;
  found = λ other other_author row.
      let looked : author_in g.rows other ≡ cond (same_id other id) (Some author) (author_in f.rows other) = ap (find id_cmp other) rows ∙ find-put id_cmp ids_total other id author f.rows in
      let noted_payload : payload_of g other ≡ payload_of (record f { given = (id, payload) ∷ f.given }) other = ap (λ ps. payload_of (record f { given = ps }) other) given in
      elim (same_id other id) as (λ b. same_id other id ≡ b → IsFound g (got (block id) (f.size + 1) (Some file) ∷ []) other other_author ⊎ ((author_in f.rows other ≡ Some other_author) × (payload_of g other ≡ payload_of f other))) [
        | true ↦ λ same.
            let is_id = same_id_is other id same in
            let here : other_author ≡ author = some_author (sym row ∙ (looked ∙ ap (λ b. cond b (Some author) (author_in f.rows other)) same)) in
            let own : payload_of g other ≡ payload = noted_payload ∙ ap (λ b. payload_or_none (cond b (Some payload) (find id_cmp other f.given))) same in
            inl (record {
              file = file;
              came = inl (ap (λ n. got (block id) (n + 1) (Some file)) (sym size) ∙ ap (λ x. got (block x) (g.size + 1) (Some file)) (sym is_id));
              opens = judged_same f g other id other_author author file size opens is_id here ∙ (opened ∙ ap good (sym own));
            })
        | false ↦ λ other_one. inr (
          sym (looked ∙ ap (λ b. cond b (Some author) (author_in f.rows other)) other_one) ∙ row,
          noted_payload ∙ ap (λ b. payload_or_none (cond b (Some payload) (find id_cmp other f.given))) other_one,
        )
      ] refl;
  no_zero = λ none. ap (find id_cmp zero_id) rows ∙ (find-put id_cmp ids_total zero_id id author f.rows ∙ (ap (λ b. cond b (Some author) (author_in f.rows zero_id)) (turned id not_zero) ∙ none));
}
  where
    some_author : {a b : Author} → Some a ≡ Some b → a ≡ b
    some_author e = cc

    judged_same : (f g : Finding) (other id : Id) (b a : Author) (file : List ℕ) → g.size ≡ f.size → g.opens ≡ f.opens → other ≡ id → b ≡ a → judged_as g other b (Some file) ≡ judged_as f id a (Some file)
    judged_same f g other id b a file size opens same by = λ i. judged_as (record { size = size i; opens = opens i; rows = g.rows; given = g.given }) (same i) (by i) (Some file)

    true_is_false : true ≡ false → ⊥
    true_is_false e = cc

    turned : (id : Id) → same_id id zero_id ≡ false → same_id zero_id id ≡ false
    turned id none = elim (same_id zero_id id) as (λ b. same_id zero_id id ≡ b → b ≡ false) [
      | true ↦ λ e. let bad : same_id id id ≡ false = subst (λ z. same_id id z ≡ false) (same_id_is zero_id id e) none in
          absurd (true_is_false (subst (λ z. same_id z z ≡ false) (sym (same_id_is zero_id id e)) bad))
      | false ↦ λ e. refl
    ] refl

-- ---- the whole

pub all_found : (f g : Finding) (now : List Id) (t u : Option (List Call)) → f.rows ≡ [] → Searched f g [] now t u → Discovered f g t u
all_found f g now t u none x = record {
  calls = x.calls;
  went = x.went;
  gets = x.gets;
  once = x.once;
  size = x.size;
  opens = x.opens;
  found = λ id author row. elim (x.found id author row) [
    | inl is ↦ is
    | inr (before, same) ↦ absurd (not_among (sym before ∙ ap (find id_cmp id) none))
  ];
}
  where
    not_among : {a : Author} → Some a ≡ None → ⊥
    not_among e = cc

-- each payload that was found has its length
pub kept_found : (f g : Finding) (t u : Option (List Call)) → IsKept f → Discovered f g t u → author_in g.rows zero_id ≡ None → IsKept g
kept_found f g t u kept x none = record {
  least = subst (λ n. MIN_BLOCK ≤ n) (sym x.size) kept.least;
  most = subst (λ n. n ≤ MAX_BLOCK) (sym x.size) kept.most;
  sized = λ id author row. let is = x.found id author row in came_len g.opens g.size id author.0 author.1 1 (Some is.file) (payload_of g id) is.opens;
  no_zero = none;
}

pub few_rows : (rows : Authors) (n : ℕ) → n ≡ length rows → n < 2 ^ 64 → IsFew (ids_in rows)
few_rows rows n is small = subst (λ k. k < 2 ^ 64) (is ∙ sym (length-map rows (λ row. row.0))) small
