-- One block more of a survey.
use Rattle.std.proofs.Common.{◌≡◌, ℕ, zero, suc, ◌+◌, ◌<◌, ◌≤◌, List, [], ◌∷◌, ◌++◌, length, take, get_or, true, refl, sym, ◌∙◌, ap, subst, arith}
use Rattle.std.specs.Prelude.{map, reverse, Result, Ok, Err, Some, None, Option, OnErr, IfErr}
use Rattle.std.proofs.lemmas.List.{get_or-map, length-map, map_more, reverse-append, take-map}
use Rattle.std.proofs.lemmas.List.Folds.{list_any_at}
use Rattle.std.proofs.Math.ListN.{set}
use Rattle.block_id.specs.declared.fail.Fail.TheVariants.{Memory, Fault, Violation}
use Rattle.block_id.specs.declared.fail.Why.{Why}
use Rattle.block_id.specs.declared.id.BlockId.{BlockId}
use Rattle.check_walk.specs.Given.{Asked}
use Rattle.check_walk.specs.data_nodes.Layout.{ids_of}
use Rattle.check_walk.proofs.data_tree_lemmas.Forests.{stays-same, stays-then}
use Rattle.check_walk.proofs.data_tree_lemmas.Ids.{same_self}
use Rattle.check_walk.specs.store_outcome.Meanings.{Meanings, Lawful, HasCause, IsQuiet, IsCalm}
use Rattle.check_walk.specs.store_api.Content.{Id, same_id}
use Rattle.check_walk.specs.store_api.Holdings.{Holdings, has_id}
use Rattle.check_walk.specs.store_api.Loads.{LoadAnswer}
use Rattle.outside.specs.Causes.{RoseBy}
use Rattle.check_refused.specs.Surveys.{Counts, IsAnswered, IsNoted, IsSettled, IsSurvey, IsCutShort, Loss, Surveys, failures, is_failure, is_refusal, refusals, ungiven_by}

ids_more : (live : List BlockId) (i : ℕ) (d : BlockId) → i < length live → (get_or live i d).0 ∷ reverse (ids_of (take i live)) ≡ reverse (ids_of (take (i + 1) live))
ids_more live i d within =
    sym (ap reverse (map_more (λ (x : BlockId). x.0) live i d within) ∙ reverse-append (ids_of (take i live)) ((get_or live i d).0 ∷ []))

module _ {S : Type 0} {loads : S → S → Id → LoadAnswer → Type 0} where
  pub survey_none : (a : S) → IsSurvey loads [] a a []
  survey_none a = record { asked = []; by = refl; all = refl; settled = tt; told = refl }

  module _ (live : List BlockId) (i : ℕ) (d : BlockId) (a b c : S) (ungiven : List Loss) (answer : LoadAnswer) (within : i < length live) (s : IsSurvey loads (ids_of (take i live)) a b ungiven) (load : loads b c (get_or live i d).0 answer) where
    abbrev asked : Asked
    asked = ((get_or live i d).0, answer) ∷ s.asked

    all : map (λ (q : Id × LoadAnswer). q.0) asked ≡ reverse (ids_of (take (i + 1) live))
    all = ap (λ ids. (get_or live i d).0 ∷ ids) s.all ∙ ids_more live i d within

    pub survey_more : (now : List Loss) → IsNoted answer (get_or live i d).0 ungiven now → IsSurvey loads (ids_of (take (i + 1) live)) a c now
    survey_more now noted = record {
      asked = asked;
      by = (b, (s.by, load));
      all = all;
      settled = (noted.settled, s.settled);
      told = noted.told ∙ ap (λ r. r ++ ungiven_by (get_or live i d).0 answer) s.told;
    }

    -- where memory was wanting, the last one perhaps isn't told
    pub survey_cut : (now : List Loss) → now ≡ ungiven → IsCutShort loads (ids_of live) a c now
    survey_cut now left = record {
      asked = asked;
      by = (b, (s.by, load));
      count = i + 1;
      some = all ∙ ap reverse (sym (take-ids (i + 1) live));
      last = ungiven_by (get_or live i d).0 answer;
      told = ap (λ (r : List Loss). r ++ ungiven_by (get_or live i d).0 answer) (sym s.told ∙ sym left);
    }
      where
        take-ids : (n : ℕ) (xs : List BlockId) → take n (ids_of xs) ≡ ids_of (take n xs)
        take-ids n xs = take-map (λ (x : BlockId). x.0) n xs

-- one of the blocks is among them
pub among : (live : List BlockId) (i : ℕ) (d : BlockId) → i < length live → has_id (ids_of live) (get_or live i d).0 ≡ true
among live i d within =
    list_any_at (same_id (get_or live i d).0) (ids_of live) i [] (omega (arith, within, length-map live (λ (x : BlockId). x.0)))
    (subst (λ id. same_id (get_or live i d).0 id ≡ true) (sym (get_or-map (λ (x : BlockId). x.0) live i d [] within)) (same_self (get_or live i d).0))

-- an element is replaced by one that is mapped to the same
pub map_kept : {X Y : Type 0} (f : X → Y) (xs : List X) (i : ℕ) (y d : X) → f y ≡ f (get_or xs i d) → map f (set xs i y) ≡ map f xs
map_kept f [] i y d e = refl
map_kept f (x ∷ xs) zero y d e = ap (λ z. z ∷ map f xs) e
map_kept f (x ∷ xs) (suc i) y d e = ap (λ zs. f x ∷ zs) (map_kept f xs i y d e)

-- what holds anyhow holds of an error
pub on_err : {T E : Type 0} {P : Type 0} (r : Result T E) → P → OnErr r P
on_err (Ok x) p = tt
on_err (Err e) p = p

-- ---- how many were refused, and of how many the call failed

pub refusals_more : (xs ys : List Loss) → refusals (xs ++ ys) ≡ refusals xs + refusals ys
unfolding refusals
refusals_more [] ys = omega arith
refusals_more (x ∷ xs) ys = let h = refusals_more xs ys in omega (arith, h)

failures_more : (xs ys : List Loss) → failures (xs ++ ys) ≡ failures xs + failures ys
unfolding failures
failures_more [] ys = omega arith
failures_more (x ∷ xs) ys = let h = failures_more xs ys in omega (arith, h)

-- each is one of both
one_each : (why : Option Why) → is_refusal why + is_failure why ≡ 1
one_each None = refl
one_each (Some why) = refl

pub both : (xs : List Loss) → refusals xs + failures xs ≡ length xs
unfolding refusals failures
both [] = refl
both (x ∷ xs) = let h = both xs in let one = one_each x.1 in omega (arith, h, one)

-- ---- what one answer says

quietly : (r : LoadAnswer) (a b c : ℕ) → b ≡ a → IsQuiet r b c → IsQuiet r a c
quietly r a b c same h = subst (λ n. IsQuiet r n c) same h

-- one failed call more
rose_one : (id : Id) (answer : LoadAnswer) (n a b c : ℕ) → RoseBy n a b → b ≤ c → IfErr answer (λ e. HasCause e b c) → RoseBy (n + failures (ungiven_by id answer)) a c
unfolding failures
rose_one id (Ok payload) n a b c rose grows cause = omega (arith, rose, grows)
rose_one id (Err Memory) n a b c rose grows cause = omega (arith, rose, grows)
rose_one id (Err Fault) n a b c rose grows cause = omega (arith, rose, grows, cause)
rose_one id (Err (Violation why)) n a b c rose grows cause = omega (arith, rose, grows)

-- where none failed the count is as it was
quiet_one : (id : Id) (answer : LoadAnswer) (b c : ℕ) → IsSettled answer → IsQuiet answer b c → failures (ungiven_by id answer) ≡ 0 → c ≡ b
unfolding failures
quiet_one id (Ok payload) b c settled quiet none = quiet
quiet_one id (Err Memory) b c settled quiet none = quiet
quiet_one id (Err Fault) b c settled quiet none = absurd (cc)
quiet_one id (Err (Violation why)) b c settled quiet none = quiet

calm_one : (id : Id) (answer : LoadAnswer) → IfErr answer IsCalm → refusals (ungiven_by id answer) ≡ 0
unfolding refusals
calm_one id (Ok payload) calm = refl
calm_one id (Err Memory) calm = refl
calm_one id (Err Fault) calm = refl
calm_one id (Err (Violation why)) calm = absurd calm

pub calm_none : refusals [] ≡ 0
unfolding refusals
calm_none = refl

pub failed_none : failures [] ≡ 0
unfolding failures
failed_none = refl

pub count_none : (before : ℕ) → Counts before before [] (Ok tt)
unfolding failures
count_none before = record { rose = omega arith; quiet = λ none. refl }

-- ---- what loads leave, one after another

module _ {S : Type 0} {M : Meanings S} {H : Holdings S} (laws : Lawful M) where
  pub surveys_none : (a : S) → M.intact a → Surveys M H a a
  surveys_none a i = record { intact = i; loaded = laws.same a; sound = λ s f. s; stays = stays-same H a }

  pub surveys_then : {a b c : S} → Surveys M H a b → Surveys M H b c → Surveys M H a c
  surveys_then {a = a} {b = b} {c = c} p q =
      let first = laws.forgeries_grow a b p.loaded in
      let later = laws.forgeries_grow b c q.loaded in
      record {
        intact = q.intact;
        loaded = laws.onward a b c p.loaded q.loaded;
        sound = λ s f. q.sound (p.sound s (omega arith)) (omega arith);
        stays = stays-then p.stays q.stays;
      }

  module _ (a b c : S) (id : Id) (before now : List Loss) (first : Surveys M H a b) (later : Surveys M H b c) (counts : Counts (M.faults a) (M.faults b) before (Ok tt)) (answer : LoadAnswer) (said : IsAnswered M b c answer) where
    pub count_more : IsNoted answer id before now → Counts (M.faults a) (M.faults c) now (Ok tt)
    count_more noted =
        let sum : failures now ≡ failures before + failures (ungiven_by id answer) = ap failures noted.told ∙ failures_more before (ungiven_by id answer) in
        record {
          rose = subst (λ n. RoseBy n (M.faults a) (M.faults c)) (sym sum) (rose_one id answer (failures before) (M.faults a) (M.faults b) (M.faults c) counts.rose (laws.faults_grow b c later.loaded) said.fault);
          quiet = λ none.
              let no_first : failures before ≡ 0 = omega (arith, none, sum) in
              let no_last : failures (ungiven_by id answer) ≡ 0 = omega (arith, none, sum) in
              quiet_one id answer (M.faults b) (M.faults c) noted.settled said.quiet no_last ∙ counts.quiet no_first;
        }

    -- over an honest outside none is refused
    pub calm_more : (M.sound a → M.lies b ≤ M.lies a → refusals before ≡ 0) → IsNoted answer id before now → M.sound a → M.lies c ≤ M.lies a → refusals now ≡ 0
    calm_more calm noted s honest =
        let first_lies = laws.lies_grow a b first.loaded in
        let later_lies = laws.lies_grow b c later.loaded in
        let unlied : M.lies b ≤ M.lies a = omega (arith, honest, later_lies) in
        let unforged = laws.honest_unforged a b first.loaded s unlied in
        let sum : refusals now ≡ refusals before + refusals (ungiven_by id answer) = ap refusals noted.told ∙ refusals_more before (ungiven_by id answer) in
        let none = calm s unlied in
        let last = calm_one id answer (said.calm (first.sound s unforged) (omega (arith, honest, first_lies))) in
        omega (arith, sum, none, last)
