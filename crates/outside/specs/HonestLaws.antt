-- None of the new calls passes a test exactly where the count of those that do doesn't rise; so they are honest where the lies don't.
use Rattle.std.specs.Prelude.{◌≡◌, ℕ, ◌+◌, ◌≤◌, Bool, true, false, not, ◌&&◌, IsTrue, List, [], ◌∷◌, ◌++◌, if◌then◌else◌}
use Rattle.std.proofs.Common.{refl, ◌∙◌, ap, subst, arith}
use Rattle.std.specs.declared.option.Option.{Option}
use Rattle.std.specs.declared.option.Option.TheVariants.{None, Some}
use Rattle.outside.specs.Trace.{Call}
use Rattle.outside.specs.Going.{GoesOn}
use Rattle.outside.specs.Honest.{is_lie, none_pass, NonePass, IsHonest, NonePassSince, count_calls, count_told, lies}

-- a count that doesn't rise counted nothing
pub uncounted : (b : Bool) (n : ℕ) → (if b then 1 else 0) + n ≤ n → b ≡ false
uncounted true n h = absurd (omega arith)
uncounted false n h = refl

grown : (b : Bool) (m n : ℕ) → n ≤ m → n ≤ (if b then 1 else 0) + m
grown true m n h = omega arith
grown false m n h = omega arith

-- the number of calls that pass a test never falls
pub count_grows : (test : List Call → Call → Bool) (before new : List Call) → count_calls test before ≤ count_calls test (new ++ before)
count_grows test before [] = omega arith
count_grows test before (call ∷ new) =
    grown (test (new ++ before) call) (count_calls test (new ++ before)) (count_calls test before) (count_grows test before new)

honest_step : (b h : Bool) (m n : ℕ) → n ≤ m → (if b then 1 else 0) + m ≤ n → (m ≤ n → IsTrue h) → IsTrue (not b && h)
honest_step true h m n g l k = absurd (omega arith)
honest_step false h m n g l k = k (omega arith)

flat_step : (b h : Bool) (m n : ℕ) → IsTrue (not b && h) → (IsTrue h → m ≡ n) → (if b then 1 else 0) + m ≡ n
flat_step true h m n t k = absurd (cc)
flat_step false h m n t k = omega (arith, k t)

-- where the count doesn't rise, none of the new calls passes the test
pub none_pass_where_no_rise : (test : List Call → Call → Bool) (before new : List Call) → count_calls test (new ++ before) ≤ count_calls test before → NonePass test before new
none_pass_where_no_rise test before [] h = refl
none_pass_where_no_rise test before (call ∷ new) h =
    honest_step (test (new ++ before) call) (none_pass test before new) (count_calls test (new ++ before)) (count_calls test before)
    (count_grows test before new) h (none_pass_where_no_rise test before new)

-- and where none passes it, the count is as it was
pub no_rise_where_none_pass : (test : List Call → Call → Bool) (before new : List Call) → NonePass test before new → count_calls test (new ++ before) ≡ count_calls test before
no_rise_where_none_pass test before [] h = refl
no_rise_where_none_pass test before (call ∷ new) h =
    flat_step (test (new ++ before) call) (none_pass test before new) (count_calls test (new ++ before)) (count_calls test before) h (no_rise_where_none_pass test before new)

-- the same of a trace that went on, told or not
pub none_since_where_no_rise : (test : List Call → Call → Bool) (old new : Option (List Call)) → GoesOn old new → count_told test new ≤ count_told test old → NonePassSince test old new
none_since_where_no_rise test None new g h = tt
none_since_where_no_rise test (Some old) new g h =
    (g.0, g.1, none_pass_where_no_rise test old g.0 (subst (λ t. count_told test t ≤ count_calls test old) g.1 h))

pub no_rise_where_none_since : (test : List Call → Call → Bool) (old new : Option (List Call)) → GoesOn old new → NonePassSince test old new → count_told test new ≡ count_told test old
no_rise_where_none_since test None new g h = ap (count_told test) g
no_rise_where_none_since test (Some old) new g h = ap (count_told test) h.1 ∙ no_rise_where_none_pass test old h.0 h.2

pub honest_where_no_rise : (before new : List Call) → lies (new ++ before) ≤ lies before → IsHonest before new
honest_where_no_rise = none_pass_where_no_rise is_lie

pub no_rise_where_honest : (before new : List Call) → IsHonest before new → lies (new ++ before) ≡ lies before
no_rise_where_honest = no_rise_where_none_pass is_lie
