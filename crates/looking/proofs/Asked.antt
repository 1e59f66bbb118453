-- Calls that only ask, one after another.
use Rattle.std.proofs.Common.{◌≡◌, ◌++◌, ℕ, List, [], ◌∷◌, refl, sym, ◌∙◌, ap, subst, inl, inr, append_assoc}
use Rattle.std.specs.declared.option.Option.{Option}
use Rattle.std.specs.declared.option.Option.TheVariants.{None, Some}
use Rattle.outside.specs.Trace.{Call, adds, block, config, got, put, removed}
use Rattle.found_blocks.specs.Finding.{Finding}
use Rattle.found_blocks.specs.Reads.{AllReads, WentOnByReads}
use Rattle.found_blocks.specs.Searching.{AllGets, Discovered, after_calls}
use Rattle.session_laws.specs.Resting.{AreAsking, AreGets, IsGet, OnlyAsked, OnlyGot}
use Rattle.session_laws.specs.mount_stores.Opening.{ReadsConfigOnce}

-- ---- a search

all_gets : (size : ℕ) (calls : List Call) → AllGets size calls → AreGets calls
all_gets size [] all = tt
all_gets size (call ∷ calls) all = (subst IsGet (sym all.0.is) tt, all_gets size calls all.1)

called : (calls old : List Call) → after_calls calls (Some old) ≡ Some (calls ++ old)
called [] old = refl
called (call ∷ calls) old = ap (λ t. adds t call) (called calls old)

untold : (calls : List Call) → after_calls calls None ≡ None
untold [] = refl
untold (call ∷ calls) = ap (λ t. adds t call) (untold calls)

went : (size : ℕ) (calls : List Call) (old : Option (List Call)) → AllGets size calls → OnlyGot old (after_calls calls old)
went size calls None all = untold calls
went size calls (Some old) all = (calls, called calls old, all_gets size calls all)

pub discovered_got : (before after : Finding) (old new : Option (List Call)) → Discovered before after old new → OnlyGot old new
discovered_got before after old new d = subst (λ t. OnlyGot old t) (sym d.went) (went before.size d.calls old d.gets)

-- ---- loads

all_read : (f : Finding) (calls : List Call) → AllReads f calls → AreGets calls
all_read f [] all = tt
all_read f (call ∷ calls) all = (subst IsGet (sym all.0.is) tt, all_read f calls all.1)

pub reads_got : (f : Finding) (old new : Option (List Call)) → WentOnByReads f old new → OnlyGot old new
reads_got f None new w = w
reads_got f (Some old) new w = (w.0, w.1, all_read f w.0 w.2)

-- ---- the configuration, and blocks

gets_ask : (calls : List Call) → AreGets calls → AreAsking calls
gets_ask [] all = tt
gets_ask (got (block id) max answer ∷ calls) all = (tt, gets_ask calls all.1)
gets_ask (got config max answer ∷ calls) all = absurd all.0
gets_ask (put name bytes ok ∷ calls) all = absurd all.0
gets_ask (removed name ok ∷ calls) all = absurd all.0

pub got_asked : (old new : Option (List Call)) → OnlyGot old new → OnlyAsked old new
got_asked None new w = w
got_asked (Some old) new w = (w.0, w.1, gets_ask w.0 w.2)

none_asked : (calls : Option (List Call)) → OnlyAsked calls calls
none_asked None = refl
none_asked (Some calls) = ([], refl, tt)

one_asked : (old : Option (List Call)) (max : ℕ) (answer : Option (List ℕ)) → OnlyAsked old (adds old (got config max answer))
one_asked None max answer = refl
one_asked (Some old) max answer = (got config max answer ∷ [], refl, (tt, tt))

pub config_asked : (old new : Option (List Call)) → ReadsConfigOnce old new → OnlyAsked old new
config_asked old new (inl e) = subst (λ t. OnlyAsked old t) (sym e) (none_asked old)
config_asked old new (inr (answer, e)) = subst (λ t. OnlyAsked old t) (sym e) (one_asked old _ answer)

both_ask : (xs ys : List Call) → AreAsking xs → AreAsking ys → AreAsking (xs ++ ys)
both_ask [] ys f g = g
both_ask (x ∷ xs) ys f g = (f.0, both_ask xs ys f.1 g)

pub asked_then : (a b c : Option (List Call)) → OnlyAsked a b → OnlyAsked b c → OnlyAsked a c
asked_then None b c f g = subst (λ (z : Option (List Call)). OnlyAsked z c) f g
asked_then (Some a) b c f g =
    let h = subst (λ (z : Option (List Call)). OnlyAsked z c) f.1 g in
    (h.0 ++ f.0, h.1 ∙ ap Some (sym (append_assoc h.0 f.0 a)), both_ask h.0 f.0 h.2 f.2)
