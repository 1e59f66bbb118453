-- How whose files are put goes on, from one call to the next.
use Rattle.std.specs.Prelude.{◌≡◌, ℕ, List, [], ◌∷◌, ◌++◌}
use Rattle.std.proofs.Common.{refl, sym, ◌∙◌, ap, subst, inl, inr, append_assoc}
use Rattle.std.specs.List.{AllByRecursion}
use Rattle.std.specs.declared.option.Option.{Option}
use Rattle.std.specs.declared.option.Option.TheVariants.{None, Some}
use Rattle.outside.specs.Trace.{Call, block, config, put, got, removed}
use Rattle.store_api.specs.Durables.{Identity}
use Rattle.mount.specs.Sealing.{View, PutsSealed, AddsSealed, AreSealed}
use Rattle.mount.specs.Owning.{IsOwnFile, OwnWaits, PutsOwn, AddsOwn, KeepsOwn}

-- ---- calls

all_append : (P : Call → Type 0) (first later : List Call) → AllByRecursion P first → AllByRecursion P later → AllByRecursion P (first ++ later)
all_append P [] later a b = b
all_append P (call ∷ calls) later a b = (a.0, all_append P calls later a.1 b)

pub adds_own_nothing : (I : Identity) (calls : Option (List Call)) → AddsOwn I calls calls
adds_own_nothing I None = refl
adds_own_nothing I (Some calls) = ([], refl, tt)

pub adds_own_then : (I : Identity) (a b c : Option (List Call)) → AddsOwn I a b → AddsOwn I b c → AddsOwn I a c
adds_own_then I None b c first then = subst (λ x. AddsOwn I x c) first then
adds_own_then I (Some old) b c first then =
    let later : AddsOwn I (Some (first.0 ++ old)) c = subst (λ x. AddsOwn I x c) first.1 then in (
      later.0 ++ first.0,
      later.1 ∙ ap Some (sym (append_assoc later.0 first.0 old)),
      all_append (PutsOwn I) later.0 first.0 later.2 first.2,
    )

-- ---- one behind the other

pub owns_nothing : (I : Identity) (view : View) → KeepsOwn I view view
owns_nothing I view = record { waits = λ own. own; adds = λ own. adds_own_nothing I view.calls }

pub owns_then : (I : Identity) (a b c : View) → KeepsOwn I a b → KeepsOwn I b c → KeepsOwn I a c
owns_then I a b c x y = record {
  waits = λ own. y.waits (x.waits own);
  adds = λ own. adds_own_then I a.calls b.calls c.calls (x.adds own) (y.adds (x.waits own));
}

-- ---- where nothing is sealed

module _ (I : Identity) (before : View) (own : OwnWaits I before.list) where
  puts_own : (call : Call) → PutsSealed [] before call → PutsOwn I call
  puts_own (put (block id) bytes ok) is = elim is as (λ _. IsOwnFile I id bytes) [ inl drawn ↦ absurd drawn | inr was ↦ own id bytes was ]
  puts_own (put config bytes ok) is = tt
  puts_own (got name max answer) is = tt
  puts_own (removed name ok) is = tt

  each_own : (calls : List Call) → AllByRecursion (PutsSealed [] before) calls → AllByRecursion (PutsOwn I) calls
  each_own [] all = tt
  each_own (call ∷ calls) all = (puts_own call all.0, each_own calls all.1)

  adds_own_of : (old new : Option (List Call)) → AddsSealed [] before old new → AddsOwn I old new
  adds_own_of None new adds = adds
  adds_own_of (Some old) new adds = (adds.0, adds.1, each_own adds.0 adds.2)

pub owns_sealed : (I : Identity) (a b : View) → AreSealed [] a b → KeepsOwn I a b
owns_sealed I a b sealed = record {
  waits = λ own id bytes is. elim (sealed.waits (block id) (Some bytes) is) as (λ _. IsOwnFile I id bytes) [ inl drawn ↦ absurd drawn | inr was ↦ own id bytes was ];
  adds = λ own. adds_own_of I a own a.calls b.calls sealed.adds;
}
