-- What every call over a store promises, and how calls in a row make one. `N` is what the call needs of the content.
use Rattle.std.specs.Prelude.{◌≡◌, ℕ, ◌≤◌, Result, IfOk, IfErr, refl}
use Rattle.std.specs.declared.result.Result.TheVariants.{Ok, Err}
use Rattle.std.proofs.Common.{arith, ◌∙◌, inl, inr}
use Rattle.block_id.specs.declared.fail.Fail.{Fail}
use Rattle.block_id.specs.declared.fail.Fail.TheVariants.{Memory, Fault, Violation}
use Rattle.block_id.specs.declared.fail.Why.{Why}
use Rattle.block_id.specs.declared.fail.Why.TheVariants.{Missing, BadLength, BadPrefix, OldFormat, NotOpened, BadRecord, WrongId, ForeignClient, OldVersion, AheadVersion, Structure}
use Rattle.outside.specs.Causes.{RoseBy}
use Rattle.store_outcome.specs.Meanings.{Meanings, Lawful, OnVerdict, IsCalm, IsOfBlocks, HasCause, UnlessFault, IsQuiet, IsNoticed, Tells}

-- Whatever it answers: `intact` to `noticed`. With what it needs of the content, over a sound store and without a forgery: what an Ok
-- says (`value`), and that no violation names the structure (`structure`).
pub record Outcome {S : Type 0} (M : Meanings S) {T : Type 0} (N : Type 0) (a b : S) (r : Result T Fail) (P : N → T → Type 0) : Type 0 where
  pub intact : M.intact b
  pub loaded : M.loaded a b
  pub sound : M.sound a → M.forgeries b ≤ M.forgeries a → M.sound b
  pub met : IfErr r (λ e. OnVerdict e (M.met a b))
  pub fault : IfErr r (λ e. HasCause e (M.faults a) (M.faults b))
  pub quiet : IsQuiet r (M.faults a) (M.faults b)
  pub noticed : IsNoticed r (M.gave a b)
  pub value : (n : N) → M.sound a → M.forgeries b ≤ M.forgeries a → IfOk r (P n)
  pub structure : N → M.sound a → M.forgeries b ≤ M.forgeries a → IfErr r IsOfBlocks

on_verdict : (e : Fail) (P Q : Why → Type 0) → ((why : Why) → P why → Q why) → OnVerdict e P → OnVerdict e Q
on_verdict Memory P Q f h = tt
on_verdict Fault P Q f h = tt
on_verdict (Violation Missing) P Q f h = f _ h
on_verdict (Violation BadLength) P Q f h = f _ h
on_verdict (Violation BadPrefix) P Q f h = f _ h
on_verdict (Violation OldFormat) P Q f h = f _ h
on_verdict (Violation NotOpened) P Q f h = f _ h
on_verdict (Violation BadRecord) P Q f h = f _ h
on_verdict (Violation (WrongId i)) P Q f h = f _ h
on_verdict (Violation (ForeignClient i)) P Q f h = f _ h
on_verdict (Violation (OldVersion i j)) P Q f h = f _ h
on_verdict (Violation (AheadVersion i j)) P Q f h = f _ h
on_verdict (Violation Structure) P Q f h = tt

-- a count that stayed, and then what a failure leaves
pub still : (e : Fail) (a b c : ℕ) → b ≡ a → UnlessFault e (c ≡ b) → UnlessFault e (c ≡ a)
still Memory a b c first h = h ∙ first
still Fault a b c first h = tt
still (Violation why) a b c first h = h ∙ first

caused : (e : Fail) (a b c : ℕ) → a ≤ b → HasCause e b c → HasCause e a c
caused Memory a b c l h = tt
caused Fault a b c l h = omega arith
caused (Violation why) a b c l h = tt

tells : (e : Fail) (P Q : Why → Type 0) → ((why : Why) → Q why → P why) → Tells e P → Tells e Q
tells Memory P Q f h = λ why q. h why (f why q)
tells Fault P Q f h = λ why q. h why (f why q)
tells (Violation told) P Q f h = λ why q. h why (f why q)

-- of fewer wrong files that came, none is passed over either
pub noticed_of : {T : Type 0} (r : Result T Fail) (P Q : Why → Type 0) → ((why : Why) → Q why → P why) → IsNoticed r P → IsNoticed r Q
noticed_of (Ok x) P Q f h = λ why q. h why (f why q)
noticed_of (Err e) P Q f h = tells e P Q f h

on_ok : {T : Type 0} (r : Result T Fail) (P Q : T → Type 0) → ((x : T) → P x → Q x) → IfOk r P → IfOk r Q
on_ok (Ok x) P Q f h = f x h
on_ok (Err e) P Q f h = tt

-- one call that went well, and another
pub then_ : {S : Type 0} {M : Meanings S} (laws : Lawful M) {T U : Type 0} {N N2 : Type 0} {a b c : S} {x : T} {P : N → T → Type 0} {r : Result U Fail} {Q : N2 → U → Type 0} {R : N → U → Type 0}
    → Outcome M N a b (Ok x) P → (f : (n : N) → P n x → N2) → Outcome M N2 b c r Q → ((n : N) (h : P n x) (y : U) → Q (f n h) y → R n y) → Outcome M N a c r R
then_ {M = M} laws {U = U} {a = a} {b = b} {c = c} {r = r} p f q k =
    let grow_f = laws.forgeries_grow b c q.loaded in
    let past_f = laws.forgeries_grow a b p.loaded in
    record {
      intact = q.intact;
      loaded = laws.onward a b c p.loaded q.loaded;
      sound = λ s h. q.sound (p.sound s (omega arith)) (omega arith);
      met = met_of r q.met;
      fault = fault_of r q.fault;
      quiet = quiet_of r q.quiet;
      noticed = noticed_of r (M.gave b c) (M.gave a c) later q.noticed;
      value = λ n s h.
          let went = p.value n s (omega arith) in
          on_ok r _ _ (k n went) (q.value (f n went) (p.sound s (omega arith)) (omega arith));
      structure = λ n s h. q.structure (f n (p.value n s (omega arith))) (p.sound s (omega arith)) (omega arith);
    }
  where
    met_of : (r : Result U Fail) → IfErr r (λ e. OnVerdict e (M.met b c)) → IfErr r (λ e. OnVerdict e (M.met a c))
    met_of (Ok y) h = tt
    met_of (Err e) h = on_verdict e _ _ (λ why m. laws.met_after a b c why p.loaded q.loaded m) h

    fault_of : (r : Result U Fail) → IfErr r (λ e. HasCause e (M.faults b) (M.faults c)) → IfErr r (λ e. HasCause e (M.faults a) (M.faults c))
    fault_of (Ok y) h = tt
    fault_of (Err e) h = caused e _ _ _ (laws.faults_grow a b p.loaded) h

    later : (why : Why) → M.gave a c why → M.gave b c why
    later why g = elim (laws.gave_split a b c why p.loaded q.loaded g) [ inl first ↦ absurd (p.noticed why first) | inr second ↦ second ]

    quiet_of : (r : Result U Fail) → IsQuiet r (M.faults b) (M.faults c) → IsQuiet r (M.faults a) (M.faults c)
    quiet_of (Ok y) h = h ∙ p.quiet
    quiet_of (Err e) h = still e _ _ _ p.quiet h

-- a first call, whose needs follow from the caller's and from what is sound
pub sounded_ : {S : Type 0} {M : Meanings S} {U : Type 0} {N N2 : Type 0} {a b : S} {r : Result U Fail} {Q : N2 → U → Type 0} {R : N → U → Type 0}
    → (f : M.sound a → N → N2) → Outcome M N2 a b r Q → ((s : M.sound a) (n : N) (y : U) → Q (f s n) y → R n y) → Outcome M N a b r R
sounded_ {r = r} f q k = record {
  intact = q.intact;
  loaded = q.loaded;
  sound = q.sound;
  met = q.met;
  fault = q.fault;
  quiet = q.quiet;
  noticed = q.noticed;
  value = λ n s h. on_ok r _ _ (k s n) (q.value (f s n) s h);
  structure = λ n s. q.structure (f s n) s;
}

-- a first call
pub first_ : {S : Type 0} {M : Meanings S} {U : Type 0} {N N2 : Type 0} {a b : S} {r : Result U Fail} {Q : N2 → U → Type 0} {R : N → U → Type 0}
    → (f : N → N2) → Outcome M N2 a b r Q → ((n : N) (y : U) → Q (f n) y → R n y) → Outcome M N a b r R
first_ f q k = sounded_ (λ s n. f n) q (λ s n y h. k n y h)

-- no call at all, and an answer by what is sound
pub idle_sound : {S : Type 0} {M : Meanings S} (laws : Lawful M) {T : Type 0} {N : Type 0} {P : N → T → Type 0} (a : S) (x : T) → M.intact a → ((n : N) → M.sound a → P n x) → Outcome M N a a (Ok x) P
idle_sound laws a x i f = record { intact = i; loaded = laws.same a; sound = λ s _. s; met = tt; fault = tt; quiet = refl; noticed = laws.gave_same a; value = λ n s _. f n s; structure = λ _ _ _. tt }

-- no call at all
pub idle : {S : Type 0} {M : Meanings S} (laws : Lawful M) {T : Type 0} {N : Type 0} {P : N → T → Type 0} (a : S) (x : T) → M.intact a → ((n : N) → P n x) → Outcome M N a a (Ok x) P
idle laws a x i f = idle_sound laws a x i (λ n _. f n)

module _ {S : Type 0} {M : Meanings S} {N : Type 0} {a b : S} where
  -- an error goes on up
  pub passed : {T U : Type 0} {e : Fail} {P : N → T → Type 0} {Q : N → U → Type 0} → Outcome M {T = T} N a b (Err e) P → Outcome M {T = U} N a b (Err e) Q
  passed p = record { intact = p.intact; loaded = p.loaded; sound = p.sound; met = p.met; fault = p.fault; quiet = p.quiet; noticed = p.noticed; value = λ _ _ _. tt; structure = p.structure }

  -- an answer made of another
  pub answered : {T U : Type 0} {x : T} {y : U} {P : N → T → Type 0} {Q : N → U → Type 0} → Outcome M N a b (Ok x) P → ((n : N) → P n x → Q n y) → Outcome M N a b (Ok y) Q
  answered p f = record { intact = p.intact; loaded = p.loaded; sound = p.sound; met = tt; fault = tt; quiet = p.quiet; noticed = p.noticed; value = λ n s h. f n (p.value n s h); structure = λ _ _ _. tt }

  -- memory may always be wanting
  pub no_memory : {T U : Type 0} {x : T} {P : N → T → Type 0} {Q : N → U → Type 0} → Outcome M N a b (Ok x) P → Outcome M {T = U} N a b (Err Memory) Q
  no_memory p = record { intact = p.intact; loaded = p.loaded; sound = p.sound; met = tt; fault = tt; quiet = p.quiet; noticed = p.noticed; value = λ _ _ _. tt; structure = λ _ _ _. tt }

  -- what was read isn't of the grammar, which can't be where the needs hold
  pub unbuilt : {T U : Type 0} {x : T} {P : N → T → Type 0} {Q : N → U → Type 0} → Lawful M → Outcome M N a b (Ok x) P → ((n : N) → P n x → ⊥) → Outcome M {T = U} N a b (Err (Violation Structure)) Q
  unbuilt laws p f = record { intact = p.intact; loaded = p.loaded; sound = p.sound; met = tt; fault = tt; quiet = p.quiet; noticed = λ why g. absurd (p.noticed why g); value = λ _ _ _. tt; structure = λ n s h. f n (p.value n s h) }

-- one call that went well, and another that failed
pub failed_ : {S : Type 0} {M : Meanings S} (laws : Lawful M) {T U V : Type 0} {N N2 : Type 0} {a b c : S} {x : T} {P : N → T → Type 0} {e : Fail} {Q : N2 → U → Type 0} {R : N → V → Type 0}
    → Outcome M N a b (Ok x) P → (f : (n : N) → P n x → N2) → Outcome M {T = U} N2 b c (Err e) Q → Outcome M {T = V} N a c (Err e) R
failed_ laws p f q = passed (then_ laws {R = λ _ _. Unit {0}} p f q (λ _ _ _ _. tt))

calm : {S : Type 0} {M : Meanings S} (laws : Lawful M) (a b : S) (e : Fail) → M.loaded a b → M.sound a → M.lies b ≤ M.lies a → OnVerdict e (M.met a b) → (M.forgeries b ≤ M.forgeries a → IsOfBlocks e) → IsCalm e
calm laws a b Memory l s h met f = tt
calm laws a b Fault l s h met f = tt
calm laws a b (Violation Missing) l s h met f = laws.honest_unmet a b _ l s h met
calm laws a b (Violation BadLength) l s h met f = laws.honest_unmet a b _ l s h met
calm laws a b (Violation BadPrefix) l s h met f = laws.honest_unmet a b _ l s h met
calm laws a b (Violation OldFormat) l s h met f = laws.honest_unmet a b _ l s h met
calm laws a b (Violation NotOpened) l s h met f = laws.honest_unmet a b _ l s h met
calm laws a b (Violation BadRecord) l s h met f = laws.honest_unmet a b _ l s h met
calm laws a b (Violation (WrongId i)) l s h met f = laws.honest_unmet a b _ l s h met
calm laws a b (Violation (ForeignClient i)) l s h met f = laws.honest_unmet a b _ l s h met
calm laws a b (Violation (OldVersion i j)) l s h met f = laws.honest_unmet a b _ l s h met
calm laws a b (Violation (AheadVersion i j)) l s h met f = laws.honest_unmet a b _ l s h met
calm laws a b (Violation Structure) l s h met f = f (laws.honest_unforged a b l s h)

-- over an honest outside no violation comes
pub alarm : {S : Type 0} {M : Meanings S} (laws : Lawful M) {T : Type 0} {N : Type 0} {a b : S} {r : Result T Fail} {P : N → T → Type 0} → Outcome M N a b r P → N → M.sound a → M.lies b ≤ M.lies a → IfErr r IsCalm
alarm laws {a = a} {b = b} {r = Ok x} o n s h = tt
alarm laws {a = a} {b = b} {r = Err e} o n s h = calm laws a b e o.loaded s h o.met (o.structure n s)

wants : (e : Fail) (before now : ℕ) → IsCalm e → HasCause e before now → (RoseBy 1 before now → ⊥) → e ≡ Memory
wants Memory before now calm cause none = refl
wants Fault before now calm cause none = absurd (none cause)
wants (Violation why) before now calm cause none = absurd calm

-- over an honest outside that didn't fail, an answer that isn't Ok is want of memory
pub complete : {S : Type 0} {M : Meanings S} (laws : Lawful M) {T : Type 0} {N : Type 0} {a b : S} {r : Result T Fail} {P : N → T → Type 0} → Outcome M N a b r P → N → M.sound a → M.lies b ≤ M.lies a
    → (RoseBy 1 (M.faults a) (M.faults b) → ⊥) → IfErr r (λ e. e ≡ Memory)
complete laws {r = Ok x} o n s h none = tt
complete {M = M} laws {a = a} {b = b} {r = Err e} o n s h none = wants e (M.faults a) (M.faults b) (alarm laws o n s h) o.fault none
