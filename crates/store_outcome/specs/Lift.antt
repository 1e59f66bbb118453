-- What a store means that holds another one and hands its meanings on, but for what it keeps itself.
use Rattle.std.specs.Prelude.{◌≤◌, Result}
use Rattle.block_id.specs.declared.fail.Fail.{Fail}
use Rattle.store_outcome.specs.Meanings.{Meanings, Lawful}
use Rattle.store_outcome.specs.Outcome.{Outcome}

-- the meanings of the store below, f, with what this store keeps of its own in each call
abbrev pub lift : {A B : Type 0} → (A → B) → (A → Type 0) → Meanings B → Meanings A
lift f own M = record {
  intact = λ a. M.intact (f a) × own a;
  sound = λ a. M.sound (f a);
  forgeries = λ a. M.forgeries (f a);
  lies = λ a. M.lies (f a);
  faults = λ a. M.faults (f a);
  loaded = λ a b. M.loaded (f a) (f b);
  met = λ a b why. M.met (f a) (f b) why;
  gave = λ a b why. M.gave (f a) (f b) why;
}

pub lawful : {A B : Type 0} (f : A → B) (own : A → Type 0) (M : Meanings B) → Lawful M → Lawful (lift f own M)
lawful f own M l = record {
  same = λ a. l.same (f a);
  onward = λ a b c. l.onward (f a) (f b) (f c);
  met_before = λ a b c. l.met_before (f a) (f b) (f c);
  met_after = λ a b c. l.met_after (f a) (f b) (f c);
  forgeries_grow = λ a b. l.forgeries_grow (f a) (f b);
  lies_grow = λ a b. l.lies_grow (f a) (f b);
  faults_grow = λ a b. l.faults_grow (f a) (f b);
  honest_unforged = λ a b. l.honest_unforged (f a) (f b);
  honest_unmet = λ a b why. l.honest_unmet (f a) (f b) why;
  gave_same = λ a. l.gave_same (f a);
  gave_split = λ a b c. l.gave_split (f a) (f b) (f c);
}

-- a call of the store below is one of this
pub lifted : {A B : Type 0} (f : A → B) (own : A → Type 0) {M : Meanings B} {T : Type 0} {N : Type 0} {P : N → T → Type 0} {r : Result T Fail} (a b : A) → own b → Outcome M N (f a) (f b) r P → Outcome (lift f own M) N a b r P
lifted f own a b kept o = record { intact = (o.intact, kept); loaded = o.loaded; sound = o.sound; met = o.met; fault = o.fault; quiet = o.quiet; noticed = o.noticed; value = o.value; structure = o.structure }

-- ---- a store that keeps data of the one below, which agree with it where both are sound

-- the meanings of the store below, f, with what this store keeps of its own in each call, and with when what it keeps agrees
abbrev pub lift_with : {A B : Type 0} → (A → B) → (A → Type 0) → (A → Type 0) → Meanings B → Meanings A
lift_with f own agrees M = record {
  intact = λ a. M.intact (f a) × own a;
  sound = λ a. M.sound (f a) × agrees a;
  forgeries = λ a. M.forgeries (f a);
  lies = λ a. M.lies (f a);
  faults = λ a. M.faults (f a);
  loaded = λ a b. M.loaded (f a) (f b);
  met = λ a b why. M.met (f a) (f b) why;
  gave = λ a b why. M.gave (f a) (f b) why;
}

pub lawful_with : {A B : Type 0} (f : A → B) (own agrees : A → Type 0) (M : Meanings B) → Lawful M → Lawful (lift_with f own agrees M)
lawful_with f own agrees M l = record {
  same = λ a. l.same (f a);
  onward = λ a b c. l.onward (f a) (f b) (f c);
  met_before = λ a b c. l.met_before (f a) (f b) (f c);
  met_after = λ a b c. l.met_after (f a) (f b) (f c);
  forgeries_grow = λ a b. l.forgeries_grow (f a) (f b);
  lies_grow = λ a b. l.lies_grow (f a) (f b);
  faults_grow = λ a b. l.faults_grow (f a) (f b);
  honest_unforged = λ a b x s. l.honest_unforged (f a) (f b) x s.0;
  honest_unmet = λ a b why x s. l.honest_unmet (f a) (f b) why x s.0;
  gave_same = λ a. l.gave_same (f a);
  gave_split = λ a b c. l.gave_split (f a) (f b) (f c);
}

-- a call of the store below is one of this, where what is kept agrees afterwards
pub lifted_with : {A B : Type 0} (f : A → B) (own agrees : A → Type 0) {M : Meanings B} {T : Type 0} {N : Type 0} {P : N → T → Type 0} {r : Result T Fail} (a b : A) → own b
    → (M.sound (f a) → agrees a → M.forgeries (f b) ≤ M.forgeries (f a) → agrees b) → Outcome M N (f a) (f b) r P → Outcome (lift_with f own agrees M) N a b r P
lifted_with f own agrees a b kept agree o = record {
  intact = (o.intact, kept);
  loaded = o.loaded;
  sound = λ s h. (o.sound s.0 h, agree s.0 s.1 h);
  met = o.met;
  fault = o.fault;
  quiet = o.quiet;
  noticed = o.noticed;
  value = λ n s. o.value n s.0;
  structure = λ n s. o.structure n s.0;
}
