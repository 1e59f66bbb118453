-- A store over no outside: what it keeps is what was put, and nothing lies, fails or is found wrong.
use Rattle.std.proofs.Common.{arith}
use Rattle.store_outcome.specs.Meanings.{Meanings, Lawful}

abbrev pub in_memory : {S : Type 0} → (S → Type 0) → (S → S → Type 0) → Meanings S
in_memory kept loaded = record {
  intact = kept;
  sound = λ s. Unit {0};
  forgeries = λ s. 0;
  lies = λ s. 0;
  faults = λ s. 0;
  loaded = loaded;
  met = λ a b why. ⊥;
  gave = λ a b why. ⊥;
}

pub in_memory_lawful : {S : Type 0} (kept : S → Type 0) (loaded : S → S → Type 0) → ((a : S) → loaded a a) → ((a b c : S) → loaded a b → loaded b c → loaded a c) → Lawful (in_memory kept loaded)
in_memory_lawful kept loaded same onward = record {
  same = same;
  onward = onward;
  met_before = λ a b c why h k m. m;
  met_after = λ a b c why h k m. m;
  forgeries_grow = λ a b h. omega arith;
  lies_grow = λ a b h. omega arith;
  faults_grow = λ a b h. omega arith;
  honest_unforged = λ a b h s l. omega arith;
  honest_unmet = λ a b why h s l m. m;
  gave_same = λ a why g. g;
  gave_split = λ a b c why h k g. absurd g;
}
