-- What a store over an outside that may lie means, whatever it stores.
use Rattle.std.specs.Prelude.{◌≡◌, ◌⊎◌, ℕ, ◌≤◌, Result}
use Rattle.std.specs.declared.result.Result.TheVariants.{Ok, Err}
use Rattle.block_id.specs.declared.fail.Fail.{Fail}
use Rattle.block_id.specs.declared.fail.Fail.TheVariants.{Memory, Fault, Violation}
use Rattle.block_id.specs.declared.fail.Why.{Why}
use Rattle.block_id.specs.declared.fail.Why.TheVariants.{Missing, BadLength, BadPrefix, NotOpened, BadRecord, WrongId, ForeignClient, OldVersion, AheadVersion, Structure, OldFormat}
use Rattle.outside.specs.Causes.{RoseBy}

pub record Meanings (S : Type 0) : Type 1 where
  -- what each value of the type keeps from call to call, whatever the outside answers
  pub intact : S → Type 0
  -- what the store keeps agrees with what was put
  pub sound : S → Type 0
  -- how many returned blocks opened that were never put
  pub forgeries : S → ℕ
  -- how many returned answers weren't what was last written
  pub lies : S → ℕ
  -- how often the outside failed
  pub faults : S → ℕ
  -- from the first to the second, blocks were only loaded
  pub loaded : S → S → Type 0
  -- on the way from the first to the second, a block was found wrong in this way
  pub met : S → S → Why → Type 0
  -- on the way from the first to the second, a call gave of a live block a file that is wrong in this way
  pub gave : S → S → Why → Type 0

pub record Lawful {S : Type 0} (M : Meanings S) : Type 0 where
  pub same : (a : S) → M.loaded a a
  pub onward : (a b c : S) → M.loaded a b → M.loaded b c → M.loaded a c
  pub met_before : (a b c : S) (why : Why) → M.loaded a b → M.loaded b c → M.met a b why → M.met a c why
  pub met_after : (a b c : S) (why : Why) → M.loaded a b → M.loaded b c → M.met b c why → M.met a c why
  pub forgeries_grow : (a b : S) → M.loaded a b → M.forgeries a ≤ M.forgeries b
  pub lies_grow : (a b : S) → M.loaded a b → M.lies a ≤ M.lies b
  pub faults_grow : (a b : S) → M.loaded a b → M.faults a ≤ M.faults b
  -- where nothing but what was last written came back, nothing came back that was never put
  pub honest_unforged : (a b : S) → M.loaded a b → M.sound a → M.lies b ≤ M.lies a → M.forgeries b ≤ M.forgeries a
  -- where nothing but what was last written came back, no block was found wrong
  pub honest_unmet : (a b : S) (why : Why) → M.loaded a b → M.sound a → M.lies b ≤ M.lies a → M.met a b why → ⊥
  -- where no call was made nothing was given, and what the calls of two ways gave, those of one of them gave
  pub gave_same : (a : S) (why : Why) → M.gave a a why → ⊥
  pub gave_split : (a b c : S) (why : Why) → M.loaded a b → M.loaded b c → M.gave a c why → M.gave a b why ⊎ M.gave b c why

-- of a failure that names a verdict on one block, this holds
abbrev pub OnVerdict : Fail → (Why → Type 0) → Type 0
OnVerdict Memory P = Unit {0}
OnVerdict Fault P = Unit {0}
OnVerdict (Violation Structure) P = Unit {0}
OnVerdict (Violation why) P = P why

-- no violation
abbrev pub IsCalm : Fail → Type 0
IsCalm Memory = Unit {0}
IsCalm Fault = Unit {0}
IsCalm (Violation why) = ⊥

-- no violation of the structure
abbrev pub IsOfBlocks : Fail → Type 0
IsOfBlocks Memory = Unit {0}
IsOfBlocks Fault = Unit {0}
IsOfBlocks (Violation Structure) = ⊥
IsOfBlocks (Violation why) = Unit {0}

-- a fault comes only where the count of faults rose
abbrev pub HasCause : Fail → ℕ → ℕ → Type 0
HasCause Memory before now = Unit {0}
HasCause Fault before now = RoseBy 1 before now
HasCause (Violation why) before now = Unit {0}

-- this holds, unless the failure is a fault
abbrev pub UnlessFault : Fail → Type 0 → Type 0
UnlessFault Memory P = P
UnlessFault Fault P = Unit {0}
UnlessFault (Violation why) P = P

-- every answer but a fault leaves the count of faults, so that no fault is swallowed
abbrev pub IsQuiet : {T : Type 0} → Result T Fail → ℕ → ℕ → Type 0
IsQuiet (Ok answer) before now = now ≡ before
IsQuiet (Err fail) before now = UnlessFault fail (now ≡ before)

-- a violation names whatever wrong file came; a fault and want of memory are told where none came
abbrev pub Tells : Fail → (Why → Type 0) → Type 0
Tells Memory gave = (why : Why) → gave why → ⊥
Tells Fault gave = (why : Why) → gave why → ⊥
Tells (Violation told) gave = (why : Why) → gave why → why ≡ told

-- no wrong file that came is passed over
abbrev pub IsNoticed : {T : Type 0} → Result T Fail → (Why → Type 0) → Type 0
IsNoticed (Ok answer) gave = (why : Why) → gave why → ⊥
IsNoticed (Err fail) gave = Tells fail gave
