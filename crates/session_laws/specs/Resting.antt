-- Lines that change nothing, and what they leave.
use Rattle.std.specs.Prelude.{◌≡◌, ◌⊎◌, ℕ, false, List, [], ◌∷◌, ◌++◌, Ok, Err}
use Rattle.std.specs.declared.option.Option.{Option}
use Rattle.std.specs.declared.option.Option.TheVariants.{None, Some}
use Rattle.fs_model.specs.Laws.{OnlyLooks}
use Rattle.outside.specs.Trace.{Call, block, got}
use Rattle.run_frame.specs.answers.Sessions.{Asked, Exchange, is_violation}
use Rattle.mount.specs.mount_core.Answers.{is_done_answer}
use Rattle.mount.specs.declared.mount.Mount.{Mount}
use Rattle.run_frame.specs.mount_stores.Tower.{tower_meanings}
use Rattle.session_laws.specs.Answering.{store_of}

-- asked only to look, or for a sync
abbrev pub AsksNoChange : Asked → Type 0
AsksNoChange (Ok command) = OnlyLooks command
AsksNoChange (Err error) = Unit {0}

-- no change was asked for, or the answer isn't the reply Done; and none is a violation
abbrev pub AreIdle : List Exchange → Type 0
AreIdle [] = Unit {0}
AreIdle (e ∷ es) = (is_violation e.answer ≡ false) × (AsksNoChange e.asked ⊎ (is_done_answer e.answer ≡ false)) × AreIdle es

-- the call asked for a block's file
abbrev pub IsGet : Call → Type 0
IsGet (got (block id) max answer) = Unit {0}
IsGet _ = ⊥

abbrev pub AreGets : List Call → Type 0
AreGets [] = Unit {0}
AreGets (call ∷ calls) = IsGet call × AreGets calls

-- the calls went on by such alone, where they are told; what isn't told stays so
abbrev pub OnlyGot : Option (List Call) → Option (List Call) → Type 0
OnlyGot None new = new ≡ None
OnlyGot (Some old) new = (gets : List Call) × (new ≡ Some (gets ++ old)) × AreGets gets

-- the call asked for a file, whichever
abbrev pub IsAsking : Call → Type 0
IsAsking (got name max answer) = Unit {0}
IsAsking _ = ⊥

abbrev pub AreAsking : List Call → Type 0
AreAsking [] = Unit {0}
AreAsking (call ∷ calls) = IsAsking call × AreAsking calls

-- the same as OnlyGot, where the configuration's file may be asked for too
abbrev pub OnlyAsked : Option (List Call) → Option (List Call) → Type 0
OnlyAsked None new = new ≡ None
OnlyAsked (Some old) new = (asked : List Call) × (new ≡ Some (asked ++ old)) × AreAsking asked

-- from the one mount to the other nothing was changed and nothing was saved, and blocks were only loaded
pub record Rested {V : Type 0} {K : Type 0} (trace : V → Option (List Call)) (faults : V → ℕ) (old new : Mount V K) : Type 0 where
  pub changed : new.core.saver.changed ≡ false
  pub keeper : new.core.saver.keeper ≡ old.core.saver.keeper
  pub loaded : (tower_meanings trace faults).loaded (store_of old) (store_of new)
