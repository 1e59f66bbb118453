-- How far a piece of a file was read.
use Rattle.std.specs.Prelude.{◌≡◌, ℕ, ◌≤◌, List, take, drop, length}
use Rattle.std.specs.FinMap.{get}
use Rattle.std.specs.declared.option.Option.TheVariants.{Some}
use Rattle.std.specs.declared.result.Result.{Result}
use Rattle.std.specs.declared.result.Result.TheVariants.{Ok, Err}
use Rattle.outside.specs.Causes.{RoseBy}
use Rattle.outside.specs.declared.vault.GetFail.{GetFail}
use Rattle.outside.specs.declared.vault.GetFail.TheVariants.{Memory, Failed}
use Rattle.fs_model.specs.declared.attr.Kind.TheVariants.{File}
use Rattle.copy_laws.specs.host_folder.Folders.{HostPath, HostTree}

-- the bytes of the file from this place on stand first in the piece, so many of them
pub record IsFilled (t : HostTree) (p : HostPath) (from len : ℕ) (piece : List ℕ) : Type 0 where
  pub bytes : List ℕ
  pub there : get t p ≡ Some (record { kind = File; bytes = bytes })
  pub is : take len piece ≡ take len (drop from bytes)

-- as many bytes of it as there are and the piece has room for
pub record IsFull (t : HostTree) (p : HostPath) (from len : ℕ) (piece : List ℕ) : Type 0 where
  pub bytes : List ℕ
  pub there : get t p ≡ Some (record { kind = File; bytes = bytes })
  pub is : take len piece ≡ take (length piece) (drop from bytes)

abbrev pub ReadFaults : {X : Type 0} → ℕ → ℕ → Result X GetFail → Type 0
ReadFaults before now (Ok x) = now ≡ before
ReadFaults before now (Err Memory) = now ≡ before
ReadFaults before now (Err Failed) = (before ≤ now) × RoseBy 1 before now
