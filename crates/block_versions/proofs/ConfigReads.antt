-- A read of the configuration's file is none of a block.
use Rattle.std.specs.Prelude.{◌≡◌, ℕ, List}
use Rattle.std.specs.declared.option.Option.{Option}
use Rattle.std.specs.declared.option.Option.TheVariants.{None, Some}
use Rattle.std.proofs.Common.{refl, arith}
use Rattle.outside.specs.Trace.{config, Call}
use Rattle.outside.specs.Honest.{count_told}
use Rattle.store_api.specs.Content.{SameContent}
use Rattle.block_versions.specs.Forgeries.{forged}
use Rattle.block_versions.specs.Held.{Held, wanted}
use Rattle.block_versions.specs.ReadLaws.{sound-got}
use Rattle.block_versions.specs.Reads.{after_read}
use Rattle.block_versions.specs.Soundness.{SoundBy}

pub read_sound : (h : Held) (trace : Option (List Call)) (max : ℕ) (answer : Option (List ℕ)) → SoundBy h trace → SoundBy h (after_read trace max answer)
read_sound h None max answer s = s
read_sound h (Some t) max answer s = sound-got h t config max answer s

pub read_content : (h : Held) (trace : Option (List Call)) (max : ℕ) (answer : Option (List ℕ)) → SameContent (wanted h trace) (wanted h (after_read trace max answer))
read_content h None max answer id = refl
read_content h (Some t) max answer id = refl

pub read_forgeries : (opens : List ℕ → List ℕ → Option (List ℕ)) (size : ℕ) (trace : Option (List Call)) (max : ℕ) (answer : Option (List ℕ)) → count_told (forged opens size) (after_read trace max answer) ≡ count_told (forged opens size) trace
read_forgeries opens size None max answer = refl
read_forgeries opens size (Some t) max answer = omega arith
