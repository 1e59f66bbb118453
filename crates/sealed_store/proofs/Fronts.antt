-- The front of what is seen, and that a plaintext is whole.
use Rattle.std.proofs.Common.{◌≡◌, ℕ, ◌+◌, ◌-◌, ◌≤◌, ◌==◌, Bool, true, false, List, [], ◌++◌, length, take, drop, refl, ◌∙◌, ap, arith, append-nil, length-drop, length-take-le}
use Rattle.std.specs.Prelude.{nat_lt, if◌then◌else◌}
use Rattle.std.specs.Option.{option_map}
use Rattle.std.specs.declared.option.Option.{Option}
use Rattle.std.specs.declared.option.Option.TheVariants.{None, Some}
use Rattle.std.proofs.lemmas.Bool.{eqb-true}
use Rattle.std.proofs.lemmas.List.{drop_all, drop_at}
use borrow.Rule.Slice.PartMut.{put_mid}
use Rattle.outside.specs.Trace.{Call}
use Rattle.outside.specs.declared.vault.GetFail.{GetFail}
use Rattle.outside.specs.declared.vault.GetFail.TheVariants.{Memory, Failed}
use Rattle.block_id.specs.Formats.{extra_of, format_in, number_of}
use Rattle.block_id.specs.declared.format.Format.{Format}
use Rattle.sealed_store.specs.BlockFiles.{IsWhole, bad_length, front_seen, old_format, seen_as, seen_file_in, seen_file_of_plain}
use Rattle.sealed_store.specs.Stores.{Unseen}

-- the front of what opens is seen as the front of the whole
pub front_of_plain : (most : ℕ) (o : Option (List ℕ)) → seen_file_of_plain (option_map (take most) o) ≡ front_seen most (seen_file_of_plain o)
front_of_plain most None = refl
front_of_plain most (Some plain) = refl

-- ---- a plaintext is whole, where a text that opens has 32 bytes more

-- each text that opens has 16 bytes of an IV and 16 of a tag more than its plaintext
pub record OpensLonger (opens : List ℕ → List ℕ → Option (List ℕ)) : Type 0 where
  pub longer : (extra text plain : List ℕ) → opens extra text ≡ Some plain → length text ≡ 16 + length plain + 16

pub longer_of : {C : Type 0} (iv_size : C → ℕ) (opens : C → List ℕ → List ℕ → List ℕ → Option (List ℕ))
    → ((s : C) (key extra text plain : List ℕ) → opens s key extra text ≡ Some plain → length text ≡ iv_size s + length plain + 16)
    → (s : C) (key : List ℕ) → iv_size s ≡ 16 → OpensLonger (opens s key)
longer_of iv_size opens law s key is = record { longer = λ extra text plain e. law s key extra text plain e ∙ ap (λ n. n + length plain + 16) is }

plain_whole : (size : ℕ) (o : Option (List ℕ)) → ((plain : List ℕ) → o ≡ Some plain → length plain + 48 ≡ size) → IsWhole size (seen_file_of_plain o)
plain_whole size None longer = tt
plain_whole size (Some plain) longer = longer plain refl

old_whole : (size : ℕ) (old : Bool) (o : Option (List ℕ)) → IsWhole size (seen_file_of_plain o) → IsWhole size (if old then old_format else seen_file_of_plain o)
old_whole size true o whole = tt
old_whole size false o whole = whole

as_whole : (opens : List ℕ → List ℕ → Option (List ℕ)) (size least : ℕ) (id rest : List ℕ) (f : Option Format) → OpensLonger opens → 16 ≤ size → length rest ≡ size - 16 → IsWhole size (seen_as opens least id rest f)
as_whole opens size least id rest None right low long = tt
as_whole opens size least id rest (Some f) right low long =
    old_whole size (nat_lt (number_of f) least) (opens (extra_of f id) rest)
    (plain_whole size (opens (extra_of f id) rest) (λ plain e. omega (arith, right.longer (extra_of f id) rest plain e, low, long)))

sized_whole : (opens : List ℕ → List ℕ → Option (List ℕ)) (size least : ℕ) (id bytes : List ℕ) (same : Bool) → (length bytes == size) ≡ same → OpensLonger opens → 16 ≤ size
    → IsWhole size (if same then seen_as opens least id (drop 16 bytes) (format_in bytes) else bad_length)
sized_whole opens size least id bytes true e right low =
    as_whole opens size least id (drop 16 bytes) (format_in bytes) right low (length-drop 16 bytes ∙ ap (λ n. n - 16) (eqb-true (length bytes) size e))
sized_whole opens size least id bytes false e right low = tt

-- the plaintext that a file shows is whole
pub shown_whole : (opens : List ℕ → List ℕ → Option (List ℕ)) (size least : ℕ) (id : List ℕ) (file : Option (List ℕ)) → OpensLonger opens → 16 ≤ size → IsWhole size (seen_file_in opens size least id file)
shown_whole opens size least id None right low = tt
shown_whole opens size least id (Some bytes) right low = sized_whole opens size least id bytes (length bytes == size) refl right low

-- ---- a file that was opened where it stands

-- what was written behind the prefix
pub rest_written : (file new : List ℕ) → 16 ≤ length file → drop 16 (put_mid 16 (length file - 16) file new) ≡ new
rest_written file new long =
    let behind : List ℕ = drop (length file - 16) (drop 16 file) in
    let none : behind ≡ [] = drop_all (length file - 16) (drop 16 file) (omega (arith, length-drop 16 file)) in
    drop_at (take 16 file) (new ++ behind) 16 (length-take-le 16 file long) ∙ ap (λ (l : List ℕ). new ++ l) none ∙ append-nil new

-- ---- no sight

-- the directory's call failed
pub failed_unseen : (change : Option (Option (List ℕ))) (old new : Option (List Call)) (e : GetFail) → new ≡ old → (e ≡ Failed → change ≡ None) → Unseen change old new e
failed_unseen change old new Memory same none = same
failed_unseen change old new Failed same none = (same, none refl)
