-- The premises of completeness can be met.
use Rattle.std.proofs.Common.{◌≡◌, ◌≤◌, ◌<◌, ◌+◌, ◌-◌, ◌^◌, ◌∙◌, ℕ, List, length, sym, ap, subst, arith}
use Rattle.std.specs.Prelude.{min}
use Rattle.std.specs.declared.option.Option.TheVariants.{Some}
use Rattle.std.proofs.lemmas.Option.{same_Some}
use Rattle.session_laws.specs.config_file.Settings.{Settings}
use Rattle.fs_model.specs.Tree.{Tree}
use Rattle.copy_file.specs.line_io.Lines.{first_line}
use Rattle.copy_file.specs.line_io.Reading.{total}
use Rattle.copy_file.specs.line_io.Streams.{Stream, Untouched, HasFailed, TookMost}
use Rattle.outside.specs.Causes.{RoseBy}
use Rattle.shell_runs.specs.run_frame.Passwords.{IsLongLine}
use Rattle.session_laws.specs.Runs.{Outside, PasswordOpens}
use Rattle.program_laws.specs.Premises.{IsUntroubled, Finds, Leaves}

-- a count that isn't at its end is no higher than itself
stays : (n last : ℕ) → n < last → min (n + 1) last ≤ n → ⊥
stays n last below rose = omega (arith, below, rose)

unfailed : (s : Stream) → s.risen ≡ s.faults → s.faults < 2 ^ 64 - 1 → ¬ HasFailed s
unfailed s same below rose = stays s.faults (2 ^ 64 - 1) below (subst (λ n. RoseBy 1 s.faults n) same rose)

-- no 2^63 bytes more than all are all
fewer : (most n : ℕ) → 0 < most → most + n ≡ 0 + n → ⊥
fewer most n some e = omega (arith, some, e)

few : (s : Stream) (bytes : List ℕ) → s.old ≡ Some bytes → s.new ≡ s.old → ¬ TookMost 0 s
few s bytes told same most =
    fewer (2 ^ 63) (length bytes) (omega arith)
    (same_Some _ _ (sym (ap (total (2 ^ 63)) (same ∙ told)) ∙ (most ∙ ap (total 0) told)))

pub rests : (input output : Stream) (bytes : List ℕ) (o : Outside) → input.old ≡ Some bytes → Untouched input → Untouched output
    → o.vault_faults < 2 ^ 64 - 1 → o.keeper_faults < 2 ^ 64 - 1 → input.faults < 2 ^ 64 - 1 → output.faults < 2 ^ 64 - 1 → IsUntroubled input output o o
rests input output bytes o told read written vault keeper taken given = record {
  honest = omega arith;
  directory_unfailed = stays o.vault_faults (2 ^ 64 - 1) vault;
  state_unfailed = stays o.keeper_faults (2 ^ 64 - 1) keeper;
  input_unfailed = unfailed input read.1 taken;
  output_unfailed = unfailed output written.1 given;
  few = few input bytes told read.0;
}

pub found : (input : Stream) (bytes password : List ℕ) (c : Settings) (tree : Tree) (o : Outside) → input.old ≡ Some bytes → first_line bytes ≡ password → ¬ IsLongLine password
    → Leaves password c tree o → Finds input bytes c tree o
found input bytes password c tree o told first short leaves = record {
  told = told;
  short = subst (λ line. ¬ IsLongLine line) (sym first) short;
  opens = subst (λ line. PasswordOpens line c o) (sym first) leaves.opens;
  stands = leaves.stands;
}
