-- What the two words ask for.
use Rattle.std.proofs.Common.{◌≡◌, [], ◌∷◌, Some, codes, refl}
use Rattle.clap.specs.Faults.{walk_fault, defaults_fault}
use Rattle.cryfs_shell.specs.program_words.CreateOptions.{options_of, options_at, cost_at, number_at, number_within, is_power}
use Rattle.cryfs_shell.specs.program_words.CreateCommand.{create_app}
use Rattle.cryfs_shell.specs.program_words.Forms.{form_of, plain_form, single_form}
use Rattle.copy_file.specs.script_text.Grammar.{verb_of}
use Rattle.cryfs_shell.specs.program_words.declared.create_options.CreateOptions.{CreateOptions}
use Rattle.cryfs_shell.specs.program_words.declared.form.Form.TheVariants.{Create, Shell}

-- blocks of 16,384 bytes, and the usual cost
abbrev pub usual : CreateOptions
usual = record { block_size = 16384; params = record { n = 32768; r = 8; p = 1 } }

pub create_form : form_of (codes "create" ∷ []) ≡ Some (Create usual)
unfolding form_of options_of options_at cost_at number_at number_within is_power create_app walk_fault defaults_fault
create_form = refl

pub shell_form : form_of (codes "shell" ∷ []) ≡ Some Shell
unfolding form_of plain_form single_form verb_of
shell_form = refl
