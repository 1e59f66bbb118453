use Rattle.std.proofs.Common.{◌≡◌, ◌≤◌, ◌∷◌, ◌++◌, ◌∙◌, [], map, codes, refl, sym, ap, subst, arith}
use Rattle.std.specs.declared.option.Option.TheVariants.{Some}
use Rattle.std.specs.String.{string_bytes}
use Rattle.program_laws.specs.Premises.{IsUntroubled, Finds}
use Rattle.cryfs_shell.specs.Doing.{Did}
use Rattle.cryfs_shell.specs.shell_runs.Hosts.{host_of}
use Rattle.cryfs_shell.specs.Kinds.{is_look}
use Rattle.cryfs_shell.specs.Streams.{streams_of}
use Rattle.fs_model.specs.Tree.{empty_tree}
use Rattle.cryfs_shell.specs.line_io.Streams.{Stream}
use Rattle.memory_outside.specs.Vaults.{VaultState}
use Rattle.cryfs_shell.specs.session_lines.Driven.{IsUnfailed}
use Rattle.session_laws.specs.Runs.{lies}
use Rattle.cryfs_shell.specs.program_words.Forms.{form_of}
use Rattle.program_laws.specs.contracts.honest_keeper.HonestKeeperKeeper.TheImpl as keeper_impl
use Rattle.program_laws.specs.contracts.honest_vault.HonestVaultListing.TheImpl as listing_impl
use Rattle.memory_host_folder.specs.contracts.memory_folder.MemoryFolderAttributed.TheImpl as attributes_impl
use Rattle.memory_host_folder.specs.contracts.memory_folder.MemoryFolderFolder.TheImpl as folder_impl
use Rattle.program_laws.specs.Made.{password, outside_in}
use Rattle.program_laws.proofs.Forms.{shell_form}
use Rattle.program_laws.proofs.Whole.{few, untroubled, short, calm_of, loaded_of, shorter, unserved, transcript}
use Rattle.program_laws.proofs.memory_run.serve.Goals as goal

pub returns-clause-want : goal.returns-clause-want
returns-clause-want g c =
    let r = c.run-ended in
    let words : map string_bytes c.deref.result.now ≡ codes "shell" ∷ [] = ap (map string_bytes) c.deref.ensures.value ∙ c.in-Ok-Ok.ensures in
    let input : Stream = record { old = Some c.in-Ok-Ok.input.rest; new = Some r.new.input.rest; faults = c.in-Ok-Ok.input.faults; risen = r.new.input.faults } in
    let output : Stream = record { old = Some c.new-output.result.written.items; new = Some r.new.output.written.items; faults = c.new-output.result.faults; risen = r.new.output.faults } in
    let trace = λ (v : VaultState). Some v.trace in
    let faults = λ (v : VaultState). v.faults in
    let streams = streams_of input output (host_of (folder_impl.ghosts).tree (attributes_impl.ghosts).attributes (folder_impl.ghosts).faults c.new.result r.new.host) (g.R.Rng.stream c.args.chance.now) (g.R.Rng.stream r.new.chance) in
    let ran = subst (Did trace faults (listing_impl.ghosts).names keeper_impl.ghosts (map string_bytes c.deref.result.now) c.args.now streams c.args.made.vault c.args.made.keeper r.result) (ap form_of words ∙ shell_form) r.ensures.did in
    let bytes = password ++ 10 ∷ c.args.script.now in
    let before = outside_in c.args.made.vault c.args.made.keeper in
    let after = outside_in r.result.vault r.result.keeper in
    let finds : Finds input bytes c.requires.c empty_tree before = record { told = ap Some c.in-Ok-Ok.ensures'.rest; short = short; opens = c.requires.leaves.opens; stands = c.requires.leaves.stands } in
    let gave : lies after ≤ lies before = let a = c.attest.ensures.truthful in let b = c.attest-3.ensures.truthful in omega (arith, a, b) in
    let calm = calm_of c.honest_runs_are_unforged.ensures.only input before after r.result.status (r.ensures.no_false_alarm (ap (λ w. is_look (form_of w)) words ∙ ap is_look shell_form)) bytes c.requires.c empty_tree finds gave in
    let less = few input c.in-Ok-Ok.input.rest r.new.input.rest refl refl c.in-Ok-Ok.ensures'.few in
    let quiet : IsUnfailed output → IsUntroubled input output before after =
    λ unfailed. untroubled input output c.args.made.vault r.result.vault c.args.made.keeper r.result.keeper c.attest.ensures c.attest-3.ensures c.attest-2.ensures c.attest-4.ensures
    c.in-Ok-Ok.ensures'.honest.faultless c.attest-5.ensures.faultless less c.new-output.ensures.faultless unfailed in
    unserved trace faults keeper_impl.ghosts c.args.now (c.sessions_complete.ensures.shell c.args.now) input output c.args.made.vault c.args.made.keeper r.result ran calm bytes c.requires.c empty_tree finds quiet (c.is_done.ensures.no c.if-is_done.false)

pub returns-then-is_done-clause-transcript : goal.returns-then-is_done-clause-transcript
returns-then-is_done-clause-transcript g c =
    let r = c.run-ended in
    let words : map string_bytes c.deref.result.now ≡ codes "shell" ∷ [] = ap (map string_bytes) c.deref.ensures.value ∙ c.in-Ok-Ok.ensures in
    let input : Stream = record { old = Some c.in-Ok-Ok.input.rest; new = Some r.new.input.rest; faults = c.in-Ok-Ok.input.faults; risen = r.new.input.faults } in
    let output : Stream = record { old = Some c.new-output.result.written.items; new = Some r.new.output.written.items; faults = c.new-output.result.faults; risen = r.new.output.faults } in
    let trace = λ (v : VaultState). Some v.trace in
    let faults = λ (v : VaultState). v.faults in
    let streams = streams_of input output (host_of (folder_impl.ghosts).tree (attributes_impl.ghosts).attributes (folder_impl.ghosts).faults c.new.result r.new.host) (g.R.Rng.stream c.args.chance.now) (g.R.Rng.stream r.new.chance) in
    let ran = subst (Did trace faults (listing_impl.ghosts).names keeper_impl.ghosts (map string_bytes c.deref.result.now) c.args.now streams c.args.made.vault c.args.made.keeper r.result) (ap form_of words ∙ shell_form) r.ensures.did in
    let bytes = password ++ 10 ∷ c.args.script.now in
    let before = outside_in c.args.made.vault c.args.made.keeper in
    let after = outside_in r.result.vault r.result.keeper in
    let finds : Finds input bytes c.requires.c empty_tree before = record { told = ap Some c.in-Ok-Ok.ensures'.rest; short = short; opens = c.requires.leaves.opens; stands = c.requires.leaves.stands } in
    let gave : lies after ≤ lies before = let a = c.attest.ensures.truthful in let b = c.attest-3.ensures.truthful in omega (arith, a, b) in
    let calm = calm_of c.honest_runs_are_unforged.ensures.only input before after r.result.status (r.ensures.no_false_alarm (ap (λ w. is_look (form_of w)) words ∙ ap is_look shell_form)) bytes c.requires.c empty_tree finds gave in
    let less = few input c.in-Ok-Ok.input.rest r.new.input.rest refl refl c.in-Ok-Ok.ensures'.few in
    let quiet : IsUnfailed output → IsUntroubled input output before after =
    λ unfailed. untroubled input output c.args.made.vault r.result.vault c.args.made.keeper r.result.keeper c.attest.ensures c.attest-3.ensures c.attest-2.ensures c.attest-4.ensures
    c.in-Ok-Ok.ensures'.honest.faultless c.attest-5.ensures.faultless less c.new-output.ensures.faultless unfailed in
    let loaded = loaded_of c.args.made.keeper.kept (Some c.args.made.vault.trace) c.requires.c empty_tree c.requires.leaves.stands in
    transcript trace faults keeper_impl.ghosts c.args.now (c.sessions_complete.ensures.shell c.args.now) input output c.args.made.vault c.args.made.keeper r.result ran calm bytes c.requires.c empty_tree finds quiet c.args.script.now loaded.0 loaded.1 c.requires.root
    refl (ap Some c.in-Ok-Ok.ensures'.rest) (ap Some c.new-output.ensures.empty) refl loaded.2 c.requires.young (shorter c.in-Ok-Ok.input.rest c.args.script.now c.in-Ok-Ok.ensures'.rest c.in-Ok-Ok.ensures'.few) c.into_written.result.items (ap Some (sym c.into_written.ensures)) (c.is_done.ensures.yes c.if-is_done.true)
