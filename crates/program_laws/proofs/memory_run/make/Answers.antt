use Rattle.std.proofs.Common.{◌≡◌, ◌∷◌, ◌++◌, ◌∙◌, [], map, codes, refl, ap, subst}
use Rattle.std.specs.declared.option.Option.TheVariants.{Some}
use Rattle.std.specs.String.{string_bytes}
use Rattle.program_laws.specs.Premises.{IsUntroubled}
use Rattle.program_laws.specs.Setups.{IsBare}
use Rattle.cryfs_shell.specs.Doing.{Did}
use Rattle.cryfs_shell.specs.shell_runs.Hosts.{host_of}
use Rattle.cryfs_shell.specs.Streams.{streams_of}
use Rattle.cryfs_shell.specs.line_io.Streams.{Stream}
use Rattle.memory_outside.specs.Vaults.{VaultState}
use Rattle.cryfs_shell.specs.mount_stores.Drawing.{drawn}
use Rattle.cryfs_shell.specs.mount_stores.Making.{new_settings, root_of}
use Rattle.cryfs_shell.specs.session_lines.Driven.{IsUnfailed}
use Rattle.session_laws.specs.Runs.{outside_of}
use Rattle.copy_file.specs.store_api.Durables.{last_told}
use Rattle.cryfs_shell.specs.program_words.Forms.{form_of}
use Rattle.program_laws.specs.contracts.honest_keeper.HonestKeeperKeeper.TheImpl as keeper_impl
use Rattle.program_laws.specs.contracts.honest_vault.HonestVaultListing.TheImpl as listing_impl
use Rattle.memory_host_folder.specs.contracts.memory_folder.MemoryFolderAttributed.TheImpl as attributes_impl
use Rattle.memory_host_folder.specs.contracts.memory_folder.MemoryFolderFolder.TheImpl as folder_impl
use Rattle.program_laws.specs.Made.{password, outside_in}
use Rattle.program_laws.proofs.Forms.{usual, create_form}
use Rattle.program_laws.proofs.Outputs.{young_of}
use Rattle.program_laws.proofs.Whole.{few, untroubled, short, made_so, unmade}
use Rattle.program_laws.proofs.memory_run.make.Goals as goal

pub returns-clause-want : goal.returns-clause-want
returns-clause-want g c =
    let r = c.run-ended in
    let words : map string_bytes c.deref.result.now ≡ codes "create" ∷ [] = ap (map string_bytes) c.deref.ensures.value ∙ c.in-Ok-Ok.ensures in
    let input : Stream = record { old = Some c.in-Ok-Ok.input.rest; new = Some r.new.input.rest; faults = c.in-Ok-Ok.input.faults; risen = r.new.input.faults } in
    let output : Stream = record { old = Some c.new-output.result.written.items; new = Some r.new.output.written.items; faults = c.new-output.result.faults; risen = r.new.output.faults } in
    let trace = λ (v : VaultState). Some v.trace in
    let faults = λ (v : VaultState). v.faults in
    let streams = streams_of input output (host_of (folder_impl.ghosts).tree (attributes_impl.ghosts).attributes (folder_impl.ghosts).faults c.new-3.result r.new.host) (g.R.Rng.stream c.args.chance.now) (g.R.Rng.stream r.new.chance) in
    let ran = subst (Did trace faults (listing_impl.ghosts).names keeper_impl.ghosts (map string_bytes c.deref.result.now) c.args.now streams c.new.result c.new-2.result r.result) (ap form_of words ∙ create_form) r.ensures.did in
    let told = ap Some c.in-Ok-Ok.ensures'.rest in
    let bare : IsBare (outside_of trace faults keeper_impl.ghosts c.new.result c.new-2.result) = record { kept = c.new-2.ensures.bare; unchanged = record { told = refl; none = λ name. ap (λ t. last_told name (Some t)) c.new.ensures.empty } } in
    let less = few input c.in-Ok-Ok.input.rest r.new.input.rest refl refl c.in-Ok-Ok.ensures'.few in
    let quiet : IsUnfailed output → IsUntroubled input output (outside_in c.new.result c.new-2.result) (outside_in r.result.vault r.result.keeper) =
    λ unfailed. untroubled input output c.new.result r.result.vault c.new-2.result r.result.keeper c.new.ensures.honest c.attest.ensures c.new-2.ensures.honest c.attest-2.ensures
    c.in-Ok-Ok.ensures'.honest.faultless c.attest-3.ensures.faultless less c.new-output.ensures.faultless unfailed in
    unmade trace faults keeper_impl.ghosts c.setups_complete.ensures.create input output c.new.result c.new-2.result r.result usual (g.R.Rng.stream c.args.chance.now) (g.R.Rng.stream r.new.chance) ran (password ++ 10 ∷ []) told short bare quiet (c.is_done.ensures.no c.if-is_done.false)

pub returns-then-is_done-clause-made : goal.returns-then-is_done-clause-made
returns-then-is_done-clause-made g c =
    let r = c.run-ended in
    let words : map string_bytes c.deref.result.now ≡ codes "create" ∷ [] = ap (map string_bytes) c.deref.ensures.value ∙ c.in-Ok-Ok.ensures in
    let input : Stream = record { old = Some c.in-Ok-Ok.input.rest; new = Some r.new.input.rest; faults = c.in-Ok-Ok.input.faults; risen = r.new.input.faults } in
    let output : Stream = record { old = Some c.new-output.result.written.items; new = Some r.new.output.written.items; faults = c.new-output.result.faults; risen = r.new.output.faults } in
    let trace = λ (v : VaultState). Some v.trace in
    let faults = λ (v : VaultState). v.faults in
    let streams = streams_of input output (host_of (folder_impl.ghosts).tree (attributes_impl.ghosts).attributes (folder_impl.ghosts).faults c.new-3.result r.new.host) (g.R.Rng.stream c.args.chance.now) (g.R.Rng.stream r.new.chance) in
    let ran = subst (Did trace faults (listing_impl.ghosts).names keeper_impl.ghosts (map string_bytes c.deref.result.now) c.args.now streams c.new.result c.new-2.result r.result) (ap form_of words ∙ create_form) r.ensures.did in
    let draws = (drawn (g.R.Rng.stream c.args.chance.now)).0 in
    let told = ap Some c.in-Ok-Ok.ensures'.rest in
    let bare : IsBare (outside_of trace faults keeper_impl.ghosts c.new.result c.new-2.result) = record { kept = c.new-2.ensures.bare; unchanged = record { told = refl; none = λ name. ap (λ t. last_told name (Some t)) c.new.ensures.empty } } in
    let less = few input c.in-Ok-Ok.input.rest r.new.input.rest refl refl c.in-Ok-Ok.ensures'.few in
    let quiet : IsUnfailed output → IsUntroubled input output (outside_in c.new.result c.new-2.result) (outside_in r.result.vault r.result.keeper) =
    λ unfailed. untroubled input output c.new.result r.result.vault c.new-2.result r.result.keeper c.new.ensures.honest c.attest.ensures c.new-2.ensures.honest c.attest-2.ensures
    c.in-Ok-Ok.ensures'.honest.faultless c.attest-3.ensures.faultless less c.new-output.ensures.faultless unfailed in
    let done = c.is_done.ensures.yes c.if-is_done.true in
    record {
      c = new_settings usual.block_size draws;
      leaves = made_so trace faults keeper_impl.ghosts c.setups_complete.ensures.create input output c.new.result c.new-2.result r.result usual (g.R.Rng.stream c.args.chance.now) (g.R.Rng.stream r.new.chance) ran (password ++ 10 ∷ []) told short bare quiet done;
      root = root_of draws.root;
      young = young_of trace faults keeper_impl.ghosts input output c.new.result c.new-2.result r.result usual.params usual.block_size (g.R.Rng.stream c.args.chance.now) (g.R.Rng.stream r.new.chance) ran done;
    }
