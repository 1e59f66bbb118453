use Rattle.fs_model.specs.Tree.{empty_tree}
use Rattle.cryfs_shell.specs.mount_stores.Drawing.{drawn}
use Rattle.cryfs_shell.specs.mount_stores.Making.{new_settings}
use Rattle.program_run.proofs.All.{runs_of, serve, made_stands}
use Rattle.program_run.proofs.law.every_list_of_runs.Goals as goal

pub returns-clause-all : goal.returns-clause-all
returns-clause-all g c start calls all =
    let trace = g.V.Vault.trace in
    let faults = g.V.Vault.faults in
    let names = g.V.Listing.names in
    let runs = runs_of trace faults names g.K.Keeper start calls all in
    (runs.0, runs.1, λ d first stands. serve trace faults names g.K.Keeper c.runs_compose.ensures.all d first start stands calls runs.0 all runs.1)

pub returns-clause-from_create : goal.returns-clause-from_create
returns-clause-from_create g c made options calls h asked done unchanged all =
    let trace = g.V.Vault.trace in
    let faults = g.V.Vault.faults in
    let names = g.V.Listing.names in
    let runs = runs_of trace faults names g.K.Keeper made.after calls all in
    let stands = made_stands trace faults names g.K.Keeper made options h done unchanged asked in
    (runs.0, runs.1, serve trace faults names g.K.Keeper c.runs_compose.ensures.all (new_settings options.block_size (drawn made.streams.chance).0) empty_tree made.after stands calls runs.0 all runs.1)
