use Rattle.std.proofs.Common.{map, refl, sym, ◌∙◌}
use Rattle.std.specs.String.{string_bytes}
use Rattle.trial_runs.specs.line_io.Streams.{stream_of}
use Rattle.run_status.specs.declared.status.Status.TheVariants.{Usage, Memory}
use Rattle.program_words.specs.Forms.{form_of}
use Rattle.copy_runs.specs.shell_runs.Hosts.{host_of}
use Rattle.cryfs_shell.specs.Kinds.{is_migration}
use Rattle.cryfs_shell.specs.Streams.{streams_of}
use Rattle.cryfs_shell.proofs.Asked.{asked_did, asked_refusal, asked_alarm, asked_keeps, asked_faults, asked_statuses, asked_spares, asked_history}
use Rattle.cryfs_shell.proofs.Drawn.{undone_as}
use Rattle.cryfs_shell.proofs.Idle.{idle_alarm, idle_faults, idle_statuses, idle_history, memory_did, memory_refusal, memory_keeps}
use Rattle.cryfs_shell.proofs.program.run.Goals as goal

pub returns-in-Err-clause-did : goal.returns-in-Err-clause-did
returns-in-Err-clause-did g c =
    memory_did g.V.Vault.trace g.V.Vault.faults g.V.Listing.names g.K.Keeper (map string_bytes c.args.request.words.now) c.args.request.now
    (streams_of (stream_of g.I.Source.rest g.I.Source.faults c.args.input.now c.args.input.now) (stream_of g.O.Sink.written g.O.Sink.faults c.args.output.now c.args.output.now)
    (host_of g.F.Folder.tree g.F.Attributed.attributes g.F.Folder.faults c.args.host.now c.args.host.now) (g.R.Rng.stream c.args.chance.now) (g.R.Rng.stream c.args.chance.now))
    c.args.storage.vault c.args.storage.keeper (record { status = Memory; vault = c.args.storage.vault; keeper = c.args.storage.keeper }) (refl, refl) (refl, refl) (record { same = refl; attributes = refl; quiet = refl }) refl (record { same_vault = refl; same_keeper = refl }) tt refl c.in-Err.ensures.memory (form_of (map string_bytes c.args.request.words.now))

pub returns-in-Err-clause-refusal : goal.returns-in-Err-clause-refusal
returns-in-Err-clause-refusal g c e marked =
    memory_refusal g.V.Vault.trace g.V.Vault.faults g.V.Listing.names g.K.Keeper (map string_bytes c.args.request.words.now) c.args.request.now
    (streams_of (stream_of g.I.Source.rest g.I.Source.faults c.args.input.now c.args.input.now) (stream_of g.O.Sink.written g.O.Sink.faults c.args.output.now c.args.output.now)
    (host_of g.F.Folder.tree g.F.Attributed.attributes g.F.Folder.faults c.args.host.now c.args.host.now) (g.R.Rng.stream c.args.chance.now) (g.R.Rng.stream c.args.chance.now))
    c.args.storage.vault c.args.storage.keeper (record { status = Memory; vault = c.args.storage.vault; keeper = c.args.storage.keeper }) (refl, refl) (refl, refl) (record { same = refl; attributes = refl; quiet = refl }) refl (record { same_vault = refl; same_keeper = refl }) tt refl

pub returns-in-Err-clause-no_false_alarm : goal.returns-in-Err-clause-no_false_alarm
returns-in-Err-clause-no_false_alarm g c e =
    idle_alarm g.V.Vault.trace g.V.Vault.faults g.V.Listing.names g.K.Keeper (map string_bytes c.args.request.words.now) c.args.request.now
    (streams_of (stream_of g.I.Source.rest g.I.Source.faults c.args.input.now c.args.input.now) (stream_of g.O.Sink.written g.O.Sink.faults c.args.output.now c.args.output.now)
    (host_of g.F.Folder.tree g.F.Attributed.attributes g.F.Folder.faults c.args.host.now c.args.host.now) (g.R.Rng.stream c.args.chance.now) (g.R.Rng.stream c.args.chance.now))
    c.args.storage.vault c.args.storage.keeper (record { status = Memory; vault = c.args.storage.vault; keeper = c.args.storage.keeper }) (refl, refl) (refl, refl) (record { same = refl; attributes = refl; quiet = refl }) refl (record { same_vault = refl; same_keeper = refl }) tt

pub returns-in-Err-clause-kept : goal.returns-in-Err-clause-kept
returns-in-Err-clause-kept g c e =
    memory_keeps g.V.Vault.trace g.V.Vault.faults g.V.Listing.names g.K.Keeper (map string_bytes c.args.request.words.now) c.args.request.now
    (streams_of (stream_of g.I.Source.rest g.I.Source.faults c.args.input.now c.args.input.now) (stream_of g.O.Sink.written g.O.Sink.faults c.args.output.now c.args.output.now)
    (host_of g.F.Folder.tree g.F.Attributed.attributes g.F.Folder.faults c.args.host.now c.args.host.now) (g.R.Rng.stream c.args.chance.now) (g.R.Rng.stream c.args.chance.now))
    c.args.storage.vault c.args.storage.keeper (record { status = Memory; vault = c.args.storage.vault; keeper = c.args.storage.keeper }) (refl, refl) (refl, refl) (record { same = refl; attributes = refl; quiet = refl }) refl (record { same_vault = refl; same_keeper = refl }) tt refl

pub returns-in-Err-clause-faults_told : goal.returns-in-Err-clause-faults_told
returns-in-Err-clause-faults_told g c =
    idle_faults g.V.Vault.trace g.V.Vault.faults g.V.Listing.names g.K.Keeper (map string_bytes c.args.request.words.now) c.args.request.now
    (streams_of (stream_of g.I.Source.rest g.I.Source.faults c.args.input.now c.args.input.now) (stream_of g.O.Sink.written g.O.Sink.faults c.args.output.now c.args.output.now)
    (host_of g.F.Folder.tree g.F.Attributed.attributes g.F.Folder.faults c.args.host.now c.args.host.now) (g.R.Rng.stream c.args.chance.now) (g.R.Rng.stream c.args.chance.now))
    c.args.storage.vault c.args.storage.keeper (record { status = Memory; vault = c.args.storage.vault; keeper = c.args.storage.keeper }) (refl, refl) (refl, refl) (record { same = refl; attributes = refl; quiet = refl }) refl (record { same_vault = refl; same_keeper = refl }) tt (form_of (map string_bytes c.args.request.words.now))

pub returns-in-Err-clause-statuses : goal.returns-in-Err-clause-statuses
returns-in-Err-clause-statuses g c =
    idle_statuses g.V.Vault.trace g.V.Vault.faults g.V.Listing.names g.K.Keeper (map string_bytes c.args.request.words.now) c.args.request.now
    (streams_of (stream_of g.I.Source.rest g.I.Source.faults c.args.input.now c.args.input.now) (stream_of g.O.Sink.written g.O.Sink.faults c.args.output.now c.args.output.now)
    (host_of g.F.Folder.tree g.F.Attributed.attributes g.F.Folder.faults c.args.host.now c.args.host.now) (g.R.Rng.stream c.args.chance.now) (g.R.Rng.stream c.args.chance.now))
    c.args.storage.vault c.args.storage.keeper (record { status = Memory; vault = c.args.storage.vault; keeper = c.args.storage.keeper }) (refl, refl) (refl, refl) (record { same = refl; attributes = refl; quiet = refl }) refl (record { same_vault = refl; same_keeper = refl }) tt (form_of (map string_bytes c.args.request.words.now)) (λ e. absurd (cc))

pub returns-in-Err-clause-history : goal.returns-in-Err-clause-history
returns-in-Err-clause-history g c =
    idle_history g.V.Vault.trace g.V.Vault.faults g.V.Listing.names g.K.Keeper (map string_bytes c.args.request.words.now) c.args.request.now
    (streams_of (stream_of g.I.Source.rest g.I.Source.faults c.args.input.now c.args.input.now) (stream_of g.O.Sink.written g.O.Sink.faults c.args.output.now c.args.output.now)
    (host_of g.F.Folder.tree g.F.Attributed.attributes g.F.Folder.faults c.args.host.now c.args.host.now) (g.R.Rng.stream c.args.chance.now) (g.R.Rng.stream c.args.chance.now))
    c.args.storage.vault c.args.storage.keeper (record { status = Memory; vault = c.args.storage.vault; keeper = c.args.storage.keeper }) (refl, refl) (refl, refl) (record { same = refl; attributes = refl; quiet = refl }) refl (record { same_vault = refl; same_keeper = refl }) tt

pub returns-in-Ok-None-clause-no_false_alarm : goal.returns-in-Ok-None-clause-no_false_alarm
returns-in-Ok-None-clause-no_false_alarm g c e =
    idle_alarm g.V.Vault.trace g.V.Vault.faults g.V.Listing.names g.K.Keeper (map string_bytes c.args.request.words.now) c.args.request.now
    (streams_of (stream_of g.I.Source.rest g.I.Source.faults c.args.input.now c.args.input.now) (stream_of g.O.Sink.written g.O.Sink.faults c.args.output.now c.args.output.now)
    (host_of g.F.Folder.tree g.F.Attributed.attributes g.F.Folder.faults c.args.host.now c.args.host.now) (g.R.Rng.stream c.args.chance.now) (g.R.Rng.stream c.args.chance.now))
    c.args.storage.vault c.args.storage.keeper (record { status = Usage; vault = c.args.storage.vault; keeper = c.args.storage.keeper }) (refl, refl) (refl, refl) (record { same = refl; attributes = refl; quiet = refl }) refl (record { same_vault = refl; same_keeper = refl }) tt

pub returns-in-Ok-None-clause-faults_told : goal.returns-in-Ok-None-clause-faults_told
returns-in-Ok-None-clause-faults_told g c =
    idle_faults g.V.Vault.trace g.V.Vault.faults g.V.Listing.names g.K.Keeper (map string_bytes c.args.request.words.now) c.args.request.now
    (streams_of (stream_of g.I.Source.rest g.I.Source.faults c.args.input.now c.args.input.now) (stream_of g.O.Sink.written g.O.Sink.faults c.args.output.now c.args.output.now)
    (host_of g.F.Folder.tree g.F.Attributed.attributes g.F.Folder.faults c.args.host.now c.args.host.now) (g.R.Rng.stream c.args.chance.now) (g.R.Rng.stream c.args.chance.now))
    c.args.storage.vault c.args.storage.keeper (record { status = Usage; vault = c.args.storage.vault; keeper = c.args.storage.keeper }) (refl, refl) (refl, refl) (record { same = refl; attributes = refl; quiet = refl }) refl (record { same_vault = refl; same_keeper = refl }) tt (form_of (map string_bytes c.args.request.words.now))

pub returns-in-Ok-None-clause-statuses : goal.returns-in-Ok-None-clause-statuses
returns-in-Ok-None-clause-statuses g c =
    idle_statuses g.V.Vault.trace g.V.Vault.faults g.V.Listing.names g.K.Keeper (map string_bytes c.args.request.words.now) c.args.request.now
    (streams_of (stream_of g.I.Source.rest g.I.Source.faults c.args.input.now c.args.input.now) (stream_of g.O.Sink.written g.O.Sink.faults c.args.output.now c.args.output.now)
    (host_of g.F.Folder.tree g.F.Attributed.attributes g.F.Folder.faults c.args.host.now c.args.host.now) (g.R.Rng.stream c.args.chance.now) (g.R.Rng.stream c.args.chance.now))
    c.args.storage.vault c.args.storage.keeper (record { status = Usage; vault = c.args.storage.vault; keeper = c.args.storage.keeper }) (refl, refl) (refl, refl) (record { same = refl; attributes = refl; quiet = refl }) refl (record { same_vault = refl; same_keeper = refl }) tt (form_of (map string_bytes c.args.request.words.now)) (λ e. sym c.in-Ok-None.ensures.value ∙ c.in-Ok-None.field-0-is)

pub returns-in-Ok-None-clause-history : goal.returns-in-Ok-None-clause-history
returns-in-Ok-None-clause-history g c =
    idle_history g.V.Vault.trace g.V.Vault.faults g.V.Listing.names g.K.Keeper (map string_bytes c.args.request.words.now) c.args.request.now
    (streams_of (stream_of g.I.Source.rest g.I.Source.faults c.args.input.now c.args.input.now) (stream_of g.O.Sink.written g.O.Sink.faults c.args.output.now c.args.output.now)
    (host_of g.F.Folder.tree g.F.Attributed.attributes g.F.Folder.faults c.args.host.now c.args.host.now) (g.R.Rng.stream c.args.chance.now) (g.R.Rng.stream c.args.chance.now))
    c.args.storage.vault c.args.storage.keeper (record { status = Usage; vault = c.args.storage.vault; keeper = c.args.storage.keeper }) (refl, refl) (refl, refl) (record { same = refl; attributes = refl; quiet = refl }) refl (record { same_vault = refl; same_keeper = refl }) tt

pub returns-in-Ok-Some-clause-did : goal.returns-in-Ok-Some-clause-did
returns-in-Ok-Some-clause-did g c =
    let made = c.in-Ok-Some in
    asked_did g.V.Vault.trace g.V.Vault.faults g.V.Listing.names g.K.Keeper (map string_bytes c.args.request.words.now) c.args.request.now
    (streams_of (stream_of g.I.Source.rest g.I.Source.faults c.args.input.now c.run_form.new.input) (stream_of g.O.Sink.written g.O.Sink.faults c.args.output.now c.run_form.new.output)
    (host_of g.F.Folder.tree g.F.Attributed.attributes g.F.Folder.faults c.args.host.now c.run_form.new.host) (g.R.Rng.stream c.args.chance.now) (g.R.Rng.stream c.run_form.new.chance))
    c.args.storage.vault c.args.storage.keeper c.run_form.result
    made.form (sym made.field-0-is ∙ made.ensures.value) c.run_form.ensures.did c.run_form.ensures.caused

pub returns-in-Ok-Some-clause-refusal : goal.returns-in-Ok-Some-clause-refusal
returns-in-Ok-Some-clause-refusal g c =
    let made = c.in-Ok-Some in
    asked_refusal g.V.Vault.trace g.V.Vault.faults g.V.Listing.names g.K.Keeper (map string_bytes c.args.request.words.now) c.args.request.now
    (streams_of (stream_of g.I.Source.rest g.I.Source.faults c.args.input.now c.run_form.new.input) (stream_of g.O.Sink.written g.O.Sink.faults c.args.output.now c.run_form.new.output)
    (host_of g.F.Folder.tree g.F.Attributed.attributes g.F.Folder.faults c.args.host.now c.run_form.new.host) (g.R.Rng.stream c.args.chance.now) (g.R.Rng.stream c.run_form.new.chance))
    c.args.storage.vault c.args.storage.keeper c.run_form.result
    made.form (sym made.field-0-is ∙ made.ensures.value) c.run_form.ensures.did c.run_form.ensures.caused

pub returns-in-Ok-Some-clause-no_false_alarm : goal.returns-in-Ok-Some-clause-no_false_alarm
returns-in-Ok-Some-clause-no_false_alarm g c =
    let made = c.in-Ok-Some in
    asked_alarm g.V.Vault.trace g.V.Vault.faults g.V.Listing.names g.K.Keeper (map string_bytes c.args.request.words.now) c.args.request.now
    (streams_of (stream_of g.I.Source.rest g.I.Source.faults c.args.input.now c.run_form.new.input) (stream_of g.O.Sink.written g.O.Sink.faults c.args.output.now c.run_form.new.output)
    (host_of g.F.Folder.tree g.F.Attributed.attributes g.F.Folder.faults c.args.host.now c.run_form.new.host) (g.R.Rng.stream c.args.chance.now) (g.R.Rng.stream c.run_form.new.chance))
    c.args.storage.vault c.args.storage.keeper c.run_form.result
    made.form (sym made.field-0-is ∙ made.ensures.value) c.run_form.ensures.did c.run_form.ensures.caused

pub returns-in-Ok-Some-clause-kept : goal.returns-in-Ok-Some-clause-kept
returns-in-Ok-Some-clause-kept g c =
    let made = c.in-Ok-Some in
    asked_keeps g.V.Vault.trace g.V.Vault.faults g.V.Listing.names g.K.Keeper (map string_bytes c.args.request.words.now) c.args.request.now
    (streams_of (stream_of g.I.Source.rest g.I.Source.faults c.args.input.now c.run_form.new.input) (stream_of g.O.Sink.written g.O.Sink.faults c.args.output.now c.run_form.new.output)
    (host_of g.F.Folder.tree g.F.Attributed.attributes g.F.Folder.faults c.args.host.now c.run_form.new.host) (g.R.Rng.stream c.args.chance.now) (g.R.Rng.stream c.run_form.new.chance))
    c.args.storage.vault c.args.storage.keeper c.run_form.result
    made.form (sym made.field-0-is ∙ made.ensures.value) c.run_form.ensures.did c.run_form.ensures.caused

pub returns-in-Ok-Some-clause-faults_told : goal.returns-in-Ok-Some-clause-faults_told
returns-in-Ok-Some-clause-faults_told g c =
    let made = c.in-Ok-Some in
    asked_faults g.V.Vault.trace g.V.Vault.faults g.V.Listing.names g.K.Keeper (map string_bytes c.args.request.words.now) c.args.request.now
    (streams_of (stream_of g.I.Source.rest g.I.Source.faults c.args.input.now c.run_form.new.input) (stream_of g.O.Sink.written g.O.Sink.faults c.args.output.now c.run_form.new.output)
    (host_of g.F.Folder.tree g.F.Attributed.attributes g.F.Folder.faults c.args.host.now c.run_form.new.host) (g.R.Rng.stream c.args.chance.now) (g.R.Rng.stream c.run_form.new.chance))
    c.args.storage.vault c.args.storage.keeper c.run_form.result
    made.form (sym made.field-0-is ∙ made.ensures.value) c.run_form.ensures.did c.run_form.ensures.caused c.run_form.ensures.grows.input c.run_form.ensures.grows.output c.run_form.ensures.grows.host

pub returns-in-Ok-Some-clause-statuses : goal.returns-in-Ok-Some-clause-statuses
returns-in-Ok-Some-clause-statuses g c =
    let made = c.in-Ok-Some in
    asked_statuses g.V.Vault.trace g.V.Vault.faults g.V.Listing.names g.K.Keeper (map string_bytes c.args.request.words.now) c.args.request.now
    (streams_of (stream_of g.I.Source.rest g.I.Source.faults c.args.input.now c.run_form.new.input) (stream_of g.O.Sink.written g.O.Sink.faults c.args.output.now c.run_form.new.output)
    (host_of g.F.Folder.tree g.F.Attributed.attributes g.F.Folder.faults c.args.host.now c.run_form.new.host) (g.R.Rng.stream c.args.chance.now) (g.R.Rng.stream c.run_form.new.chance))
    c.args.storage.vault c.args.storage.keeper c.run_form.result
    made.form (sym made.field-0-is ∙ made.ensures.value) c.run_form.ensures.did c.run_form.ensures.caused

pub returns-in-Ok-Some-clause-spares : goal.returns-in-Ok-Some-clause-spares
returns-in-Ok-Some-clause-spares g c =
    let made = c.in-Ok-Some in
    asked_spares g.V.Vault.trace g.V.Vault.faults g.V.Listing.names g.K.Keeper (map string_bytes c.args.request.words.now) c.args.request.now
    (streams_of (stream_of g.I.Source.rest g.I.Source.faults c.args.input.now c.run_form.new.input) (stream_of g.O.Sink.written g.O.Sink.faults c.args.output.now c.run_form.new.output)
    (host_of g.F.Folder.tree g.F.Attributed.attributes g.F.Folder.faults c.args.host.now c.run_form.new.host) (g.R.Rng.stream c.args.chance.now) (g.R.Rng.stream c.run_form.new.chance))
    c.args.storage.vault c.args.storage.keeper c.run_form.result
    made.form (sym made.field-0-is ∙ made.ensures.value) c.run_form.ensures.did c.run_form.ensures.caused c.args.host.now c.run_form.new.host c.run_form.ensures.unhosted c.run_form.ensures.undrawn c.run_form.ensures.drawn

pub returns-in-Ok-Some-clause-history : goal.returns-in-Ok-Some-clause-history
returns-in-Ok-Some-clause-history g c =
    let made = c.in-Ok-Some in
    asked_history g.V.Vault.trace g.V.Vault.faults g.V.Listing.names g.K.Keeper (map string_bytes c.args.request.words.now) c.args.request.now
    (streams_of (stream_of g.I.Source.rest g.I.Source.faults c.args.input.now c.run_form.new.input) (stream_of g.O.Sink.written g.O.Sink.faults c.args.output.now c.run_form.new.output)
    (host_of g.F.Folder.tree g.F.Attributed.attributes g.F.Folder.faults c.args.host.now c.run_form.new.host) (g.R.Rng.stream c.args.chance.now) (g.R.Rng.stream c.run_form.new.chance))
    c.args.storage.vault c.args.storage.keeper c.run_form.result
    made.form (sym made.field-0-is ∙ made.ensures.value) c.run_form.ensures.did c.run_form.ensures.caused

pub returns-in-Err-clause-spares : goal.returns-in-Err-clause-spares
returns-in-Err-clause-spares g c = record {
  unhosted = λ e. refl;
  undrawn = λ e. refl;
  drawn = λ e. undone_as g.V.Vault.trace g.V.Vault.faults g.K.Keeper c.args.storage.vault c.args.storage.keeper (g.R.Rng.stream c.args.chance.now) (is_migration (form_of (map string_bytes c.args.request.words.now)));
}

pub returns-in-Ok-None-clause-spares : goal.returns-in-Ok-None-clause-spares
returns-in-Ok-None-clause-spares g c = record {
  unhosted = λ e. refl;
  undrawn = λ e. refl;
  drawn = λ e. undone_as g.V.Vault.trace g.V.Vault.faults g.K.Keeper c.args.storage.vault c.args.storage.keeper (g.R.Rng.stream c.args.chance.now) (is_migration (form_of (map string_bytes c.args.request.words.now)));
}
