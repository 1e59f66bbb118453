use Rattle.std.proofs.Common.{refl}
use Rattle.block_versions.specs.Views.{held_of}
use Rattle.block_versions.proofs.Reopening.{opened_stands, few_used}
use Rattle.block_versions.proofs.Untouched.{untouched_sound}
use Rattle.local_state.specs.Record.{plain_state}
use Rattle.block_versions.specs.sealed_store.Stores.{cipher_of, key_of}
use Rattle.integrity_store.proofs.store.IntegrityStore.new.Goals as goal

pub returns-clause-intact : goal.returns-clause-intact
returns-clause-intact g c = (
  record {
    least = c.requires.sealed.least;
    most = c.requires.sealed.most;
    has_record = c.requires.state;
    config = c.requires.config;
    alike = λ extra other text plain again one two. g.met.C.Sealer.agrees (cipher_of c.args.sealed) (key_of c.args.sealed) extra other text plain again one two;
  },
  c.requires.sealed,
)

pub returns-clause-few : goal.returns-clause-few
returns-clause-few g c = few_used (plain_state c.args.state) c.args.sealed.vault.list c.requires.state

pub returns-clause-made : goal.returns-clause-made
returns-clause-made g c = record { used = refl; version = λ id. refl; payload = refl; identity = refl; least = refl; list = refl; trace = refl; faults = refl }

pub returns-clause-recorded : goal.returns-clause-recorded
returns-clause-recorded g c = record { written = λ with_list. refl; is_record = λ with_list kept is. is }

pub returns-clause-sound : goal.returns-clause-sound
returns-clause-sound g c =
    let h = held_of g.C.Sealer.opens c.args.sealed c.args.state in
    let trace = g.V.Vault.trace c.args.sealed.vault.vault in
    record {
      fresh = λ empty untouched. untouched_sound h trace empty untouched;
      opened = λ content kept is stands. opened_stands h trace content kept is stands;
    }
