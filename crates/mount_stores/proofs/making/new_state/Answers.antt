use Rattle.std.proofs.Common.{rules, false, refl}
use Rattle.record_saver.specs.local_state.Record.{plain_state}
use Rattle.mount_stores.proofs.Fresh.{fresh_record}
use Rattle.mount_stores.proofs.making.new_state.Goals as goal

pub returns-clause-record_ : goal.returns-clause-record_
returns-clause-record_ c =
    fresh_record (plain_state (record { marked = false; least = 2; fs_id = record { 0 = c.args.fs_id }; key_salt = c.args.key_salt; key_digest = c.args.key_digest; client = 1; known = c.new.result }))
    refl (search rules) (search rules) (search rules) refl c.new.ensures
