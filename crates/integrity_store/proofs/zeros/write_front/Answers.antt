use Rattle.std.proofs.Common.{ℕ, ◌+◌, List, length, arith}
use Rattle.block_versions.specs.BlockRecords.{Record, FitsFile}
use Rattle.integrity_store.proofs.Fronts.{filled_reads, id_wide}
use Rattle.integrity_store.proofs.zeros.write_front.Goals as goal

pub returns-clause-record : goal.returns-clause-record
returns-clause-record c =
    let payload : List ℕ = c.args.payload.now in
    let front : List ℕ = c.without_last_zeros-kept.result.now in
    let whole : Record = record { id = c.args.id.now.0; client = c.args.client; version = c.args.version; payload = payload } in
    let fits : FitsFile (78 + length payload) whole = record {
      id = id_wide (record whole { payload = front }) c.in_ok-front.front.items c.in_ok-front.ensures.text c.in_ok-front.ensures.len;
      client = c.requires.client;
      client_fits = omega (arith, c.ranges.client.fits);
      version = c.requires.version;
      version_fits = omega (arith, c.ranges.version.fits);
      payload = omega arith;
    } in
    filled_reads (78 + length payload) whole front c.in_ok-front.front.items fits c.in_ok-front.ensures.text c.without_last_zeros-kept.ensures.filled c.without_last_zeros-kept.ensures.len
