use Rattle.std.proofs.Common.{◌≡◌, ◌+◌, length, ◌∙◌, ap, arith}
use Rattle.std.specs.Int.{w16, w32, w64, to_le_bytes}
use Rattle.block_versions.specs.BlockRecords.{Record, FitsFile, record_of, text_of}
use Rattle.block_versions.proofs.Records.{joined, length-text, record_again}
use Rattle.block_versions.proofs.block_record.write_record.Goals as goal

abbrev made : goal.In_ok-extend_from_slice → Record
made c = record { id = c.args.id.now.0; client = c.args.client; version = c.args.version; payload = c.args.payload.now }

written : (c : goal.In_ok-extend_from_slice) → c.extend_from_slice.new.self.items ≡ text_of (made c)
written c =
    joined c.in_ok-plain.plain.items (to_le_bytes w16 1) c.args.id.now.0 (to_le_bytes w32 c.args.client) (to_le_bytes w64 c.args.version) c.args.payload.now
    c.put_u16.new.out.items c.put_id.new.out.items c.put_u32.new.out.items c.put_u64.new.out.items c.extend_from_slice.new.self.items
    c.in_ok-plain.ensures.items c.in_ok-put_u16.ensures.text c.in_ok-put_id.ensures.text c.in_ok-put_u32.ensures.text c.in_ok-put_u64.ensures.text c.in_ok-extend_from_slice.ensures.items

fits : (c : goal.In_ok-extend_from_slice) → FitsFile (length c.extend_from_slice.new.self.items + 48) (made c)
fits c = record {
  id = c.put_id.ensures.len;
  client = c.requires.client;
  client_fits = omega (arith, c.ranges.client.fits);
  version = c.requires.version;
  version_fits = omega (arith, c.ranges.version.fits);
  payload = omega (arith, ap length (written c), length-text (made c) c.put_id.ensures.len);
}

pub returns-clause-text : goal.returns-clause-text
returns-clause-text c = written c

pub returns-clause-record_of : goal.returns-clause-record_of
returns-clause-record_of c =
    let size = length c.extend_from_slice.new.self.items + 48 in
    ap (record_of size) (written c) ∙ record_again size (made c) (fits c)
