use Rattle.std.proofs.Common.{arith}
use Rattle.fs_blobs.proofs.Laws.{read_found, read_only}
use Rattle.fs_blobs.proofs.header.read_header.Goals as goal

pub returns-clause-found : goal.returns-clause-found
returns-clause-found c = read_found c.args.bytes.now c.header_from.result (λ i. omega (arith, c.type_inv.bytes i)) c.header_from.ensures

pub returns-clause-only : goal.returns-clause-only
returns-clause-only c = read_only c.args.bytes.now c.header_from.result c.header_from.ensures
