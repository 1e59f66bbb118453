use Rattle.line_io.proofs.Newlines.{first_newline}
use Rattle.line_io.proofs.reader.newline_at.Goals as goal

pub returns : goal.returns
returns c = first_newline c.args.bytes.now _ c.memchr.ensures
