use Rattle.std.proofs.Common.{◌+◌, ◌-◌, take, drop, ◌∙◌, ap, sym, arith}
use Rattle.line_io.specs.Reading.{Reading}
use Rattle.line_io.proofs.Bytes.{moved_front}
use Rattle.line_io.proofs.reader.LineReader.move_ahead.Goals as goal

pub returns-clause-moved : goal.returns-clause-moved
returns-clause-moved c =
    let v = c.self.view_is in
    ap (λ (r : Reading). r.ahead) (sym v) ∙ moved_front c.self.inside.block.items c.copy_from_slice.new.self _ c.self.inside.start c.self.inside.end c.min-n.result (omega arith) (omega arith) (omega arith) (c.copy_from_slice.ensures.after ∙ ap (λ z. take (c.self.inside.start + c.min-n.result - c.self.inside.start) (drop c.self.inside.start z)) c.deref.ensures.value)
