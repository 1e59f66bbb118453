use Rattle.run_frame.proofs.Reading.{held_some, first_password, first_unended}
use Rattle.run_frame.proofs.one.read_password.Goals as goal

pub returns-in-Ok-read-clause-read : goal.returns-in-Ok-read-clause-read
returns-in-Ok-read-clause-read g c =
    let r = c.in-Ok-read.ensures in
    let p = held_some c.line.result c.next_line-read.new.self.line c.line.ensures c.if-is_none.ensures in
    first_password c.in-Ok.reader c.next_line-read.new.self _ c.in-Ok-read.field-0 p.0 c.in-Ok.ensures p.1 r.shows.shown r.line (λ f. (r.none f).none) (λ f. (r.none f).over) r.notes.ended r.notes.counted r.faults.quiet

pub returns-in-Err-clause-unread : goal.returns-in-Err-clause-unread
returns-in-Err-clause-unread g c =
    let e = c.in-Err.ensures in
    let p = held_some c.line.result c.next_line-read.new.self.line c.line.ensures c.if-is_none.ensures in
    first_unended c.in-Ok.reader c.next_line-read.new.self _ p.0 c.in-Ok.ensures p.1 e.shows.unended e.notes.counted e.faults.cause
