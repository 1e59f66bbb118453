use Rattle.run_frame.proofs.Reading.{held_some, held_none}
use Rattle.run_frame.proofs.Second.{unread_first, second_password, second_long, second_unended}
use Rattle.run_frame.proofs.two.read_two_passwords.Goals as goal

pub returns-in-Err-clause-unread : goal.returns-in-Err-clause-unread
returns-in-Err-clause-unread g c = unread_first _ c.in-Err.status c.in-Err.ensures.unread

pub returns-then-is_none-clause-unread : goal.returns-then-is_none-clause-unread
returns-then-is_none-clause-unread g c =
    let r = c.in-Ok-read_password.ensures.read in
    second_long g.I.Source.rest g.I.Source.faults _ _ _ c.in-Ok-read_password.reader c.next_line-read.new.self r.0 r.1 r.2
    (held_none c.line.result c.next_line-read.new.self.line c.is_none.result c.line.ensures c.is_none.ensures c.if-is_none.true) c.next_line-read.ensures.shows.shown

pub returns-in-Ok-read-clause-read : goal.returns-in-Ok-read-clause-read
returns-in-Ok-read-clause-read g c =
    let r = c.in-Ok-read_password.ensures.read in
    let e = c.in-Ok-read.ensures in
    let p = held_some c.line.result c.next_line-read.new.self.line c.line.ensures c.if-is_none.ensures in
    second_password g.I.Source.rest g.I.Source.faults _ _ _ c.in-Ok-read_password.reader c.next_line-read.new.self r.0 r.1 r.2
    c.in-Ok-read.field-0 _ p.0 c.copy_line.ensures p.1 e.shows.shown e.line (λ f. (e.none f).none) (λ f. (e.none f).over) e.notes.ended e.notes.counted e.faults.quiet

pub returns-in-Err-read-clause-unread : goal.returns-in-Err-read-clause-unread
returns-in-Err-read-clause-unread g c =
    let r = c.in-Ok-read_password.ensures.read in
    let e = c.in-Err-read.ensures in
    let p = held_some c.line.result c.next_line-read.new.self.line c.line.ensures c.if-is_none.ensures in
    second_unended g.I.Source.rest g.I.Source.faults _ _ _ c.in-Ok-read_password.reader c.next_line-read.new.self r.0 r.1 r.2 p.0 p.1 e.shows.unended e.notes.counted e.faults.cause
