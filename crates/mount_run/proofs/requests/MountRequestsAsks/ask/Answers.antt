use Rattle.session_laws.specs.line_io.Streams.{stream_of}
use Rattle.mount_run.proofs.Telling.{told_by}
use Rattle.mount_run.proofs.requests.MountRequestsAsks.ask.Goals as goal

pub returns-clause-chance : goal.returns-clause-chance
returns-clause-chance g c = c.serve-served.ensures.went.chance

pub returns-clause-asked : goal.returns-clause-asked
returns-clause-asked g c =
    let wrote = c.write_all-told in
    let output = stream_of g.O.Sink.written g.O.Sink.faults c.args.output.now wrote.new.output in
    let told = told_by wrote.result output wrote.ensures.ok wrote.ensures.quiet wrote.ensures.cause in
    let went = c.serve-served.ensures.went in
    (went.es, went.ran, λ old faults e. record { served = went.served; told = told; unfailed = e.quiet; ends = c.ending_of-ending.ensures.ends })
