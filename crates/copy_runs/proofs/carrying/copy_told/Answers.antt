use Rattle.std.proofs.Common.{subst}
use Rattle.std.specs.declared.option.Option.TheVariants.{None}
use Rattle.copy_file.specs.copy_sessions.Coming.{IsCopyTold}
use Rattle.copy_file.specs.copy_sessions.Fitting.{WentBy, kept_after}
use Rattle.copy_file.specs.line_io.Streams.{stream_of}
use Rattle.shell_runs.specs.Mounting.{mounted_hosting}
use Rattle.copy_runs.proofs.Owning.{is_own}
use Rattle.copy_runs.proofs.carrying.copy_told.Goals as goal

pub returns-clause-own : goal.returns-clause-own
returns-clause-own g c =
    let output = stream_of g.O.Sink.written g.O.Sink.faults c.args.output.now c.tell_copy.new.output in
    is_own c.way.result c.carry-copied.result c.carry-copied.new.asker.kept output c.tell_copy.result.0 c.tell_copy.result.1 c.tell_copy.ensures.told

pub returns-clause-copied : goal.returns-clause-copied
returns-clause-copied g c =
    let M = mounted_hosting g.R.Rng.stream g.V.Vault.trace g.V.Vault.faults g.K.Keeper in
    let a = c.args.asker.now in
    let b = c.carry-copied.new.asker in
    let r = c.carry-copied.ensures.carried in
    let w = subst (λ z. WentBy M a.now a.mounted z r.qs b.mounted b.kept) c.requires.fresh.kept r.asked.went.2 in
    let output = stream_of g.O.Sink.written g.O.Sink.faults c.args.output.now c.tell_copy.new.output in (
      w.es,
      w.ran,
      w.moments,
      λ input unfailed. record {
        qs = r.qs;
        result = c.carry-copied.result;
        fits = w.fits;
        is = r.are;
        host = c.carry-copied.ensures.host;
        told = subst (λ z. IsCopyTold z c.carry-copied.result (kept_after None w.es) output c.tell_copy.result.0 c.tell_copy.result.1) c.way.ensures (subst (λ z. IsCopyTold c.way.result c.carry-copied.result z output c.tell_copy.result.0 c.tell_copy.result.1) w.kept c.tell_copy.ensures.told);
        unfailed = unfailed;
      },
    )

pub returns-clause-chance : goal.returns-clause-chance
returns-clause-chance g c = c.carry-copied.ensures.carried.asked.went.1
