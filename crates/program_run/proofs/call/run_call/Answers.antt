use Rattle.std.proofs.Common.{ap, refl}
use Rattle.program_run.proofs.call.run_call.Goals as goal

pub returns-clause-call : goal.returns-clause-call
returns-clause-call g c =
    let e = c.run.ensures in
    record {
      vault = c.args.storage.vault;
      keeper = c.args.storage.keeper;
      ended = c.run.result;
      begins = refl;
      ends = refl;
      status = refl;
      did = e.did;
      refusal = e.refusal;
      no_false_alarm = e.no_false_alarm;
      kept = e.kept;
      faults_told = e.faults_told;
      statuses = e.statuses;
      unhosted = λ other. let same = e.spares.unhosted other in record { same = ap g.F.Folder.tree same; attributes = ap g.F.Attributed.attributes same; quiet = ap g.F.Folder.faults same };
      undrawn = e.spares.undrawn;
      drawn = e.spares.drawn;
    }

pub returns-clause-listed : goal.returns-clause-listed
returns-clause-listed g c = (returns-clause-call g c, record { kept = refl; calls = refl }, tt)
