-- A host of which it is told what led to it.
use Rattle.std.specs.declared.option.Option.{Option}
use Rattle.answers.specs.Hosts.{Hosting, LawfulHost}
use Rattle.mount_serving.specs.Asking.{WentSince}
use Rattle.mount_serving.specs.declared.since.Asked.{Asked}

abbrev pub asked_hosting : {H : Type 0} → {S : Type 0} → Hosting H → Option H → Hosting (Asked H S)
asked_hosting M start = record {
  ready = λ a. M.ready a.host × WentSince M start a.host;
  refuses = λ a. M.refuses a.host;
  chance = λ a. M.chance a.host;
  answers = λ old now asked answer new. M.answers old.host now asked answer new.host;
}

pub asked_lawful : {H : Type 0} {S : Type 0} (M : Hosting H) (start : Option H) → LawfulHost M → LawfulHost (asked_hosting {H = H} {S = S} M start)
asked_lawful M start laws = record {
  refused = λ h now asked ready. laws.refused h.host now asked ready.0;
  bad = λ h now error ready. laws.bad h.host now error ready.0;
  wanting = λ h now asked ready. laws.wanting h.host now asked ready.0;
  unsaid = λ h k. laws.unsaid h.host k.host;
  flag = λ h k. laws.flag h.host k.host;
  refusal = λ h k. laws.refusal h.host k.host;
}
