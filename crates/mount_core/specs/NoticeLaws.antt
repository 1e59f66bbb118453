-- What passes no wrong file over, of one answer and of another.
use Rattle.block_id.specs.declared.fail.Fail.{Fail}
use Rattle.block_id.specs.declared.fail.Fail.TheVariants.{Memory as FailMemory, Fault, Violation as FailViolation}
use Rattle.block_id.specs.declared.fail.Why.{Why}
use Rattle.answers.specs.declared.answer.Answer.{Answer}
use Rattle.answers.specs.declared.answer.Answer.TheVariants.{Reply as Replied, Memory, Spent, FaultDirectory, FaultState, Violation, Refused}
use Rattle.record_saver.specs.store_outcome.Meanings.{Tells}
use Rattle.mount_core.specs.Answers.{answer_of_fail, Notices}

-- where no wrong file came, none is passed over
pub none_came : (answer : Answer) (gave : Why → Type 0) → ((why : Why) → gave why → ⊥) → Notices answer gave
none_came (Violation told) gave none = λ why g. absurd (none why g)
none_came Memory gave none = none
none_came (Replied r) gave none = none
none_came Spent gave none = none
none_came FaultDirectory gave none = none
none_came FaultState gave none = none
none_came Refused gave none = none

-- the answer to a command that failed names what its failure does
pub notices_of : (f : Fail) (P Q : Why → Type 0) → ((why : Why) → Q why → P why) → Tells f P → Notices (answer_of_fail f) Q
notices_of FailMemory P Q fewer h = λ why q. h why (fewer why q)
notices_of Fault P Q fewer h = λ why q. h why (fewer why q)
notices_of (FailViolation told) P Q fewer h = λ why q. h why (fewer why q)
