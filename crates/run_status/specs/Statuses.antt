-- The numbers and texts of statuses.
use Rattle.std.specs.Prelude.{ℕ, List, [], codes}
use Rattle.run_status.specs.declared.status.Status.{Status}
use Rattle.run_status.specs.declared.status.Status.TheVariants.{Done, Usage, LongPassword, NoConfig, ConfigForm, ConfigLocked, ConfigInner, NoState, BadState, Exists, Violation, DirectoryFault, StateFault, InputFault, OutputFault, Memory, HostFault, CopyRefused, CopyStopped, NotConfirmed, ClientSpent}

abbrev pub code_of : Status → ℕ
code_of Done = 0
code_of Usage = 1
code_of LongPassword = 1
code_of NoConfig = 3
code_of ConfigForm = 3
code_of ConfigLocked = 3
code_of ConfigInner = 3
code_of NoState = 4
code_of BadState = 4
code_of Exists = 4
code_of Violation = 5
code_of DirectoryFault = 6
code_of StateFault = 7
code_of InputFault = 8
code_of OutputFault = 9
code_of Memory = 10
code_of HostFault = 12
code_of CopyRefused = 13
code_of CopyStopped = 14
code_of NotConfirmed = 16
code_of ClientSpent = 11

abbrev pub sentence_of : Status → List ℕ
sentence_of Done = []
sentence_of Usage = codes "usage"
sentence_of LongPassword = codes "password too long"
sentence_of NoConfig = codes "no configuration"
sentence_of ConfigForm = codes "configuration has another form"
sentence_of ConfigLocked = codes "configuration does not open"
sentence_of ConfigInner = codes "configuration has wrong contents"
sentence_of NoState = codes "no local state"
sentence_of BadState = codes "local state is damaged"
sentence_of Exists = codes "file system exists"
sentence_of Violation = codes "integrity violation"
sentence_of DirectoryFault = codes "block directory fault"
sentence_of StateFault = codes "local state fault"
sentence_of InputFault = codes "input fault"
sentence_of OutputFault = codes "output fault"
sentence_of Memory = codes "out of memory"
sentence_of HostFault = codes "host folder fault"
sentence_of CopyRefused = codes "copy refused"
sentence_of CopyStopped = codes "copy stopped"
sentence_of NotConfirmed = codes "not confirmed"
sentence_of ClientSpent = codes "client spent"

-- the first of two statuses that isn't Done
abbrev pub first_of : Status → Status → Status
first_of Done next = next
first_of status next = status
