use Rattle.std.proofs.Common.{[]}
use Rattle.call_log.proofs.byte_log.ByteLog.new.Given as goal

abbrev pub ghost-after : goal.ghost-after
ghost-after a = []
