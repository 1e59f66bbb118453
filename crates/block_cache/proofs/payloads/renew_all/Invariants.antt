use Rattle.std.proofs.Common.{drop}
use Rattle.store_api.specs.Entries.{entries_of}
use Rattle.block_cache.proofs.Renewing.{Renewing}
use Rattle.block_cache.proofs.payloads.renew_all.Given as goal

abbrev pub invariant-loop-entry : goal.invariant-loop-entry
invariant-loop-entry l = Renewing l.batch (drop l.entry-index (entries_of l.entry-items)) l.initial.payloads l.payloads
