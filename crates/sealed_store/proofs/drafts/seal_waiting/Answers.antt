use Rattle.std.proofs.Common.{sym, subst}
use Rattle.outside.specs.Changes.{IsIncreasing}
use Rattle.outside.specs.View.{list_of}
use Rattle.sealed_store.proofs.Sealing.{rises_after}
use Rattle.sealed_store.proofs.drafts.seal_waiting.Goals as goal

pub replace_list-requires : goal.replace_list-requires
replace_list-requires g c =
    rises_after c.seal_all-outcome.result (g.C.Sealer.sealed c.args.cipher.now c.args.key.now) c.args.block_size (list_of c.replace_list-list.result.items) (list_of c.seal_all-outcome.new.list.items)
    c.seal_all-outcome.ensures.ok c.seal_all-outcome.ensures.err (subst IsIncreasing (sym c.replace_list-list.ensures.old) c.replace_list-list.ensures.increasing)
