use Rattle.found_blocks.proofs.store.FoundStoreBlocks.is_used.Goals as goal

pub returns : goal.returns
returns g c = c.has.ensures
