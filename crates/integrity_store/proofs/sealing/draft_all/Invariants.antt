use Rattle.std.proofs.Common.{drop, map}
use Rattle.std.specs.List.{AllByRecursion}
use Rattle.outside.specs.View.{list_of}
use Rattle.block_versions.specs.sealed_store.Drafts.{sealed_entry, AreDrafts}
use Rattle.block_versions.specs.sealed_store.Stores.{block_size_of, key_of, cipher_of}
use Rattle.store_api.specs.Draws.{IsLater}
use Rattle.store_api.specs.Entries.{entries_of}
use Rattle.integrity_store.specs.Sealing.{MaySeal}
use Rattle.block_versions.specs.Views.{held_of}
use Rattle.integrity_store.proofs.Sealed.{MadeSoFar}
use Rattle.integrity_store.proofs.sealing.draft_all.Given as goal

abbrev pub invariant-loop-entry : goal.invariant-loop-entry
invariant-loop-entry g l = record {
  may : AllByRecursion (MaySeal (held_of g.C.Sealer.opens l.sealed l.state)) (drop l.entry-index (entries_of l.entries));
  drafts : AreDrafts (block_size_of l.sealed) (list_of l.changes.items);
  made : MadeSoFar (held_of g.C.Sealer.opens l.sealed l.state) l.entries l.entry-index (g.R.Rng.stream l.initial.chance) (g.R.Rng.stream l.chance)
      (map (sealed_entry (g.C.Sealer.sealed (cipher_of l.sealed) (key_of l.sealed)) (block_size_of l.sealed)) (list_of l.changes.items));
  later : IsLater (g.R.Rng.stream l.initial.chance) (g.R.Rng.stream l.chance);
}
