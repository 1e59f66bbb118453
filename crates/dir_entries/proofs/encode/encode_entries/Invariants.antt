use Rattle.std.proofs.Common.{◌≡◌, take, All}
use Rattle.dir_entries.specs.Layout.{IsEntry, body_of, entry_of, listing_of}
use Rattle.dir_entries.proofs.encode.encode_entries.Given as goal

abbrev pub invariant-loop-entry : goal.invariant-loop-entry
invariant-loop-entry l = record {
  text : l.out.items ≡ body_of (listing_of (take l.entry-index l.entries));
  types : All (λ e. IsEntry (entry_of e)) (take l.entry-index l.entries);
}
