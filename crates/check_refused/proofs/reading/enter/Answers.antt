use Rattle.cryfs_check.specs.dir_entries.Layout.{listing_of}
use Rattle.check_refused.proofs.Tables.{behind_placed}
use Rattle.check_refused.proofs.reading.enter.Goals as goal

pub returns-clause-behind : goal.returns-clause-behind
returns-clause-behind g c =
    behind_placed c.place_entries.result c.place_entries.new.places.items c.args.places.now.items c.args.number (listing_of c.in-Ok.entries.items) c.place_entries.ensures c.requires.behind c.requires.within
