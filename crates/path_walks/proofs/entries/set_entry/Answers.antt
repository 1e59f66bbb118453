use Rattle.dir_blob.specs.store_outcome.Outcome.{first_}
use Rattle.path_walks.proofs.Setting.{has_name, attributes_set, fits_still}
use Rattle.path_walks.proofs.entries.set_entry.Goals as goal

pub returns : goal.returns
returns g c = first_ (λ w. has_name w) c.change.ensures.outcome (λ w y h. attributes_set w c.change.new.b (fits_still w) h)
