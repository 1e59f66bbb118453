use Rattle.dir_blob.specs.store_outcome.Outcome.{first_}
use Rattle.path_walks.proofs.Setting.{has_name_in, attributes_set, fits_still}
use Rattle.path_walks.proofs.entries.set_entry_in.Goals as goal

pub returns : goal.returns
returns g c = first_ (λ w. has_name_in w) c.change_in.ensures.outcome (λ w y h. attributes_set w.setting c.change_in.new.b (fits_still w.setting) h)
