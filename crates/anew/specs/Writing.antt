-- What writing one block anew does.
use Rattle.std.specs.Prelude.{◌≡◌, ℕ, Bool, true, List, [], ◌∷◌}
use Rattle.std.specs.FinMap as fin
use Rattle.std.specs.declared.option.Option.{Option}
use Rattle.std.specs.declared.option.Option.TheVariants.{Some}
use Rattle.block_id.specs.Formats.{format_in}
use Rattle.block_id.specs.declared.format.Format.TheVariants.{WithId}
use Rattle.outside.specs.Trace.{block, Call, put, adds}
use Rattle.outside.specs.Changes.{FileChanges}
use Rattle.integrity_store.specs.Draws.{iv_in}
use Rattle.integrity_store.specs.block_versions.BlockRecords.{opened}
use Rattle.integrity_store.specs.block_versions.Held.{Held, own}
use Rattle.anew.specs.Begun.{first_life}

-- One call put a file under the block's name, with this answer: in the newest format and with this IV, it opens to the client's record of this payload at version 1.
pub record PutsFirst (h : Held) (id payload iv : List ℕ) (old new : Option (List Call)) (ok : Bool) : Type 0 where
  pub file : List ℕ
  pub is : new ≡ adds old (put (block id) file ok)
  pub opens : opened h.opens h.size id file ≡ Some (own h id 1 payload)
  pub format : format_in file ≡ Some WithId
  pub has_iv : iv_in file ≡ iv

-- the block's file alone waits: in the newest format and with this IV, it opens to the client's record of this payload at version 1
pub record ListsFirst (h : Held) (id payload iv : List ℕ) (list : FileChanges) : Type 0 where
  pub file : List ℕ
  pub is : list ≡ (block id, Some file) ∷ []
  pub opens : opened h.opens h.size id file ≡ Some (own h id 1 payload)
  pub format : format_in file ≡ Some WithId
  pub has_iv : iv_in file ≡ iv

-- the file was put, nothing waits, and of what is known no more changed than that the block lives at version 1
pub record Renews (a b : Held) (id payload iv : List ℕ) (old new : Option (List Call)) : Type 0 where
  pub puts : PutsFirst a id payload iv old new true
  pub known : b ≡ record a { list = []; state = record a.state { lives = fin.insert a.state.lives id first_life } }
