-- The calls on a directory by which payloads were given.
use Rattle.std.specs.Prelude.{◌≡◌, ℕ, ◌+◌, List, [], ◌∷◌}
use Rattle.std.specs.declared.option.Option.{Option}
use Rattle.std.specs.declared.option.Option.TheVariants.{Some}
use Rattle.block_versions.specs.Verdicts.{good, verdict}
use Rattle.check_walk.specs.Given.{Given}
use Rattle.block_versions.specs.Held.{Held, live_version}
use Rattle.outside.specs.Trace.{block, Call, got, adds}
use Rattle.block_versions.specs.store_api.Content.{Id}

-- the trace went on by one get of the block's file, with one byte more than a file has, and what came is this payload by the verdict
pub record IsGivenBy (h : Held) (old new : Option (List Call)) (id : Id) (payload : List ℕ) : Type 0 where
  pub version : ℕ
  pub live : live_version h id ≡ Some version
  pub file : Option (List ℕ)
  pub read : new ≡ adds old (got (block id) (h.size + 1) file)
  pub judged : verdict h.opens h.size id h.state.client version h.state.least file ≡ good payload

-- the same of each pair in order, and of nothing else
abbrev pub GivesReads : Held → Option (List Call) → Given → Option (List Call) → Type 0
GivesReads h old [] new = new ≡ old
GivesReads h old (g ∷ gs) new = (mid : Option (List Call)) × (GivesReads h old gs mid × IsGivenBy h mid new g.0 g.1)
