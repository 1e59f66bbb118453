use Rattle.std.proofs.Common.{◌≡◌, Bool, sym, ◌∙◌, ap, subst, is_some, false, Some, Ok}
use Rattle.block_id.specs.declared.id.BlockId.{BlockId}
use Rattle.store_api.specs.Loads.{LoadAnswer}
use Rattle.block_cache.specs.Payloads.{Payloads, cached_for, CachedOrNot, AfterLoad}
use Rattle.block_cache.proofs.Lookups.{items_of}
use Rattle.block_cache.proofs.Caching.{outcome-cached, outcome-loaded}
use Rattle.block_cache.proofs.cache.BlockCacheBlocks.load.Given.{Over}
use Rattle.block_cache.proofs.cache.BlockCacheBlocks.load.Goals as goal

-- the answer is what was cached
answered : (g : Over) (c : goal.After-promote g) → cached_for c.args.self.now.cached c.args.id.now.0 ≡ Some c.in_ok-payload.payload.items
answered g c = ap items_of (sym c.in-Some.ensures) ∙ ap Some (sym (c.in_ok-payload.ensures.items_if_clones_equal (λ x y e. e) ∙ c.as_slice.ensures.value))

pub returns-in-Some-clause-outcome : goal.returns-in-Some-clause-outcome
returns-in-Some-clause-outcome g c =
    outcome-cached g.S.Blocks.meanings g.S.Blocks.holdings g.met.S.Blocks.lawful c.args.self.now.store c.args.self.now.cached c.promote.new.self c.args.id.now c.in_ok-payload.payload c.requires
    (answered g c) c.promote.ensures.entries

pub returns-in-Some-clause-sized : goal.returns-in-Some-clause-sized
returns-in-Some-clause-sized g c = c.requires.1.sized c.args.id.now.0 c.in_ok-payload.payload.items (answered g c)

cached : (g : Over) (c : goal.After-cache g) → CachedOrNot c.args.id.now c.in-Some-2.payload.items c.args.self.now.cached c.cache.new.payloads
cached g c = subst (λ payload. CachedOrNot c.args.id.now payload c.args.self.now.cached c.cache.new.payloads) c.deref.ensures.value c.cache.ensures

pub returns-in-Some-2-clause-outcome : goal.returns-in-Some-2-clause-outcome
returns-in-Some-2-clause-outcome g c =
    let loaded = c.in_ok-payload-2.ensures in
    outcome-loaded g.S.Blocks.meanings g.S.Blocks.holdings g.met.S.Blocks.steady c.args.self.now.store c.load.new.self c.args.self.now.cached c.cache.new.payloads c.args.id.now c.in-Some-2.payload c.in_ok-payload-2.field-0
    c.requires.1 (cached g c) loaded.stays c.in-Some-2.is loaded.none loaded.sized loaded.outcome

-- the store was asked where nothing was cached
missed : (there : Bool) (id : BlockId) (answer : LoadAnswer) (old new : Payloads) → there ≡ false → AfterLoad false id answer old new → AfterLoad there id answer old new
missed there id answer old new is h = subst (λ b. AfterLoad b id answer old new) (sym is) h

pub returns-in-Some-2-clause-cached : goal.returns-in-Some-2-clause-cached
returns-in-Some-2-clause-cached g c =
    missed (is_some (cached_for c.args.self.now.cached c.args.id.now.0)) c.args.id.now (Ok (Some c.in-Some-2.payload.items)) c.args.self.now.cached c.cache.new.payloads
    (ap is_some (ap items_of (sym c.in_default.ensures))) (cached g c)
