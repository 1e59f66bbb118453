use Rattle.std.proofs.Common.{◌≡◌, ◌∙◌, ap, sym, length, min, take, Some}
use Rattle.std.proofs.lemmas.List.{take_min, length-take}
use Rattle.store_api.specs.store_outcome.Outcome.{answered}
use Rattle.store_api.specs.Fronts.{front_of}
use Rattle.block_cache.specs.Payloads.{cached_for}
use Rattle.block_cache.proofs.Caching.{outcome-cached}
use Rattle.block_cache.proofs.Lookups.{items_of}
use Rattle.block_cache.proofs.cache.BlockCacheBlocks.load_front.Given.{Over}
use Rattle.block_cache.proofs.cache.BlockCacheBlocks.load_front.Goals as goal

-- what was cached, and its front
found : (g : Over) (c : goal.After-promote g) → cached_for c.args.self.now.cached c.args.id.now.0 ≡ Some c.in-Some.bytes.now.items
found g c = ap items_of (sym c.in-Some.ensures)

front : (g : Over) (c : goal.After-promote g) → c.in_ok-front.front.items ≡ take c.args.most c.in-Some.bytes.now.items
front g c =
    let payload = c.deref.result.now in
    let count = c.min-count.ensures ∙ ap (min c.args.most) (c.len.ensures ∙ sym c.deref.ensures.len) in
    c.in_ok-front.ensures.items_if_clones_equal (λ x y e. e) ∙ (ap (λ n. take n payload) count ∙ (take_min c.args.most payload ∙ ap (take c.args.most) c.deref.ensures.value))

pub returns-in-Some-clause-outcome : goal.returns-in-Some-clause-outcome
returns-in-Some-clause-outcome g c =
    answered (outcome-cached g.S.Blocks.meanings g.S.Blocks.holdings g.met.S.Blocks.lawful c.args.self.now.store c.args.self.now.cached c.promote.new.self c.args.id.now c.in-Some.bytes.now c.requires (found g c) c.promote.ensures.entries)
    (λ n whole. ap Some (front g c) ∙ ap (front_of c.args.most) whole)

pub returns-in-Some-clause-sized : goal.returns-in-Some-clause-sized
returns-in-Some-clause-sized g c =
    ap length (front g c) ∙ (length-take c.args.most c.in-Some.bytes.now.items ∙ ap (min c.args.most) (c.requires.1.sized c.args.id.now.0 c.in-Some.bytes.now.items (found g c)))
