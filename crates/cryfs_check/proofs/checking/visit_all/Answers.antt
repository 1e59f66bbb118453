use Rattle.std.proofs.Common.{◌≡◌, List, sym, subst}
use Rattle.std.specs.Prelude.{Some, None}
use Rattle.std.specs.List.{slice_get}
use Rattle.std.specs.Option.{option_map}
use Rattle.check_rules.specs.store_outcome.Outcome.{idle, then_}
use Rattle.check_rules.proofs.data_tree_lemmas.Forests.{stays-same, stays-then}
use Rattle.check_rules.specs.check_walk.Given.{IsLoad}
use Rattle.cryfs_check.specs.declared.place.Place.{Place}
use Rattle.cryfs_check.specs.Places.{places_text, sites_of, site_needs, visit_needs}
use Rattle.cryfs_check.specs.Visits.{IsVisited, Visited}
use Rattle.cryfs_check.proofs.Stopping.{stopped_read, stopped_end}
use Rattle.cryfs_check.proofs.Turns.{visited_none, visited_read, visited_end}
use Rattle.cryfs_check.proofs.checking.visit_all.Goals as goal

pub loop-number-init : goal.loop-number-init
loop-number-init g c = record {
  outcome = idle g.met.B.Blocks.lawful c.args.store.now tt c.requires.intact (λ n. tt);
  stays = stays-same g.B.Blocks.holdings c.args.store.now;
  visited = subst (λ (xs : List Place). Visited (IsLoad g.B.Blocks.meanings g.B.Blocks.holdings g.B.Blocks.loads) (g.B.Blocks.holdings.payload c.args.store.now) c.args.root.now.0 c.args.store.now c.args.store.now c.args.marks.now c.args.marks.now (places_text xs) 0) (sym c.requires.none)
      (visited_none c.requires.unowned);
}

pub returns-in-None-clause-visited : goal.returns-in-None-clause-visited
returns-in-None-clause-visited g c =
    let places = c.loop-number.places.items in
    let root = c.args.root.now.0 in
    visited_end c.loop-number.invariant.visited
    (subst (λ (xs : List Place). None ≡ option_map site_needs (slice_get (sites_of root (places_text xs)) c.loop-number.number)) c.deref.ensures.value c.in-None.ensures)

pub loop-number-preserved : goal.loop-number-preserved
loop-number-preserved g c =
    let inv = c.loop-number.invariant in
    let places = places_text c.loop-number.places.items in
    let root = c.args.root.now.0 in
    let what = c.in-Some.what in
    let read = subst (λ (xs : List Place). Some (visit_needs what) ≡ option_map site_needs (slice_get (sites_of root (places_text xs)) c.loop-number.number)) c.deref.ensures.value c.in-Some.ensures in
    let visited = subst (λ q. IsVisited (IsLoad g.B.Blocks.meanings g.B.Blocks.holdings g.B.Blocks.loads) q c.loop-number.number what.id.0 what.kind what.parent.0 c.loop-number.store c.visit_place.new.store c.loop-number.marks c.visit_place.new.marks places (places_text c.visit_place.new.places.items))
    inv.stays.payload c.in-Ok.ensures.visited in
    record {
      outcome = then_ g.met.B.Blocks.lawful inv.outcome (λ m h. tt) c.in-Ok.ensures.outcome (λ m h y k. tt);
      stays = stays-then inv.stays c.visit_place.ensures.stays;
      visited = visited_read inv.visited what read visited;
    }

pub returns-in-Err-clause-stopped : goal.returns-in-Err-clause-stopped
returns-in-Err-clause-stopped g c =
    let H = g.B.Blocks.holdings in
    let inv = c.loop-number.invariant in
    let root = c.args.root.now.0 in
    let read = subst (λ (xs : List Place). Some (visit_needs c.in-Some.what) ≡ option_map site_needs (slice_get (sites_of root (places_text xs)) c.loop-number.number)) c.deref.ensures.value c.in-Some.ensures in
    stopped_read (H.content c.args.store.now) (H.content c.loop-number.store) inv.visited c.in-Some.what read inv.stays.ids inv.stays.payload c.in-Err.ensures.halted

pub returns-clause-stopped : goal.returns-clause-stopped
returns-clause-stopped g c = stopped_end (g.B.Blocks.holdings.content c.args.store.now) c.loop-number.invariant.visited

pub returns-in-Err-clause-outcome : goal.returns-in-Err-clause-outcome
returns-in-Err-clause-outcome g c = then_ g.met.B.Blocks.lawful c.loop-number.invariant.outcome (λ m h. tt) c.in-Err.ensures.outcome (λ m h y k. tt)
