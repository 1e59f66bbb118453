use Rattle.std.proofs.Common.{◌≡◌, List, sym, subst}
use Rattle.std.specs.Prelude.{Some}
use Rattle.std.specs.List.{slice_get}
use Rattle.std.specs.Option.{option_map}
use Rattle.cryfs_check.specs.declared.place.Place.{Place}
use Rattle.cryfs_check.specs.Places.{AreBehind, places_text, sites_of, site_needs, visit_needs}
use Rattle.check_refused.proofs.Tables.{none_behind, within}
use Rattle.check_refused.proofs.Surveying.{surveys_none, surveys_then}
use Rattle.check_refused.proofs.reading.read_places.Goals as goal

pub enter-requires-clause-within : goal.enter-requires-clause-within
enter-requires-clause-within g c =
    within c.args.root.now.0 c.loop-number.places.items c.loop-number.number c.in-Some.what
    (subst (λ (xs : List Place). Some (visit_needs c.in-Some.what) ≡ option_map site_needs (slice_get (sites_of c.args.root.now.0 (places_text xs)) c.loop-number.number)) c.deref.ensures.value c.in-Some.ensures)

pub loop-number-init : goal.loop-number-init
loop-number-init g c = record {
  surveys = surveys_none g.met.B.Blocks.lawful c.args.store.now c.requires.intact;
  behind = subst (λ (xs : List Place). AreBehind (places_text xs)) (sym c.new-places.ensures.items) none_behind;
}

pub loop-number-preserved : goal.loop-number-preserved
loop-number-preserved g c = record { surveys = surveys_then g.met.B.Blocks.lawful c.loop-number.invariant.surveys c.enter.ensures.surveys; behind = c.in_ok-enter.ensures.behind }

pub returns-in_err-enter-clause-surveys : goal.returns-in_err-enter-clause-surveys
returns-in_err-enter-clause-surveys g c = surveys_then g.met.B.Blocks.lawful c.loop-number.invariant.surveys c.enter.ensures.surveys
