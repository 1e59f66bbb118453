use Rattle.std.proofs.Common.{◌≡◌, ◌+◌, ◌-◌, length, refl, sym, ◌∙◌, ap, arith}
use Rattle.std.specs.Prelude.{Some}
use Rattle.std.specs.List.{slice_get}
use Rattle.std.specs.Option.{option_map}
use Rattle.std.proofs.lemmas.List.{length-map}
use Rattle.std.proofs.lemmas.Option.{slice_get-map, slice_get_read}
use Rattle.cryfs_check.specs.Places.{place_text, places_text, sites_of, site_needs}
use Rattle.cryfs_check.proofs.Tables.{site_first, site_at, site_past}
use Rattle.cryfs_check.proofs.place.visit_at.Goals as goal

pub returns-then-number-eq0 : goal.returns-then-number-eq0
returns-then-number-eq0 c =
    let root = c.args.root.now.0 in
    let places = places_text c.args.places.now in
    sym (ap (option_map site_needs) (ap (slice_get (sites_of root places)) c.if-number-eq0.true ∙ site_first root places))

pub returns-in-Some : goal.returns-in-Some
returns-in-Some c =
    let root = c.args.root.now.0 in
    let places = places_text c.args.places.now in
    let place = place_text c.in-Some.place.now in
    let i = c.args.number - 1 in
    let number : c.args.number ≡ i + 1 = omega (arith, c.if-number-eq0.false) in
    let here = slice_get_read c.args.places.now (length c.args.places.now) i c.in-Some.place.now refl c.in-Some.ensures.lookup.3.0 c.in-Some.ensures.lookup.1 in
    let site = site_at root places c.args.number i place number c.requires (slice_get-map place_text c.args.places.now i ∙ ap (option_map place_text) here) in
    sym (ap (option_map site_needs) site ∙ ap (λ b. Some (place.1.1.blob, (place.1.1.attr.kind, b))) (sym c.blob_at.ensures))

pub returns-in-None : goal.returns-in-None
returns-in-None c =
    let i = c.args.number - 1 in
    let number : c.args.number ≡ i + 1 = omega (arith, c.if-number-eq0.false) in
    let past = site_past c.args.root.now.0 (places_text c.args.places.now) c.args.number i number (omega (arith, length-map c.args.places.now place_text, c.in-None.ensures.lookup.3)) in
    sym (ap (option_map site_needs) past)
