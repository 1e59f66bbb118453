use Rattle.std.proofs.Common.{◌≡◌, ◌+◌, ◌-◌, length, get_or, refl, sym, ◌∙◌, ap, arith}
use Rattle.std.specs.Option.{option_map}
use Rattle.std.proofs.lemmas.List.{length-map}
use Rattle.std.proofs.lemmas.Option.{slice_get-map, slice_get_read}
use Rattle.cryfs_check.specs.Places.{place_text, places_text, sites_of}
use Rattle.cryfs_check.specs.Seats.{root_site}
use Rattle.cryfs_check.proofs.Tables.{blob_first, blob_place, blob_past}
use Rattle.cryfs_check.proofs.place.blob_at.Goals as goal

pub returns-then-number-eq0 : goal.returns-then-number-eq0
returns-then-number-eq0 c =
    let root = c.args.root.now.0 in
    let places = places_text c.args.places.now in
    sym (ap (λ n. (get_or (sites_of root places) n (root_site root)).id) c.if-number-eq0.true ∙ blob_first root places)

pub returns-in-Some : goal.returns-in-Some
returns-in-Some c =
    let i = c.args.number - 1 in
    let number : c.args.number ≡ i + 1 = omega (arith, c.if-number-eq0.false) in
    let here = slice_get_read c.args.places.now (length c.args.places.now) i c.in-Some.place.now refl c.in-Some.ensures.lookup.3.0 c.in-Some.ensures.lookup.1 in
    sym (blob_place c.args.root.now.0 (places_text c.args.places.now) c.args.number i (place_text c.in-Some.place.now) number (slice_get-map place_text c.args.places.now i ∙ ap (option_map place_text) here))

pub returns-in-None : goal.returns-in-None
returns-in-None c =
    let i = c.args.number - 1 in
    let number : c.args.number ≡ i + 1 = omega (arith, c.if-number-eq0.false) in
    sym (blob_past c.args.root.now.0 (places_text c.args.places.now) c.args.number i number (omega (arith, length-map c.args.places.now place_text, c.in-None.ensures.lookup.3)))
