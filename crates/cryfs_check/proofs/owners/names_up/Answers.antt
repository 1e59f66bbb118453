use Rattle.std.proofs.Common.{◌≡◌, ◌+◌, ◌-◌, [], ◌∷◌, ◌++◌, length, get_or, refl, sym, ◌∙◌, ap, arith, append_assoc, append-nil}
use Rattle.std.specs.Option.{option_map}
use Rattle.std.proofs.lemmas.List.{length-map}
use Rattle.std.proofs.lemmas.Option.{slice_get-map, slice_get_read}
use Rattle.cryfs_check.specs.Places.{place_text, places_text, paths_of}
use Rattle.cryfs_check.proofs.Tables.{path_first, path_next, path_past}
use Rattle.cryfs_check.proofs.owners.names_up.Goals as goal

pub loop-at-smaller : goal.loop-at-smaller
loop-at-smaller c =
    let i = c.loop-at.at - 1 in
    let here = slice_get_read c.args.places.now (length c.args.places.now) i c.in-Some.place.now refl c.in-Some.ensures.lookup.3.0 c.in-Some.ensures.lookup.1 in
    let low = c.requires i (place_text c.in-Some.place.now) (slice_get-map place_text c.args.places.now i ∙ ap (option_map place_text) here) in
    omega (arith, low, c.loop-at-test.true)

pub loop-at-preserved : goal.loop-at-preserved
loop-at-preserved c =
    let places = places_text c.args.places.now in
    let place = place_text c.in-Some.place.now in
    let names = c.loop-at.names.items in
    let copy = c.in_ok-try_clone-in-Some.field-0 in
    let i = c.loop-at.at - 1 in
    let number : c.loop-at.at ≡ i + 1 = omega (arith, c.loop-at-test.true) in
    let here = slice_get_read c.args.places.now (length c.args.places.now) i c.in-Some.place.now refl c.in-Some.ensures.lookup.3.0 c.in-Some.ensures.lookup.1 in
    let next = path_next places c.loop-at.at i place number c.requires (slice_get-map place_text c.args.places.now i ∙ ap (option_map place_text) here) in
    ap (λ xs. xs ++ get_or (paths_of places) place.0 []) c.in_ok-push-in-Some.ensures.items
    ∙ (append_assoc names (copy ∷ []) (get_or (paths_of places) place.0 [])
    ∙ (ap (λ n. names ++ n ∷ get_or (paths_of places) place.0 []) c.in_ok-try_clone-in-Some.ensures ∙ (ap (λ xs. names ++ xs) (sym next) ∙ c.loop-at.invariant)))

pub returns-in-None : goal.returns-in-None
returns-in-None c =
    let places = places_text c.args.places.now in
    let names = c.loop-at.names.items in
    let i = c.loop-at.at - 1 in
    let number : c.loop-at.at ≡ i + 1 = omega (arith, c.loop-at-test.true) in
    let past = path_past places c.loop-at.at i number (omega (arith, length-map c.args.places.now place_text, c.in-None.ensures.lookup.3)) in
    sym (append-nil names) ∙ (ap (λ xs. names ++ xs) (sym past) ∙ c.loop-at.invariant)

pub returns : goal.returns
returns c =
    let places = places_text c.args.places.now in
    let names = c.loop-at.names.items in
    let zero_ : c.loop-at.at ≡ 0 = omega (arith, c.loop-at-test.false) in
    let first = ap (λ n. get_or (paths_of places) n []) zero_ ∙ path_first places in
    sym (append-nil names) ∙ (ap (λ xs. names ++ xs) (sym first) ∙ c.loop-at.invariant)
