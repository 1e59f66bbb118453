use Rattle.std.proofs.Common.{◌≡◌, ℕ, ◌-◌, List, [], get_or, sym, ◌∙◌, ap}
use Rattle.std.specs.Prelude.{Some, reverse}
use Rattle.std.specs.List.{slice_get}
use Rattle.std.specs.Option.{option_map}
use Rattle.std.proofs.lemmas.Option.{slice_get-map}
use Rattle.fs_model.specs.Tree.{Path}
use Rattle.check_rules.specs.store_api.Content.{Id}
use Rattle.check_rules.specs.check_walk.Marks.{mark_entry}
use Rattle.cryfs_check.specs.declared.place.Place.{Place}
use Rattle.cryfs_check.specs.Places.{places_text, paths_of}
use Rattle.cryfs_check.proofs.owners.Owners.path.Goals as goal

pub returns : goal.returns
returns c =
    let marks = c.self.inside.marks in
    let places = places_text c.self.inside.places.items in
    let i = c.args.i in
    let mark = mark_entry c.in-Some.mark in
    let path = get_or (paths_of places) (mark.1 - 1) [] in
    let owner : slice_get c.args.self.now i ≡ Some (mark.0, path) =
    ap (λ (list : List (Id × Path)). slice_get list i) (sym c.self.view_is)
    ∙ (slice_get-map (λ (m : Id × ℕ). (m.0, get_or (paths_of places) (m.1 - 1) [])) marks i ∙ ap (option_map (λ (m : Id × ℕ). (m.0, get_or (paths_of places) (m.1 - 1) []))) (sym c.in-Some.ensures)) in
    let told : c.in_ok-path.path ≡ reverse path =
    c.in_ok-path.ensures ∙ (ap (λ (xs : List Place). reverse (get_or (paths_of (places_text xs)) c.saturating_sub.result [])) c.deref.ensures.value ∙ ap (λ n. reverse (get_or (paths_of places) n [])) c.saturating_sub.ensures) in
    ap Some told ∙ ap (option_map (λ (o : Id × Path). reverse o.1)) (sym owner)
