-- The table of places: each path below the root by its directory's number and its entry. The root has the number 0, and the n-th place the number n.
use Rattle.std.specs.Prelude.{◌≡◌, ◌≤◌, ℕ, ◌-◌, List, [], ◌∷◌, ◌++◌, map, get_or, Some}
use Rattle.std.specs.List.{slice_get}
use Rattle.check_rules.specs.dir_entries.Layout.{EntryTarget, Listing, entry_of}
use Rattle.fs_model.specs.declared.attr.Kind.{Kind}
use Rattle.fs_model.specs.Tree.{Path}
use Rattle.check_rules.specs.store_api.Content.{Id}
use Rattle.check_rules.specs.check_walk.Marks.{MarkList}
use Rattle.cryfs_check.specs.declared.place.Place.{Place}
use Rattle.cryfs_check.specs.declared.place.Visit.{Visit}
use Rattle.cryfs_check.specs.Seats.{Site, root_site, child_of}

abbrev pub PlaceText : Type 0
PlaceText = ℕ × (List ℕ × EntryTarget)

abbrev pub place_text : Place → PlaceText
place_text p = (p.parent, entry_of p.entry)

abbrev pub places_text : List Place → List PlaceText
places_text places = map place_text places

-- paths, with those of the places behind them
abbrev pub paths_on : List Path → List PlaceText → List Path
paths_on paths [] = paths
paths_on paths (p ∷ ps) = paths_on (paths ++ (p.1.0 ∷ get_or paths p.0 []) ∷ []) ps

-- the path of each number
abbrev pub paths_of : List PlaceText → List Path
paths_of places = paths_on ([] ∷ []) places

-- each live block with its owner, whose number and one more its mark has
abbrev pub owners_of : MarkList → List PlaceText → List (Id × Path)
owners_of marks places = map (λ m. (m.0, get_or (paths_of places) (m.1 - 1) [])) marks

-- ---- what is to be visited

abbrev pub sites_on : Site → List Site → List PlaceText → List Site
sites_on top found [] = found
sites_on top found (p ∷ ps) = sites_on top (found ++ child_of (get_or found p.0 top) p.1 ∷ []) ps

-- the site of each number
abbrev pub sites_of : Id → List PlaceText → List Site
sites_of root places = sites_on (root_site root) (root_site root ∷ []) places

-- each place stands behind its directory's
abbrev pub AreBehind : List PlaceText → Type 0
AreBehind places = (i : ℕ) (p : PlaceText) → slice_get places i ≡ Some p → p.0 ≤ i

abbrev pub site_needs : Site → Id × (Kind × Id)
site_needs s = (s.id, (s.attr.kind, s.parent))

abbrev pub visit_needs : Visit → Id × (Kind × Id)
visit_needs v = (v.id.0, (v.kind, v.parent.0))

-- the entries of the directory of this number, as places
abbrev pub placed : ℕ → Listing → List PlaceText
placed number listing = map (λ e. (number, e)) listing
