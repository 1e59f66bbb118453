-- Numbers of the table of places.
use Rattle.std.proofs.Common.{◌≡◌, ℕ, ◌≤◌, List, [], ◌∷◌, ◌++◌, length, sym, subst, ◌∙◌, inl, inr, arith}
use Rattle.std.specs.Prelude.{Some, None, Option, Result, Ok, Err, OnOk}
use Rattle.std.specs.List.{slice_get}
use Rattle.std.specs.Option.{option_map}
use Rattle.std.proofs.lemmas.List.{length-map}
use Rattle.std.proofs.lemmas.Option.{slice_get_cases}
use Rattle.check_walk.specs.store_api.Content.{Id}
use Rattle.cryfs_check.specs.declared.place.Place.{Place}
use Rattle.cryfs_check.specs.declared.place.Visit.{Visit}
use Rattle.cryfs_check.specs.dir_entries.Layout.{Listing}
use Rattle.cryfs_check.specs.Places.{AreBehind, place_text, placed, places_text, sites_of, site_needs, visit_needs}
use Rattle.cryfs_check.specs.Seats.{root_site}
use Rattle.cryfs_check.proofs.Tables.{behind-more, sites-length}
use Rattle.cryfs_check.proofs.Turns.{mapped_some}

lost : {X : Type 0} {x : X} {o : Option X} → o ≡ Some x → o ≡ None → ⊥
lost e n = let bad = sym e ∙ n in cc

-- what is to be visited has a number in the table
pub within : (root : Id) (places : List Place) (number : ℕ) (what : Visit) → Some (visit_needs what) ≡ option_map site_needs (slice_get (sites_of root (places_text places)) number) → number ≤ length places
within root places number what e =
    let table = sites_of root (places_text places) in
    let s = mapped_some site_needs (slice_get table number) (visit_needs what) e in
    elim (slice_get_cases table number).1 [
      | inl (o, low, at, is) ↦ omega (arith, low, sites-length (root_site root) (root_site root ∷ []) (places_text places), length-map places place_text)
      | inr (past, none) ↦ absurd (lost s.1.0 none)
    ]

pub none_behind : AreBehind []
none_behind = λ i p e. absurd (cc)

-- the entries of a directory behind the others
pub behind_placed : {E : Type 0} (r : Result (Unit {0}) E) (now old : List Place) (number : ℕ) (listing : Listing) → OnOk r (places_text now ≡ places_text old ++ placed number listing) → AreBehind (places_text old) → number ≤ length old → OnOk r (AreBehind (places_text now))
behind_placed (Ok u) now old number listing is behind low = subst AreBehind (sym is) (behind-more (places_text old) number listing behind (omega (arith, low, length-map old place_text)))
behind_placed (Err e) now old number listing is behind low = tt
