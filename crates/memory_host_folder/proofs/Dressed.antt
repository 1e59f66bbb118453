-- A row with other attributes is the same row of the folder's tree.
use Rattle.std.proofs.Common.{◌≡◌, inl, inr, ℕ, Bool, false, List, [], ◌∷◌, ◌<◌, refl, sym, ◌∙◌, ap, subst, arith, length}
use Rattle.std.specs.Prelude.{Some, ◌==◌}
use Rattle.std.specs.FinMap.{get, insert, same_map}
use Rattle.fs_model.specs.declared.attr.Attr.{Attr}
use Rattle.fs_model.specs.Tree.{Row, Tree, upward}
use Rattle.fs_model.proofs.TreeLemmas.{path_total, path_exact, path_split}
use Rattle.host_attributes.specs.host_folder.Folders.{HostRow, HostPath, HostTree}
use Rattle.host_attributes.proofs.host_folder_lemmas.Inserts.{here, other}
use Rattle.host_attributes.specs.Attributes.{IsSet, set_onto}
use Rattle.memory_host_folder.specs.Told.{host_row, told_by}
use Rattle.memory_host_folder.proofs.Turned.{host_in, get_told, told_insert}

-- what stands there is put there again
insert_same : (t : HostTree) (p : HostPath) (row : HostRow) → get t p ≡ Some row → insert t p row ≡ t
insert_same t p row is = same_map path_total path_exact _ _ (λ q. elim (path_split q p) [
  | inl e ↦ ap (get (insert t p row)) e ∙ (here t p row ∙ (sym is ∙ ap (get t) (sym e)))
  | inr d ↦ other t p row q d
])

pub told_same : (t : Tree) (p : HostPath) (old new : Row) → get t (upward p) ≡ Some old → host_row new ≡ host_row old → told_by (insert t (upward p) new) ≡ told_by t
told_same t p old new is same =
    told_insert t p new
    ∙ (ap (insert (told_by t) p) same
    ∙ insert_same (told_by t) p (host_row old) (get_told t p ∙ ap host_in is))

-- a row whose attributes were set
pub set_dressed : (t new : Tree) (names path : HostPath) (old attr x : Attr) (w v : List ℕ) → names ≡ path → Some (record { attr = old; bytes = w }) ≡ get t (upward names) → x ≡ set_onto old attr → v ≡ w → new ≡ insert t (upward names) (record { attr = x; bytes = v })
    → IsSet (Some t) (Some new) path attr × (told_by new ≡ told_by t)
set_dressed t new names path old attr x w v at there set same is =
    let row : Row = record { attr = old; bytes = w } in
    let next : Row = record { attr = set_onto old attr; bytes = w } in
    let was : get t (upward path) ≡ Some row = subst (λ z. get t (upward z) ≡ Some row) at (sym there) in
    let now : new ≡ insert t (upward path) next =
    is ∙ (ap (λ (z : Attr). insert t (upward names) (record { attr = z; bytes = v })) set ∙ (ap (λ (z : List ℕ). insert t (upward names) (record { attr = set_onto old attr; bytes = z })) same ∙ ap (λ z. insert t (upward z) next) at)) in
    ((row, (was, ap Some now)), ap told_by now ∙ told_same t path row next was refl)

-- names that aren't none
pub any_names : {empty : Bool} (ns : HostPath) → empty ≡ (length ns == 0) → empty ≡ false → 0 < length ns
any_names [] said some = absurd (cc)
any_names (n ∷ ns) said some = omega arith
