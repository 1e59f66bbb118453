-- A folder's tree with one row set.
use Rattle.std.proofs.Common.{◌≡◌, inl, inr, cond, sym, ◌∙◌, ap}
use Rattle.std.specs.Prelude.{Some}
use Rattle.std.specs.FinMap.{get, insert, get-insert, same_map}
use Rattle.fs_model.proofs.TreeLemmas.{path_total, path_exact, path_split, path_same, apart}
use Rattle.host_folder.specs.Folders.{HostRow, HostPath, HostTree}

pub here : (t : HostTree) (p : HostPath) (row : HostRow) → get (insert t p row) p ≡ Some row
here t p row = get-insert path_total t p row p ∙ ap (λ b. cond b (Some row) (get t p)) (path_same p)

pub other : (t : HostTree) (p : HostPath) (row : HostRow) (q : HostPath) → (q ≡ p → ⊥) → get (insert t p row) q ≡ get t q
other t p row q differ = get-insert path_total t p row q ∙ ap (λ b. cond b (Some row) (get t q)) (apart q p differ)

-- a row set twice
pub again : (t : HostTree) (p : HostPath) (x row : HostRow) → insert (insert t p x) p row ≡ insert t p row
again t p x row = same_map path_total path_exact _ _ (λ r. elim (path_split r p) [
  | inl e ↦ ap (get (insert (insert t p x) p row)) e ∙ (here (insert t p x) p row ∙ sym (ap (get (insert t p row)) e ∙ here t p row))
  | inr d ↦ other (insert t p x) p row r d ∙ (other t p x r d ∙ sym (other t p row r d))
])
