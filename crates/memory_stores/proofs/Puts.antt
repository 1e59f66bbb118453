-- Rows that are set and taken away.
use Rattle.std.specs.Prelude.{◌≡◌, ℕ, Bool, true, false, cond, List}
use Rattle.std.proofs.Common.{refl, sym, ◌∙◌, ap}
use Rattle.std.specs.FinMap as fin
use Rattle.std.specs.FinMap.{get-insert, get-remove}
use Rattle.std.specs.Ordering.{eq_by_cmp}
use Rattle.std.specs.Cmp.Lexicographic.{nat_list_cmp_total}
use Rattle.std.specs.declared.option.Option.{Option}
use Rattle.std.specs.declared.option.Option.TheVariants.{None, Some}
use Rattle.store_api.specs.Content.{Changes, id_cmp}
use Rattle.blob_api.specs.BlobMap.{Id, BlobMap}
use Rattle.memory_stores.specs.BlobsRows.{row_of, AreRows}

put_row : (b : Bool) (v : List ℕ) (o : Option (List ℕ)) (r : Option (Option (List ℕ))) → o ≡ row_of r → cond b (Some v) o ≡ row_of (cond b (Some (Some v)) r)
put_row true v o r e = refl
put_row false v o r e = e

gone_row : (b : Bool) (o : Option (List ℕ)) (r : Option (Option (List ℕ))) → o ≡ row_of r → cond b None o ≡ row_of (cond b None r)
gone_row true o r e = refl
gone_row false o r e = e

pub rows_put : (rows : Changes) (m : BlobMap) (id : Id) (v : List ℕ) → AreRows rows m → AreRows (fin.insert rows id (Some v)) (fin.insert m id v)
rows_put rows m id v are q =
    get-insert nat_list_cmp_total m id v q ∙ (put_row (eq_by_cmp id_cmp q id) v (fin.get m q) (fin.get rows q) (are q) ∙ ap row_of (sym (get-insert nat_list_cmp_total rows id (Some v) q)))

pub rows_gone : (rows : Changes) (m : BlobMap) (id : Id) → AreRows rows m → AreRows (fin.remove rows id) (fin.remove m id)
rows_gone rows m id are q =
    get-remove nat_list_cmp_total m id q ∙ (gone_row (eq_by_cmp id_cmp q id) (fin.get m q) (fin.get rows q) (are q) ∙ ap row_of (sym (get-remove nat_list_cmp_total rows id q)))

pub same_bytes : (rows : Changes) (m : BlobMap) (id : Id) (x y : List ℕ) → AreRows rows m → Some x ≡ row_of (fin.get rows id) → fin.get m id ≡ Some y → x ≡ y
same_bytes rows m id x y are e there = let both : Some x ≡ Some y = e ∙ (sym (are id) ∙ there) in cc
