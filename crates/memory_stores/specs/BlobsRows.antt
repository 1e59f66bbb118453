-- A store of rows: the blobs are the rows.
use Rattle.std.specs.Prelude.{◌≡◌, ℕ, ◌≤◌, List}
use Rattle.std.proofs.Common.{refl, sym, ◌∙◌, arith}
use Rattle.std.specs.FinMap as fin
use Rattle.std.specs.FinMap.{same_map, slice_cmp-IsAntisymmetric, nat_cmp-IsAntisymmetric}
use Rattle.std.specs.Cmp.Lexicographic.{nat_list_cmp_total}
use Rattle.std.specs.declared.option.Option.{Option}
use Rattle.std.specs.declared.option.Option.TheVariants.{None, Some}
use Rattle.blob_api.specs.store_outcome.Meanings.{Meanings, Lawful}
use Rattle.blob_api.specs.store_outcome.InMemory.{in_memory, in_memory_lawful}
use Rattle.store_api.specs.Content.{Changes}
use Rattle.blob_api.specs.BlobMap.{Id, BlobMap, BlobHoldings, BlobsSteady}

abbrev pub row_of : Option (Option (List ℕ)) → Option (List ℕ)
row_of None = None
row_of (Some bytes) = bytes

-- the blobs are the rows
abbrev pub AreRows : Changes → BlobMap → Type 0
AreRows rows m = (id : Id) → fin.get m id ≡ row_of (fin.get rows id)

abbrev pub meanings_of : {S : Type 0} → Meanings S
meanings_of = in_memory (λ s. Unit {0}) (λ a b. Unit {0})

abbrev pub holdings_of : {S : Type 0} → (S → Changes) → BlobHoldings S
holdings_of r = record { stands_for = λ s m. AreRows (r s) m; changed = λ s. 0; piece = λ s. Some 1 }

pub lawful_of : {S : Type 0} → Lawful (meanings_of {S = S})
lawful_of = in_memory_lawful (λ s. Unit {0}) (λ a b. Unit {0}) (λ a. tt) (λ a b c h k. tt)

one : (l : ℕ) → Some 1 ≡ Some l → 1 ≤ l
one l e = let same : 1 ≡ l = cc in omega (arith, same)

pub steady_of : {S : Type 0} (r : S → Changes) → BlobsSteady meanings_of (holdings_of r)
steady_of r = record {
  one_map = λ a m n h k. same_map nat_list_cmp_total (slice_cmp-IsAntisymmetric nat_cmp-IsAntisymmetric) m n (λ id. h id ∙ sym (k id));
  piece_some = λ a l i e. one l e;
  piece_stays = λ a b h. refl;
}
