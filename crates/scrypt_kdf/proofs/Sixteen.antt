-- Lists of sixteen and sixty-four, written out.
use Rattle.std.proofs.Common.{◌≡◌, ℕ, List, length, map, slice_index, refl}
use Rattle.std.proofs.lemmas.List.FromFn.{fill_by_all}
use Rattle.std.specs.List.{range_with_len}

pub sixteen : (x : List ℕ) → length x ≡ 16 → x ≡ map (slice_index x) (range_with_len 0 16)
sixteen x long = fill_by_all (slice_index x) x 16 0 long (λ k lt. refl)

pub sixty_four : (x : List ℕ) → length x ≡ 64 → x ≡ map (slice_index x) (range_with_len 0 64)
sixty_four x long = fill_by_all (slice_index x) x 64 0 long (λ k lt. refl)
