-- Blocks with clients as the keys of a finite map.
use Rattle.std.proofs.Common.{◌≡◌, ◌≢◌, ℕ, true, Some, ap, ◌∙◌}
use Rattle.std.specs.FinMap as fin
use Rattle.std.specs.FinMap.{IsAntisymmetric, get-insert, slice_cmp-IsAntisymmetric, nat_cmp-IsAntisymmetric}
use Rattle.std.specs.Ordering.{nat_cmp, eq_by_cmp, is_eq}
use Rattle.std.specs.Cmp.{IsTotalOrder, Equal-is, tied_itself, then_total, on_total, nat_cmp_total, tied_then, first_so, second_so}
use Rattle.std.specs.Cmp.Lexicographic.{slice_cmp, nat_list_cmp_total}
use Rattle.std.proofs.lemmas.Bool.{false_from_ne_true, cond-true, cond-false}
use Rattle.clients_core.specs.Others.{Key, key_cmp, OtherVersions}

pub key_total : IsTotalOrder key_cmp
key_total = then_total (on_total (λ k. k.0) nat_list_cmp_total) (on_total (λ k. k.1) nat_cmp_total)

pub keys_tied : (x y : Key) → eq_by_cmp key_cmp x y ≡ true → x ≡ y
keys_tied x y e =
    let both = tied_then (slice_cmp nat_cmp x.0 y.0) (nat_cmp x.1 y.1) ∙ e in
    let first : x.0 ≡ y.0 = slice_cmp-IsAntisymmetric nat_cmp-IsAntisymmetric x.0 y.0 ((Equal-is (slice_cmp nat_cmp x.0 y.0)).0 (first_so _ _ both)) in
    let second : x.1 ≡ y.1 = nat_cmp-IsAntisymmetric x.1 y.1 ((Equal-is (nat_cmp x.1 y.1)).0 (second_so _ _ both)) in
    λ i. (first i, second i)

pub key_antisymmetric : IsAntisymmetric key_cmp
key_antisymmetric x y e = keys_tied x y (ap is_eq e)

pub get_same : (m : OtherVersions) (k : Key) (v : ℕ) → fin.get (fin.insert m k v) k ≡ Some v
get_same m k v = get-insert key_total m k v k ∙ cond-true (eq_by_cmp key_cmp k k) (Some v) (fin.get m k) (ap is_eq (tied_itself key_total k))

pub get_apart : (m : OtherVersions) (k q : Key) (v : ℕ) → q ≢ k → fin.get (fin.insert m k v) q ≡ fin.get m q
get_apart m k q v ne =
    get-insert key_total m k v q ∙ cond-false (eq_by_cmp key_cmp q k) (Some v) (fin.get m q) (false_from_ne_true (eq_by_cmp key_cmp q k) (λ e. ne (keys_tied q k e)))
