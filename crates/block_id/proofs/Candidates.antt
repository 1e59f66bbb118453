-- Ids in a row from the drawn one, and how many used ones lie ahead of each.
use Rattle.std.proofs.Common.{◌≡◌, ℕ, zero, suc, ◌+◌, ◌-◌, ◌*◌, ◌/◌, ◌%◌, ◌^◌, ◌<◌, ◌≤◌, cond, List, refl, ap, ◌∙◌, arith}
use Rattle.std.specs.Int.{w128, from_be_bytes, to_be_bytes}
use Rattle.std.proofs.Math.Nat as nat
use Rattle.std.specs.Prelude.{nat_le}
use Rattle.std.proofs.lemmas.Grind.{common_steps}
use Rattle.block_id.specs.Name.{next_id}
use Rattle.block_id.specs.Fresh.{nth_id, zero_id}

-- ---- an id as a number

pub value : List ℕ → ℕ
value id = from_be_bytes w128 id

byte_and_rest : (n p : ℕ) → n / p ≡ n / p % 256 + n / (p * 256) * 256
byte_and_rest n p = omega (arith, nat.div-div-eq-div-mul n p 256)

joined_8 : (a b c d e f g h n p q r s t u v w : ℕ) → n ≡ a + p * 256 → p ≡ b + q * 256 → q ≡ c + r * 256 → r ≡ d + s * 256
    → s ≡ e + t * 256 → t ≡ f + u * 256 → u ≡ g + v * 256 → v ≡ h + w * 256
    → n ≡ w * 18446744073709551616 + (h * 72057594037927936 + g * 281474976710656 + f * 1099511627776 + e * 4294967296 + d * 16777216 + c * 65536 + b * 256 + a)
joined_8 a b c d e f g h n p q r s t u v w at_0 at_1 at_2 at_3 at_4 at_5 at_6 at_7 = omega arith

joined_16 : (a b c d e f g h i j k l m n o p low high rest : ℕ) → low ≡ high * 18446744073709551616 + (h * 72057594037927936 + g * 281474976710656 + f * 1099511627776 + e * 4294967296 + d * 16777216 + c * 65536 + b * 256 + a)
    → high ≡ rest * 18446744073709551616 + (p * 72057594037927936 + o * 281474976710656 + n * 1099511627776 + m * 4294967296 + l * 16777216 + k * 65536 + j * 256 + i) → rest ≡ 0
    → p * 1329227995784915872903807060280344576 + o * 5192296858534827628530496329220096 + n * 20282409603651670423947251286016 + m * 79228162514264337593543950336 + l * 309485009821345068724781056 + k * 1208925819614629174706176 + j * 4722366482869645213696 + i * 18446744073709551616 + h * 72057594037927936 + g * 281474976710656 + f * 1099511627776 + e * 4294967296 + d * 16777216 + c * 65536 + b * 256 + a ≡ low
joined_16 a b c d e f g h i j k l m n o p low high rest at_low at_high at_rest = omega arith

back : (n : ℕ) → n < 2 ^ 128 → from_be_bytes w128 (to_be_bytes w128 n) ≡ n
back n fits =
    let low : n ≡ n % 256 + n / 256 * 256 = omega arith in
    let none : n / 256 ^ 16 ≡ 0 = omega arith in
    joined_16 _ _ _ _ _ _ _ _ _ _ _ _ _ _ _ _ n _ _
    (joined_8 _ _ _ _ _ _ _ _ n _ _ _ _ _ _ _ _ low (byte_and_rest n 256) (byte_and_rest n (256 ^ 2)) (byte_and_rest n (256 ^ 3)) (byte_and_rest n (256 ^ 4)) (byte_and_rest n (256 ^ 5)) (byte_and_rest n (256 ^ 6)) (byte_and_rest n (256 ^ 7)))
    (joined_8 _ _ _ _ _ _ _ _ (n / 256 ^ 8) _ _ _ _ _ _ _ _ (byte_and_rest n (256 ^ 8)) (byte_and_rest n (256 ^ 9)) (byte_and_rest n (256 ^ 10)) (byte_and_rest n (256 ^ 11)) (byte_and_rest n (256 ^ 12)) (byte_and_rest n (256 ^ 13)) (byte_and_rest n (256 ^ 14)) (byte_and_rest n (256 ^ 15)))
    none

value-next_id : (id : List ℕ) → value (next_id id) ≡ (value id + 1) % 2 ^ 128
unfolding value
value-next_id id = back ((from_be_bytes w128 id + 1) % 2 ^ 128) (below (from_be_bytes w128 id + 1))
  where
    below : (n : ℕ) → n % 2 ^ 128 < 2 ^ 128
    below n = omega arith

pub value-zero_id : value zero_id ≡ 0
unfolding value
value-zero_id = refl

one_on : (v n m : ℕ) → v % 2 ^ 128 ≡ n % 2 ^ 128 → m ≡ (v + 1) % 2 ^ 128 → m % 2 ^ 128 ≡ (n + 1) % 2 ^ 128
one_on v n m e f = omega arith

value-nth_id : (drawn : List ℕ) (n : ℕ) → value (nth_id drawn n) % 2 ^ 128 ≡ (value drawn + n) % 2 ^ 128
value-nth_id drawn zero = ap (λ (v : ℕ). v % 2 ^ 128) (omega arith)
value-nth_id drawn (suc n) =
    one_on (value (nth_id drawn n)) (value drawn + n) (value (nth_id drawn (suc n))) (value-nth_id drawn n) (value-next_id (nth_id drawn n)) ∙ ap (λ (v : ℕ). v % 2 ^ 128) (omega arith)

-- ---- how far an id lies behind the drawn one

-- how many places behind d the number v lies
pub behind : ℕ → ℕ → ℕ
behind d v = (v + (2 ^ 128 - d % 2 ^ 128)) % 2 ^ 128

behind_is : (d v n : ℕ) → v % 2 ^ 128 ≡ (d + n) % 2 ^ 128 → n < 2 ^ 128 → behind d v ≡ n
unfolding behind
behind_is d v n e lt = omega arith

pub behind-nth_id : (drawn : List ℕ) (n : ℕ) → n < 2 ^ 128 → behind (value drawn) (value (nth_id drawn n)) ≡ n
behind-nth_id drawn n lt = behind_is (value drawn) (value (nth_id drawn n)) n (value-nth_id drawn n) lt

-- so many places on, and so many more
pub nth_id-add : (drawn : List ℕ) (m n : ℕ) → nth_id (nth_id drawn m) n ≡ nth_id drawn (m + n)
nth_id-add drawn m zero = let e : m ≡ m + 0 = omega arith in ap (nth_id drawn) e
nth_id-add drawn m (suc n) = let e : suc (m + n) ≡ m + suc n = omega arith in ap next_id (nth_id-add drawn m n) ∙ ap (nth_id drawn) e

-- whether v lies n or more places behind d
pub at_least : ℕ → ℕ → ℕ → ℕ
at_least d n v = cond (nat_le n (behind d v)) 1 0

pub at_least-one : (d n v : ℕ) → at_least d n v ≤ 1
unfolding at_least
at_least-one d n v = grind (arith, common_steps)

pub at_least-falls : (d n v : ℕ) → at_least d (n + 1) v ≤ at_least d n v
unfolding at_least
at_least-falls d n v = grind (arith, common_steps)

pub at_least-passed : (d n v : ℕ) → behind d v ≡ n → at_least d (n + 1) v + 1 ≤ at_least d n v
unfolding at_least
at_least-passed d n v e = grind (arith, common_steps)
