use Rattle.std.proofs.Common.{◌≡◌, ℕ, ◌*◌, ◌%◌, ◌<◌, List, [], length, slice_index_or, sym, ap, ◌∙◌, arith, add-one}
use Rattle.std.proofs.lemmas.List.FromFn.{get_or-map-range_with_len}
use Rattle.scrypt_kdf.specs.Order.{on_diagonals}
use Rattle.scrypt_kdf.specs.Scrypt.{integerify, iterate, iterates, part, turned, xor_bytes}
use Rattle.scrypt_kdf.proofs.Lengths.{length-iterate, length-turned, length-xor}
use Rattle.scrypt_kdf.proofs.Diagonals.{length-reordered, xor_on_diagonals}
use Rattle.scrypt_kdf.proofs.Parts.{part_of_joined, part_room}
use Rattle.scrypt_kdf.proofs.mix.look_up.Goals as goal

pub part-requires : goal.part-requires
part-requires c =
    let room = part_room (128 * c.args.r) c.integerify-j.result c.args.n c.integerify-j.ensures.within in
    omega arith

pub loop-turn-init : goal.loop-turn-init
unfolding turned
loop-turn-init c = λ b d long long' v x. x

pub loop-turn-preserved : goal.loop-turn-preserved
unfolding turned
loop-turn-preserved c = λ b d long long' v first.
    let r : ℕ = c.args.r in
    let n : ℕ = c.args.n in
    let len : ℕ = 128 * r in
    let j : ℕ = c.integerify-j.result in
    let vs : List (List ℕ) = iterates r n b in
    let x : List ℕ = turned r n vs d c.loop-turn._turn in
    let x_long : length x ≡ 128 * r = length-turned r n vs d c.loop-turn._turn long' in
    let before : c.loop-turn.x ≡ on_diagonals x = c.loop-turn.invariant b d long long' v first in
    let place : j ≡ integerify r x % n = c.integerify-j.ensures.value x x_long before in
    let within : j < n = c.integerify-j.ensures.within in
    let entry : iterate r b j ≡ slice_index_or vs j [] = sym (get_or-map-range_with_len (iterate r b) 0 n j j [] within (omega arith)) in
    let stored : part len c.args.v.now j ≡ on_diagonals (iterate r b j) =
    ap (λ (xs : List ℕ). part len xs j) v
    ∙ part_of_joined len (λ k. on_diagonals (iterate r b k)) n j
    (λ k lt. length-reordered 5 (iterate r b k) ∙ length-iterate r b k long) within in
    let here : iterate r b j ≡ slice_index_or vs (integerify r x % n) [] = entry ∙ ap (λ (k : ℕ). slice_index_or vs k []) place in
    let both : xor_bytes (on_diagonals x) (on_diagonals (iterate r b j)) ≡ on_diagonals (xor_bytes x (iterate r b j)) =
    xor_on_diagonals x (iterate r b j) (2 * r) (omega arith) (length-iterate r b j long ∙ omega arith) in
    let looked : c.xor_to.new.t ≡ on_diagonals (xor_bytes x (slice_index_or vs (integerify r x % n) [])) =
    c.xor_to.ensures ∙ (λ t. xor_bytes (before t) ((c.part.ensures ∙ stored) t)) ∙ both
    ∙ ap (λ (w : List ℕ). on_diagonals (xor_bytes x w)) here in
    let far : length (slice_index_or vs (integerify r x % n) []) ≡ 128 * r = sym (ap length here) ∙ length-iterate r b j long in
    c.block_mix.ensures (xor_bytes x (slice_index_or vs (integerify r x % n) [])) (length-xor x _ (128 * r) x_long far) looked
    ∙ ap (λ (k : ℕ). on_diagonals (turned r n vs d k)) (sym (add-one c.loop-turn._turn))

pub returns : goal.returns
returns c = λ b d long long' v first.
    let done : c.loop-turn._turn ≡ c.args.n = omega (arith, c.loop-turn.auto._turn-end) in
    c.loop-turn.invariant b d long long' v first
    ∙ ap (λ (k : ℕ). on_diagonals (turned c.args.r c.args.n (iterates c.args.r c.args.n b) d k)) done
