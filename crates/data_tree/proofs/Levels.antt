-- The room of a tree, level by level.
use Rattle.std.proofs.Common.{◌≡◌, ℕ, zero, suc, ◌+◌, ◌-◌, ◌*◌, ◌/◌, ◌<◌, ◌≤◌, sym, ◌∙◌, ap, subst, arith}
use Rattle.data_nodes.specs.Layout.{fan_out}
use Rattle.std.proofs.Math.Nat.{mul-div_cancel_left, mul-le-mul_left, mul-le-mul_right}
use Rattle.data_tree.specs.Trees.{span, IsDepth}

divided : (f x : ℕ) → 0 < f → (f * x) / f ≡ x
divided f x some = mul-div_cancel_left x some

pub room_below : (payload depth room : ℕ) → 0 < depth → 50 ≤ payload → room ≡ span payload depth → room / ((payload - 8) / 16) ≡ span payload (depth - 1)
room_below payload zero room deep least is = absurd (omega arith)
room_below payload (suc depth) room deep least is =
    let level : depth ≡ suc depth - 1 = omega arith in
    ap (λ r. r / fan_out payload) is ∙ divided (fan_out payload) (span payload depth) (omega arith) ∙ ap (span payload) level

pub room_all : (payload depth room : ℕ) → 0 < depth → 50 ≤ payload → room ≡ span payload depth → fan_out payload * (room / ((payload - 8) / 16)) ≡ room
room_all payload zero room deep least is = absurd (omega arith)
room_all payload (suc depth) room deep least is = ap (λ r. fan_out payload * r) (ap (λ r. r / fan_out payload) is ∙ divided (fan_out payload) (span payload depth) (omega arith)) ∙ sym is

pub span-grows : (payload low more : ℕ) → 50 ≤ payload → span payload low ≤ span payload (low + more)
span-grows payload low zero least = let e : low + zero ≡ low = omega arith in subst (λ k. span payload low ≤ span payload k) (sym e) (omega arith)
span-grows payload low (suc more) least =
    let e : low + suc more ≡ suc (low + more) = omega arith in
    let so_far : span payload low ≤ span payload (low + more) = span-grows payload low more least in
    let some : 1 ≤ fan_out payload = omega arith in
    subst (λ k. span payload low ≤ span payload k) (sym e) (omega (arith, so_far, mul-le-mul_left (span payload (low + more)) some))

-- a tree of at most so many bytes isn't deeper than the first level with room for them
pub too_deep : (payload low depth n most : ℕ) → 50 ≤ payload → most ≤ span payload low → low < depth → n ≤ most → IsDepth payload depth n → ⊥
too_deep payload low zero n most least room lt few deep = absurd (omega arith)
too_deep payload low (suc depth) n most least room lt few deep =
    let e : low + (depth - low) ≡ depth = omega arith in
    let grown : span payload low ≤ span payload depth = subst (λ k. span payload low ≤ span payload k) e (span-grows payload low (depth - low) least) in
    absurd (omega (arith, grown, room, few, deep.0))

pub span-some : (payload depth : ℕ) → 50 ≤ payload → 0 < span payload depth
span-some payload depth least =
    let e : 0 + depth ≡ depth = omega arith in
    let grown : span payload 0 ≤ span payload depth = subst (λ k. span payload 0 ≤ span payload k) e (span-grows payload 0 depth least) in
    omega (arith, grown)

-- the level above one with too little room for the most bytes is that of some tree
pub depth_some : (payload depth most : ℕ) → 50 ≤ payload → ((low : ℕ) → low + 1 ≡ depth → span payload low < most) → (n : ℕ) × ((n ≤ most) × IsDepth payload depth n)
depth_some payload zero most least below = (0, (omega arith, omega arith))
depth_some payload (suc depth) most least below =
    let few : span payload depth < most = below depth (omega arith) in
    let positive : 0 < span payload depth = span-some payload depth least in
    let two : 2 ≤ fan_out payload = omega arith in
    let doubled : 2 * span payload depth ≤ fan_out payload * span payload depth = mul-le-mul_right (span payload depth) two in
    (span payload depth + 1, (omega arith, (omega arith, omega (arith, doubled, positive))))
