use Rattle.std.proofs.Common.{arith, rules, List, [], ◌∷◌}
use Rattle.std.proofs.lemmas.Simd.{Each2-splat}
use Rattle.std.specs.Simd.Lanes.{Each1}
use Rattle.aes_block.proofs.Swaps.{high_row, high_vector, low_row, low_vector}
use Rattle.aes_block.proofs.Lanes.{vector_from}
use Rattle.aes_block.proofs.transposition.swap.Goals as goal

-- what holds of all values holds of each lane
each : {A : Type 0} (P : A → Type 0) → ((a : A) → P a) → (xs : List A) → Each1 P xs
each P holds [] = tt
each P holds (x ∷ xs) = (holds x, each P holds xs)

pub overflow_shr-moved : goal.overflow_shr-moved
overflow_shr-moved c = Each2-splat _ c.args.x 32 c.args.places (each _ (λ x. search rules) c.args.x)

pub overflow_shl-result : goal.overflow_shl-result
overflow_shl-result c = Each2-splat _ _ 32 c.args.places (each _ (λ x. search rules) _)

pub returns-clause-vectors : goal.returns-clause-vectors
returns-clause-vectors c =
    let hx = vector_from c.args.x c.fits-x in
    let hy = vector_from c.args.y c.fits-y in
    (low_vector c.args.x c.args.y c.args.places c.args.mask hx hy (omega arith) (omega arith), high_vector c.args.x c.args.y c.args.places c.args.mask hx hy (omega arith) (omega arith))

pub returns-clause-low : goal.returns-clause-low
returns-clause-low c =
    low_row c.args.x c.args.y c.args.places c.args.mask (vector_from c.args.x c.fits-x) (vector_from c.args.y c.fits-y) (omega arith) (omega arith) c.requires.high

pub returns-clause-high : goal.returns-clause-high
returns-clause-high c =
    high_row c.args.x c.args.y c.args.places c.args.mask (vector_from c.args.x c.fits-x) (vector_from c.args.y c.fits-y) (omega arith) (omega arith) c.requires.low
