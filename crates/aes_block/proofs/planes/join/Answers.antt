use Rattle.std.proofs.Common.{◌≡◌, ℕ, List, ◌++◌, length, sym, ap, ◌∙◌, subst, arith, length-append, Fits, w8}
use Rattle.std.proofs.lemmas.Simd.{pick_l_whole}
use Rattle.aes_block.specs.Planes.{IsVector, half}
use Rattle.aes_block.proofs.Blocks.{high_half, low_half}
use Rattle.aes_block.proofs.Circuits.{each_append}
use Rattle.aes_block.proofs.Lanes.{vector_from}
use Rattle.aes_block.proofs.planes.join.Goals as goal

joined_len : (a b : List ℕ) → length a ≡ 16 → length b ≡ 16 → length (a ++ b) ≡ 32
joined_len a b la lb = omega (arith, length-append a b, la, lb)

pub returns-clause-vector : goal.returns-clause-vector
returns-clause-vector c =
    let a : List ℕ = c.args.low in
    let b : List ℕ = c.args.high in
    let len = joined_len a b c.fits-low.0 c.fits-high.0 in
    subst IsVector (sym (pick_l_whole 0 (a ++ b) 32 len)) (vector_from (a ++ b) (len, each_append (Fits w8) a b c.fits-low.1 c.fits-high.1))

pub returns-clause-low : goal.returns-clause-low
returns-clause-low c =
    let a : List ℕ = c.args.low in
    let b : List ℕ = c.args.high in
    ap (half 0) (pick_l_whole 0 (a ++ b) 32 (joined_len a b c.fits-low.0 c.fits-high.0)) ∙ low_half a b c.fits-low.0

pub returns-clause-high : goal.returns-clause-high
returns-clause-high c =
    let a : List ℕ = c.args.low in
    let b : List ℕ = c.args.high in
    ap (half 1) (pick_l_whole 0 (a ++ b) 32 (joined_len a b c.fits-low.0 c.fits-high.0)) ∙ high_half a b c.fits-low.0 c.fits-high.0
