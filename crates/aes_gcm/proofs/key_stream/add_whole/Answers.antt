use Rattle.std.proofs.Common.{◌≡◌, ℕ, List, length, take, drop, slice_index, bit_xor, ap, ◌∙◌, arith}
use Rattle.std.proofs.lemmas.Simd.{get_or-chunk, get_or-put_chunk_above, get_or-put_chunk_at, get_or-put_chunk_below, get_or-zip2, length-chunk, length-zip2}
use Rattle.aes_gcm.proofs.key_stream.add_whole.Goals as goal

pub returns : goal.returns
returns c =
    let text : List ℕ = c.args.text.now in
    let start : ℕ = c.args.start in
    let block : List ℕ = c.args.block.now in
    let old : List ℕ = take 16 (drop start text) in
    let len : length old ≡ 16 = length-chunk start 16 text (omega arith) in
    let width : length block ≡ 16 = omega arith in
    let sum_len = length-zip2 bit_xor old block (omega (arith, len, width)) in
    record {
      inside = λ j lt.
          get_or-put_chunk_at start text _ j 0 (omega (arith, sum_len, len)) (omega (arith, sum_len, len))
          ∙ get_or-zip2 bit_xor old block j 0 0 0 (omega (arith, len)) (omega (arith, width))
          ∙ ap (λ (b : ℕ). bit_xor b (slice_index block j)) (get_or-chunk start 16 text j 0 lt);
      before = λ k lt. get_or-put_chunk_below start text _ k 0 lt;
      after = λ k le. get_or-put_chunk_above start text _ k 0 (omega (arith, sum_len, len));
    }
