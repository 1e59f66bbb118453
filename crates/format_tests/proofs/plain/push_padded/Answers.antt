use Rattle.std.proofs.Common.{ℕ, ◌-◌, ◌%◌, List, ◌++◌, length, take, replicate, ap, ◌∙◌, append_assoc, arith}
use Rattle.std.proofs.lemmas.List.{take-replicate}
use Rattle.aes_gcm.specs.Gcm.{padded}
use Rattle.format_tests.proofs.plain.push_padded.Goals as goal

pub returns : goal.returns
unfolding padded
returns c =
    let out : List ℕ = c.args.out.now.items in
    let bytes : List ℕ = c.args.bytes.now in
    let zeros : ℕ = (16 - length bytes % 16) % 16 in
    c.in_ok-extend_from_slice-2.ensures.items
    ∙ ap (λ (l : List ℕ). l ++ take zeros (replicate 16 0)) c.in_ok-extend_from_slice.ensures.items
    ∙ append_assoc out bytes (take zeros (replicate 16 0))
    ∙ ap (λ (l : List ℕ). out ++ (bytes ++ l)) (take-replicate zeros 16 0 (omega arith))
