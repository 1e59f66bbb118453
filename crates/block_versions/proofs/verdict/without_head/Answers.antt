use Rattle.std.proofs.Common.{◌≡◌, ℕ, ◌+◌, ◌-◌, List, length, take, drop, subst, ◌∙◌, ap, arith, length-drop}
use Rattle.std.specs.Prelude.{vec_len}
use Rattle.std.proofs.lemmas.List.{take_rest}
use Rattle.std.proofs.lemmas.List.Edits.{take-paste}
use Rattle.std.proofs.Math.Seq.{paste}
use Rattle.block_versions.proofs.verdict.without_head.Goals as goal

-- what follows the first bytes, copied to the front, with the rest cut off
front : (from size : ℕ) (bytes : List ℕ) → size ≡ length bytes → take (size - from) (paste bytes 0 (drop from bytes) (size - from)) ≡ drop from bytes
front from size bytes is =
    let fits : size - from ≡ length (drop from bytes) = omega (arith, is, length-drop from bytes) in
    let none : 0 + (size - from) ≡ size - from = omega arith in
    subst (λ n. take n (paste bytes 0 (drop from bytes) (size - from)) ≡ take (size - from) (drop from bytes)) none (take-paste bytes 0 (drop from bytes) (size - from) (omega arith) (omega (arith, fits)))
    ∙ (ap (λ n. take (n - from) (drop from bytes)) is ∙ take_rest bytes from)

pub returns : goal.returns
returns c =
    let size : vec_len c.args.plain ≡ length c.args.plain.items = omega (arith, c.args.plain.ok) in
    let same : c.len.result ≡ vec_len c.args.plain = c.len.ensures ∙ c.copy_within.ensures.len in
    c.truncate.ensures.items
    ∙ (ap (λ n. take (n - 30) c.copy_within.new.self.items) same
    ∙ (ap (take (vec_len c.args.plain - 30)) c.copy_within.ensures.items ∙ front 30 (vec_len c.args.plain) c.args.plain.items size))
