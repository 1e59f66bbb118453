use Rattle.std.proofs.Common.{ℕ, List, ◌++◌, ap, ◌∙◌, append_assoc}
use Rattle.std.specs.Int.{w32, w64, to_le_bytes}
use Rattle.std.proofs.lemmas.Result.{on_ok_weaker}
use Rattle.shared_records.proofs.others.put_triple.Goals as goal

pub returns : goal.returns
returns c =
    let id : List ℕ = c.args.triple.now.id.0 in
    let client : List ℕ = to_le_bytes w32 c.args.triple.now.client in
    let version : List ℕ = to_le_bytes w64 c.args.triple.now.version in
    let out : List ℕ = c.args.out.now.items in
    on_ok_weaker c.put_u64.result
    (λ text. text ∙ ap (λ (x : List ℕ). x ++ version) (c.in_ok-put_u32.ensures.text ∙ ap (λ (x : List ℕ). x ++ client) c.in_ok-put_id.ensures.text)
    ∙ append_assoc (out ++ id) client version ∙ append_assoc out id (client ++ version)) c.put_u64.ensures.text
