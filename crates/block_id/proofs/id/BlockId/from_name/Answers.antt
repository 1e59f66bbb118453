use Rattle.std.proofs.Common.{refl, sym, ap, ◌∙◌}
use Rattle.std.specs.Result.{is_ok}
use Rattle.hex.proofs.HexLemmas.{IsOk-decode_sized}
use Rattle.block_id.proofs.id.BlockId.from_name.Goals as goal

pub returns-in-Ok-clause-found : goal.returns-in-Ok-clause-found
returns-in-Ok-clause-found c =
    (λ _. (IsOk-decode_sized c.args.text.now 16).0 (ap is_ok (sym c.in-Ok.ensures)), λ _. refl)

pub returns-in-Err-clause-found : goal.returns-in-Err-clause-found
returns-in-Err-clause-found c =
    let refused = ap is_ok c.in-Err.ensures in
    (λ h. absurd (cc h), λ h. refused ∙ (IsOk-decode_sized c.args.text.now 16).1 h)
