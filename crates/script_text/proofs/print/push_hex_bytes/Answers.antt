use Rattle.std.proofs.Common.{arith}
use Rattle.std.proofs.lemmas.Result.{err_from_is_err_and}
use Rattle.script_text.proofs.Appended.{refused}
use Rattle.script_text.proofs.HexDigits.{length_of_hex}
use Rattle.script_text.proofs.print.push_hex_bytes.Goals as goal

pub returns-in_err-reserve : goal.returns-in_err-reserve
returns-in_err-reserve c =
    let failed = err_from_is_err_and c.from_residual.result c.from_residual.ensures.1 in
    refused c.args.out.now c.reserve.new.self c.from_residual.result _ failed.0 failed.1 c.in_err-reserve.ensures.items c.in_err-reserve.ensures.capacity
    (omega (arith, c.in_err-reserve.ensures.full, length_of_hex c.args.bytes.now))
