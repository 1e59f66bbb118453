use Rattle.std.proofs.Common.{get_or}
use Rattle.std.proofs.lemmas.List.{get_or_default}
use Rattle.session_lines.specs.script_text.Texts.{escape}
use Rattle.session_lines.proofs.script_text_lemmas.Appended.{grown_stops, grown_more, grown_all}
use Rattle.copy_sessions.proofs.escapes.push_escaped.Goals as goal

pub returns-in_err-push_escape : goal.returns-in_err-push_escape
returns-in_err-push_escape c =
    grown_stops escape c.args.bytes.now c.loop-byte.byte-index (get_or c.args.bytes.now c.loop-byte.byte-index 0) _ _ _ _ _ _ c.loop-byte-test.true (get_or_default c.args.bytes.now c.loop-byte.byte-index 0 _ c.loop-byte-test.true) c.in_err-push_escape.was c.from_residual.ensures.0 c.loop-byte.invariant c.push_escape.ensures

pub loop-byte-preserved : goal.loop-byte-preserved
loop-byte-preserved c =
    grown_more escape c.args.bytes.now c.loop-byte.byte-index (get_or c.args.bytes.now c.loop-byte.byte-index 0) c.args.out.now _ _ _ _ c.loop-byte-test.true (get_or_default c.args.bytes.now c.loop-byte.byte-index 0 _ c.loop-byte-test.true) c.in_ok-push_escape.was c.loop-byte.invariant c.push_escape.ensures

pub returns : goal.returns
returns c = grown_all escape c.args.bytes.now c.loop-byte.byte-index _ _ c.loop-byte-test.false c.loop-byte.invariant
