use Rattle.copy_sessions.specs.Texts.{name_text}
use Rattle.session_lines.proofs.script_text_lemmas.Appended.{grown_stops, grown_more, grown_all}
use Rattle.copy_sessions.proofs.print.push_names.Goals as goal

pub returns-in_err-push_name : goal.returns-in_err-push_name
returns-in_err-push_name c =
    grown_stops name_text c.args.names.now c.loop-name.name-index c.name-item.result _ _ _ _ _ _ c.loop-name-test.true c.name-item.is c.in_err-push_name.was c.from_residual.ensures.0 c.loop-name.invariant c.push_name.ensures

pub loop-name-preserved : goal.loop-name-preserved
loop-name-preserved c =
    grown_more name_text c.args.names.now c.loop-name.name-index c.name-item.result c.args.out.now _ _ _ _ c.loop-name-test.true c.name-item.is c.in_ok-push_name.was c.loop-name.invariant c.push_name.ensures

pub returns : goal.returns
returns c = grown_all name_text c.args.names.now c.loop-name.name-index _ _ c.loop-name-test.false c.loop-name.invariant
