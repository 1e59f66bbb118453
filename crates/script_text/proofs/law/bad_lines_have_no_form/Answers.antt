use Rattle.script_text.proofs.Unformed.{refuses_unformed}
use Rattle.script_text.proofs.law.bad_lines_have_no_form.Goals as goal

pub returns : goal.returns
returns c = refuses_unformed
