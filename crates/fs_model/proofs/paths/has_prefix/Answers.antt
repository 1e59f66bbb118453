use Rattle.std.proofs.Common.{sym, ◌∙◌, ap}
use Rattle.std.specs.Prelude.{is_some}
use Rattle.fs_model.proofs.PrefixLemmas.{short_strip, front_strip}
use Rattle.fs_model.proofs.paths.has_prefix.Goals as goal

pub returns-then-names-prefix-clause-value : goal.returns-then-names-prefix-clause-value
returns-then-names-prefix-clause-value c = sym (ap is_some (short_strip c.args.names.now c.args.prefix.now c.if-names-prefix.true))

pub returns-clause-value : goal.returns-clause-value
returns-clause-value c = c.same_names.ensures ∙ front_strip c.args.names.now c.args.prefix.now
