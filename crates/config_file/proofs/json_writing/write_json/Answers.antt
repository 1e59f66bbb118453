use Rattle.std.proofs.Common.{◌≡◌, false, length, ap, ◌∙◌, arith}
use Rattle.serde_json.specs.View.{view}
use Rattle.serde_json.specs.Written.{compact_text, has_float}
use Rattle.config_file.specs.Settings.{settings_of}
use Rattle.config_file.proofs.JsonLength.{length_json_text, no_float}
use Rattle.config_file.proofs.json_writing.write_json.Goals as goal

pub returns-clause-text : goal.returns-clause-text
returns-clause-text c =
    let none : has_float (view c.in_ok-value.value) ≡ false = ap has_float c.in_ok-value.ensures.value ∙ no_float (settings_of c.args.config.now) in
    c.in_ok-to_vec.ensures.text none ∙ ap compact_text c.in_ok-value.ensures.value

pub returns-clause-len : goal.returns-clause-len
returns-clause-len c =
    let s = settings_of c.args.config.now in
    let none : has_float (view c.in_ok-value.value) ≡ false = ap has_float c.in_ok-value.ensures.value ∙ no_float s in
    let text = c.in_ok-to_vec.ensures.text none ∙ ap compact_text c.in_ok-value.ensures.value in
    omega (arith, ap length text, length_json_text s c.in_ok-value.ensures.limits)
