-- Which words call the local record.
use Rattle.std.specs.Prelude.{Bool, true, false}
use Rattle.std.specs.declared.option.Option.{Option}
use Rattle.std.specs.declared.option.Option.TheVariants.{None, Some}
use Rattle.program_words.specs.declared.form.Form.{Form}
use Rattle.program_words.specs.declared.form.Form.TheVariants.{Trial, TrialGenerate, Look}

-- the local record may be called
abbrev pub uses_record : Option Form → Bool
uses_record None = false
uses_record (Some Trial) = false
uses_record (Some (TrialGenerate count)) = false
uses_record (Some Look) = false
uses_record _ = true
