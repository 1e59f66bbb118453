-- A copy in two passes: the rows first, then their attributes.
use Rattle.std.specs.Prelude.{List}
use Rattle.std.specs.declared.result.Result.{Result}
use Rattle.std.specs.declared.result.Result.TheVariants.{Ok, Err}
use Rattle.tree_copy.specs.copy_laws.declared.copied.CopyFail.{CopyFail}
use Rattle.tree_copy.specs.copy_laws.declared.copied.Totals.{Totals}
use Rattle.tree_copy.specs.copy_laws.Questions.{Question, Asking, Asked}

-- questions were asked of which this holds
pub record Asks {A : Type 0} (M : Asking A) (old new : A) (Are : List Question → Type 0) : Type 0 where
  pub qs : List Question
  pub asked : Asked M old new qs
  pub are : Are qs

-- how a copy ends whose rows were copied with these totals, and whose second pass ended so
abbrev pub end_of : Totals → Result (Unit {0}) CopyFail → Result Totals CopyFail
end_of totals (Ok x) = Ok totals
end_of totals (Err e) = Err e
