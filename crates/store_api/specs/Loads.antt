-- What a load answers, as plain data.
use Rattle.std.specs.Prelude.{◌≡◌, ℕ, List, Vec, Option, Some, None, Result, Ok, Err, IfOk, IfErr}
use Rattle.std.specs.declared.alloc.Global.{Global}
use Rattle.block_id.specs.declared.fail.Fail.{Fail}
use Rattle.block_id.specs.declared.fail.Fail.TheVariants.{Memory}
use Rattle.outside.specs.View.{bytes_of}
use Rattle.store_api.specs.Content.{Id, Changes}
use Rattle.std.specs.FinMap.{get}

abbrev pub LoadAnswer : Type 0
LoadAnswer = Result (Option (List ℕ)) Fail

abbrev pub answer_of : Result (Option (Vec ℕ Global)) Fail → LoadAnswer
answer_of (Ok payload) = Ok (bytes_of payload)
answer_of (Err fail) = Err fail

-- this payload, or none, unless memory is wanting
pub record GivesPayload (payload : Option (List ℕ)) (answer : LoadAnswer) : Type 0 where
  pub ok : IfOk answer (λ found. found ≡ payload)
  pub err : IfErr answer (λ fail. fail ≡ Memory)

-- with no entry in the changes the store is asked, by `loads`; else the entry is given, and the store left
abbrev pub LoadsOver : {S : Type 0} → (S → S → Id → LoadAnswer → Type 0) → Option (Option (List ℕ)) → S → S → Id → LoadAnswer → Type 0
LoadsOver loads None a b id answer = loads a b id answer
LoadsOver loads (Some change) a b id answer = (b ≡ a) × GivesPayload change answer

-- f is the store below, and g are the changes over it
abbrev pub loads_over : {A B : Type 0} → (A → B) → (A → Changes) → (B → B → Id → LoadAnswer → Type 0) → A → A → Id → LoadAnswer → Type 0
loads_over f g loads a b id answer = LoadsOver loads (get (g a) id) (f a) (f b) id answer
