-- What the loads of a check gave, one after another. The newest stands first.
use Rattle.std.specs.Prelude.{◌≡◌, ℕ, List, [], ◌∷◌, ◌++◌, Some, None, Ok, Result, Err}
use Rattle.std.specs.FinMap.{find}
use Rattle.block_id.specs.declared.fail.Fail.{Fail}
use Rattle.data_tree.specs.store_api.Content.{Id, Content, id_cmp}
use Rattle.data_tree.specs.store_outcome.Meanings.{Meanings}
use Rattle.data_tree.specs.store_outcome.Outcome.{Outcome}
use Rattle.data_tree.specs.store_api.Holdings.{Holdings, Stays}
use Rattle.data_tree.specs.store_api.Loads.{LoadAnswer}
use Rattle.check_walk.specs.declared.flaw.Halt.{Halt}
use Rattle.check_walk.specs.declared.flaw.Halt.TheVariants.{Found, Failing}

-- ids, each with the payload that a load of it gave
abbrev pub Given : Type 0
Given = List (Id × List ℕ)

-- loads that gave these led from the one store to the other
abbrev pub GaveBy : {S : Type 0} → (S → S → Id → LoadAnswer → Type 0) → S → Given → S → Type 0
GaveBy loads a [] b = b ≡ a
GaveBy {S} loads a (g ∷ gs) b = (mid : S) × (GaveBy loads a gs mid × loads mid b g.0 (Ok (Some g.1)))

-- a load of this relation, with what every load promises
pub record IsLoad {S : Type 0} (M : Meanings S) (H : Holdings S) (loads : S → S → Id → LoadAnswer → Type 0) (a b : S) (id : Id) (answer : LoadAnswer) : Type 0 where
  pub by : loads a b id answer
  pub outcome : Outcome M (Unit {0}) a b answer (λ n found. found ≡ H.content a id)
  pub stays : Stays H a b

-- ids, each with the answer that a load of it gave
abbrev pub Asked : Type 0
Asked = List (Id × LoadAnswer)

-- loads with these answers led from the one store to the other
abbrev pub AskedBy : {S : Type 0} → (S → S → Id → LoadAnswer → Type 0) → S → Asked → S → Type 0
AskedBy loads a [] b = b ≡ a
AskedBy {S} loads a (q ∷ qs) b = (mid : S) × (AskedBy loads a qs mid × loads mid b q.0 q.1)

abbrev pub given_by : Id → LoadAnswer → Given
given_by id (Ok (Some payload)) = (id, payload) ∷ []
given_by id (Ok None) = []
given_by id (Err fail) = []

-- the payloads among the answers
abbrev pub given_of : Asked → Given
given_of [] = []
given_of (q ∷ qs) = given_by q.0 q.1 ++ given_of qs

-- what was given, as a content
abbrev pub content_of : Given → Content
content_of given id = find id_cmp id given

-- each id has in the content what was given for it
abbrev pub AgreesWith : Content → Given → Type 0
AgreesWith B [] = Unit {0}
AgreesWith B (g ∷ gs) = (B g.0 ≡ Some g.1) × AgreesWith B gs

-- a walk that stops at a flaw is no failure
abbrev pub fail_of : {T : Type 0} → Result T Halt → Result Unit Fail
fail_of (Ok x) = Ok tt
fail_of (Err (Found flaw)) = Ok tt
fail_of (Err (Failing fail)) = Err fail
