-- Loads with what they promise, one after another.
use Rattle.std.proofs.Common.{◌≡◌, ℕ, ◌≤◌, [], ◌∷◌, sym, ◌∙◌, subst, arith}
use Rattle.std.specs.Prelude.{Ok, Err, Some, None, Option, Vec}
use Rattle.std.specs.declared.alloc.Global.{Global}
use Rattle.block_id.specs.declared.fail.Fail.{Fail}
use Rattle.data_tree.specs.store_outcome.Meanings.{Meanings, Lawful}
use Rattle.data_tree.specs.store_outcome.Outcome.{Outcome, answered, passed}
use Rattle.outside.specs.View.{bytes_of}
use Rattle.data_tree.proofs.Forests.{stays-then, stays-same}
use Rattle.data_tree.specs.store_api.Content.{Id}
use Rattle.data_tree.specs.store_api.Holdings.{Holdings, Stays, Steady}
use Rattle.data_tree.specs.store_api.Loads.{LoadAnswer}
use Rattle.check_walk.specs.Given.{Given, GaveBy, Asked, AskedBy, AgreesWith, IsLoad, given_of}

module _ {S : Type 0} {M : Meanings S} {H : Holdings S} {loads : S → S → Id → LoadAnswer → Type 0} {a b : S} {id : Id} where
  pub load_ok : (payload : Option (Vec ℕ Global)) → loads a b id (Ok (bytes_of payload)) → Outcome M (Unit {0}) a b (Ok payload) (λ n found. bytes_of found ≡ H.content a id) → Stays H a b
      → IsLoad M H loads a b id (Ok (bytes_of payload))
  load_ok payload by outcome stays = record { by = by; outcome = answered outcome (λ n h. h); stays = stays }

  pub load_err : (fail : Fail) → loads a b id (Err fail) → Outcome M {T = Option (Vec ℕ Global)} (Unit {0}) a b (Err fail) (λ n found. bytes_of found ≡ H.content a id) → Stays H a b → IsLoad M H loads a b id (Err fail)
  load_err fail by outcome stays = record { by = by; outcome = passed outcome; stays = stays }

-- ---- what loads gave is what the store holds, over a sound store and without a forgery

module _ {S : Type 0} (M : Meanings S) (H : Holdings S) (laws : Lawful M) (steady : Steady M H) (loads : S → S → Id → LoadAnswer → Type 0) where
  -- loads in a row
  pub record AreTrue (a b : S) (given : Given) : Type 0 where
    pub loaded : M.loaded a b
    pub stays : Stays H a b
    pub true_ : M.sound a → M.forgeries b ≤ M.forgeries a → M.sound b × AgreesWith (H.content a) given

  given_more : (a mid b : S) (id : Id) (answer : LoadAnswer) (asked : Asked) → AreTrue a mid (given_of asked) → IsLoad M H loads mid b id answer → M.sound a → M.forgeries b ≤ M.forgeries a → AgreesWith (H.content a) (given_of ((id, answer) ∷ asked))
  given_more a mid b id (Err fail) asked t l s f = (t.true_ s (let grow = laws.forgeries_grow mid b l.outcome.loaded in omega arith)).1
  given_more a mid b id (Ok None) asked t l s f = (t.true_ s (let grow = laws.forgeries_grow mid b l.outcome.loaded in omega arith)).1
  given_more a mid b id (Ok (Some payload)) asked t l s f =
      let later = laws.forgeries_grow mid b l.outcome.loaded in
      let first = laws.forgeries_grow a mid t.loaded in
      let went = t.true_ s (omega arith) in
      let is : Some payload ≡ H.content mid id = l.outcome.value tt went.0 (omega arith) in
      (sym (is ∙ t.stays.content (steady.sound_told a s) id), went.1)

  pub asked_true : (a b : S) (asked : Asked) → AskedBy (IsLoad M H loads) a asked b → AreTrue a b (given_of asked)
  asked_true a b [] same = record {
    loaded = subst (M.loaded a) (sym same) (laws.same a);
    stays = subst (Stays H a) (sym same) (stays-same H a);
    true_ = λ s f. (subst M.sound (sym same) s, tt);
  }
  asked_true a b (q ∷ qs) (mid, (by, l)) =
      let t = asked_true a mid qs by in
      record {
        loaded = laws.onward a mid b t.loaded l.outcome.loaded;
        stays = stays-then t.stays l.stays;
        true_ = λ s f.
            let later = laws.forgeries_grow mid b l.outcome.loaded in
            let first = laws.forgeries_grow a mid t.loaded in
            (l.outcome.sound (t.true_ s (omega arith)).0 (omega arith), given_more a mid b q.0 q.1 qs t l s f);
      }

-- the loads alone
module _ {S : Type 0} (M : Meanings S) (H : Holdings S) (loads : S → S → Id → LoadAnswer → Type 0) where
  pub gave_by : (a b : S) (given : Given) → GaveBy (IsLoad M H loads) a given b → GaveBy loads a given b
  gave_by a b [] g = g
  gave_by a b (x ∷ xs) (mid, (g, l)) = (mid, (gave_by a mid xs g, l.by))

  pub asked_by : (a b : S) (asked : Asked) → AskedBy (IsLoad M H loads) a asked b → AskedBy loads a asked b
  asked_by a b [] g = g
  asked_by a b (x ∷ xs) (mid, (g, l)) = (mid, (asked_by a mid xs g, l.by))
