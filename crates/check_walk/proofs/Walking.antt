-- Walks, one after another.
use Rattle.std.proofs.Common.{◌≡◌, ℕ, ◌<◌, List, [], ◌∷◌, ◌++◌, refl, ◌∙◌}
use Rattle.std.specs.Prelude.{Ok, Err, Result, IfOk, Some, length}
use Rattle.data_tree.specs.data_nodes.Layout.{NodeText, IsNode}
use Rattle.data_tree.specs.Trees.{NoDoubles}
use Rattle.data_tree.proofs.Making.{alone-join}
use Rattle.data_tree.specs.store_api.Content.{Id, Content}
use Rattle.data_tree.specs.store_api.Loads.{LoadAnswer}
use Rattle.check_walk.specs.Fronts.{FrontState, joined_front}
use Rattle.check_walk.specs.Marks.{MarkList, MarkedOne}
use Rattle.check_walk.specs.Walks.{Walked, IsNodeAt}
use Rattle.check_walk.proofs.Chains.{gave-then, agrees-parts, once-then, marked-apart, marked-then, marked-one, marked-none, front-then, front-none}

pub if_ok : {T E : Type 0} (r : Result T E) {P Q : T → Type 0} → ((x : T) → P x → Q x) → IfOk r P → IfOk r Q
if_ok (Ok x) f h = f x h
if_ok (Err e) f h = tt

module _ {S : Type 0} {loads : S → S → Id → LoadAnswer → Type 0} {owner : ℕ} where
  -- one walk, and another
  pub walked_then : {a b c : S} {old mid new : MarkList} {f g h : FrontState} {X Y Z : Content → List ℕ → List Id → Type 0} {P Q R : List ℕ → Type 0} → 0 < owner
      → Walked loads owner a b old mid f g X P → Walked loads owner b c mid new g h Y Q
      → ((B : Content) (w v : List ℕ) (ids jds : List Id) → P w → Q v → X B w ids → Y B v jds → Z B (w ++ v) (ids ++ jds)) → ((w v : List ℕ) → P w → Q v → R (w ++ v))
      → Walked loads owner a c old new f h Z R
  walked_then {a = a} {b = b} {c = c} {f = f} {g = g} {h = h} some one two hold fact = record {
    given = two.given ++ one.given;
    gave = gave-then loads a b c one.given two.given one.gave two.gave;
    bytes = one.bytes ++ two.bytes;
    ids = one.ids ++ two.ids;
    once = once-then one.given two.given one.ids two.ids one.once two.once;
    hold = λ B agrees. let parts = agrees-parts B two.given one.given agrees in hold B one.bytes two.bytes one.ids two.ids one.fact two.fact (one.hold B parts.1) (two.hold B parts.0);
    fact = fact one.bytes two.bytes one.fact two.fact;
    alone = alone-join one.ids two.ids one.alone two.alone (marked-apart some one.marked two.marked);
    marked = marked-then some one.marked two.marked;
    most = two.most ∙ one.most;
    kept = front-then f g h one.bytes two.bytes one.most one.kept two.kept;
  }

  -- the same walk, said in other words
  pub walked_as : {a b : S} {old new : MarkList} {f g : FrontState} {X Y : Content → List ℕ → List Id → Type 0} {P Q : List ℕ → Type 0} → Walked loads owner a b old new f g X P
      → ((B : Content) (w : List ℕ) (ids : List Id) → NoDoubles ids → P w → X B w ids → Y B w ids) → ((w : List ℕ) → P w → Q w) → Walked loads owner a b old new f g Y Q
  walked_as one hold fact = record {
    given = one.given;
    gave = one.gave;
    bytes = one.bytes;
    ids = one.ids;
    once = one.once;
    hold = λ B agrees. hold B one.bytes one.ids one.alone one.fact (one.hold B agrees);
    fact = fact one.bytes one.fact;
    alone = one.alone;
    marked = one.marked;
    most = one.most;
    kept = one.kept;
  }

  -- no walk at all
  pub walked_none : {a : S} {old : MarkList} {f : FrontState} {X : Content → List ℕ → List Id → Type 0} {P : List ℕ → Type 0} → ((B : Content) → X B [] []) → P [] → Walked loads owner a a old old f f X P
  walked_none {old = old} {f = f} hold fact = record {
    given = [];
    gave = refl;
    bytes = [];
    ids = [];
    once = refl;
    hold = λ B agrees. hold B;
    fact = fact;
    alone = tt;
    marked = marked-none old owner;
    most = refl;
    kept = front-none f;
  }

  -- bytes of a node that was loaded
  pub walked_bytes : {a : S} {old : MarkList} {f g : FrontState} {X : Content → List ℕ → List Id → Type 0} {P : List ℕ → Type 0} (w : List ℕ) → ((B : Content) → X B w []) → P w
      → g.most ≡ f.most → g.bytes ≡ joined_front f w → Walked loads owner a a old old f g X P
  walked_bytes {old = old} w hold fact most kept = record {
    given = [];
    gave = refl;
    bytes = w;
    ids = [];
    once = refl;
    hold = λ B agrees. hold B;
    fact = fact;
    alone = tt;
    marked = marked-none old owner;
    most = most;
    kept = kept;
  }

  -- one block is loaded
  pub walked_node : {a b : S} {old new : MarkList} (f : FrontState) (payload : ℕ) (id text : List ℕ) (node : NodeText) → MarkedOne old new id owner → loads a b id (Ok (Some text)) → IsNode text node → length text ≡ payload
      → Walked loads owner a b old new f f (IsNodeAt payload id node) (λ w. w ≡ [])
  walked_node {a = a} f payload id text node one load is sized = record {
    given = (id, text) ∷ [];
    gave = (a, (refl, load));
    bytes = [];
    ids = id ∷ [];
    once = refl;
    hold = λ B agrees. record { text = text; there = agrees.0; is = is; sized = sized; none = refl; one = refl };
    fact = refl;
    alone = (refl, tt);
    marked = marked-one one;
    most = refl;
    kept = front-none f;
  }
