-- Walks that stop.
use Rattle.std.proofs.Common.{◌≡◌, ℕ, ◌<◌, List, [], ◌∷◌, ◌++◌, refl, sym, ◌∙◌, ap, subst, append_assoc}
use Rattle.std.specs.Prelude.{map, reverse, Some, Ok, Err, Result, IfErr}
use Rattle.std.proofs.lemmas.List.{map-append, reverse-append}
use Rattle.data_tree.proofs.Making.{alone-join}
use Rattle.data_tree.specs.store_api.Content.{Id, Content}
use Rattle.data_tree.specs.store_api.Loads.{LoadAnswer}
use Rattle.check_walk.specs.declared.flaw.Flaw.{Flaw}
use Rattle.check_walk.specs.declared.flaw.Halt.{Halt}
use Rattle.check_walk.specs.declared.flaw.Halt.TheVariants.{Found, Failing}
use Rattle.check_walk.specs.Fronts.{FrontState}
use Rattle.check_walk.specs.Given.{Given, GaveBy, Asked, AskedBy, AgreesWith, given_by, given_of}
use Rattle.check_walk.specs.Marks.{MarkList, MarkedOne, MarkedAll}
use Rattle.check_walk.specs.Walks.{Walked}
use Rattle.check_walk.specs.Halts.{OnFound, Halted}
use Rattle.check_walk.proofs.Chains.{agrees-parts, marked-apart, marked-then, marked-one, marked-none}

pub if_err : {T E : Type 0} (r : Result T E) {P Q : E → Type 0} → ((e : E) → P e → Q e) → IfErr r P → IfErr r Q
if_err (Ok x) f h = tt
if_err (Err e) f h = f e h

-- ---- what was asked

-- what was given was asked for
pub asked_of : Given → Asked
asked_of given = map (λ g. (g.0, Ok (Some g.1))) given

pub gave-asked : {S : Type 0} (loads : S → S → Id → LoadAnswer → Type 0) (a b : S) (given : Given) → GaveBy loads a given b → AskedBy loads a (asked_of given) b
unfolding asked_of
gave-asked loads a b [] g = g
gave-asked loads a b (x ∷ xs) (mid, (g, l)) = (mid, (gave-asked loads a mid xs g, l))

pub asked-then : {S : Type 0} (loads : S → S → Id → LoadAnswer → Type 0) (a b c : S) (xs ys : Asked) → AskedBy loads a xs b → AskedBy loads b ys c → AskedBy loads a (ys ++ xs) c
asked-then loads a b c xs [] f g = subst (λ s. AskedBy loads a xs s) (sym g) f
asked-then loads a b c xs (y ∷ ys) f (mid, (g, l)) = (mid, (asked-then loads a b mid xs ys f g, l))

pub asked-ids : (given : Given) → map (λ q. q.0) (asked_of given) ≡ map (λ g. g.0) given
unfolding asked_of
asked-ids [] = refl
asked-ids (x ∷ xs) = ap (λ ids. x.0 ∷ ids) (asked-ids xs)

pub asked-again : (given : Given) → given_of (asked_of given) ≡ given
unfolding asked_of
asked-again [] = refl
asked-again (x ∷ xs) = ap (λ gs. x ∷ gs) (asked-again xs)

pub given-then : (xs ys : Asked) → given_of (ys ++ xs) ≡ given_of ys ++ given_of xs
given-then xs [] = refl
given-then xs (y ∷ ys) = ap (λ gs. given_by y.0 y.1 ++ gs) (given-then xs ys) ∙ sym (append_assoc (given_by y.0 y.1) (given_of ys) (given_of xs))

on_found : (halt : Halt) {P Q : Flaw → Type 0} → ((flaw : Flaw) → P flaw → Q flaw) → OnFound halt P → OnFound halt Q
on_found (Found flaw) f h = f flaw h
on_found (Failing fail) f h = tt

module _ {S : Type 0} {loads : S → S → Id → LoadAnswer → Type 0} {owner : ℕ} where
  -- a walk, and one that stops
  pub halted_then : {a b c : S} {old mid new : MarkList} {f g : FrontState} {X : Content → List ℕ → List Id → Type 0} {P : List ℕ → Type 0} {halt : Halt} {Why Then : Content → Flaw → Type 0} → 0 < owner
      → Walked loads owner a b old mid f g X P → Halted loads owner b c mid new halt Why
      → ((C : Content) (w : List ℕ) (ids : List Id) (flaw : Flaw) → P w → X C w ids → MarkedAll old mid ids owner → Why C flaw → Then C flaw)
      → Halted loads owner a c old new halt Then
  halted_then {a = a} {b = b} {c = c} {halt = halt} some one two why = record {
    asked = two.asked ++ asked_of one.given;
    by = asked-then loads a b c (asked_of one.given) two.asked (gave-asked loads a b one.given one.gave) two.by;
    ids = one.ids ++ two.ids;
    once = map-append (λ (q : Id × LoadAnswer). q.0) two.asked (asked_of one.given)
        ∙ (ap (λ z. z ++ map (λ q. q.0) (asked_of one.given)) two.once
        ∙ (ap (λ z. reverse two.ids ++ z) (asked-ids one.given ∙ one.once) ∙ sym (reverse-append one.ids two.ids)));
    alone = alone-join one.ids two.ids one.alone two.alone (marked-apart some one.marked two.marked);
    marked = marked-then some one.marked two.marked;
    why = λ C agrees.
        let both = subst (AgreesWith C) (given-then (asked_of one.given) two.asked ∙ ap (λ gs. given_of two.asked ++ gs) (asked-again one.given)) agrees in
        let parts = agrees-parts C (given_of two.asked) one.given both in
        on_found halt (λ flaw h. why C one.bytes one.ids flaw one.fact (one.hold C parts.1) one.marked h) (two.why C parts.0);
  }

  -- a walk that found a flaw at its end
  pub halted_here : {a b : S} {old new : MarkList} {f g : FrontState} {X : Content → List ℕ → List Id → Type 0} {P : List ℕ → Type 0} {halt : Halt} {Why : Content → Flaw → Type 0} → Walked loads owner a b old new f g X P
      → ((C : Content) (w : List ℕ) (ids : List Id) → P w → X C w ids → OnFound halt (Why C)) → Halted loads owner a b old new halt Why
  halted_here {a = a} {b = b} one why = record {
    asked = asked_of one.given;
    by = gave-asked loads a b one.given one.gave;
    ids = one.ids;
    once = asked-ids one.given ∙ one.once;
    alone = one.alone;
    marked = one.marked;
    why = λ C agrees. why C one.bytes one.ids one.fact (one.hold C (subst (AgreesWith C) (asked-again one.given) agrees));
  }

  -- the same, said in other words
  pub halted_as : {a b : S} {old new : MarkList} {halt : Halt} {Why Then : Content → Flaw → Type 0} → Halted loads owner a b old new halt Why → ((C : Content) (flaw : Flaw) → Why C flaw → Then C flaw) → Halted loads owner a b old new halt Then
  halted_as {halt = halt} one why = record {
    asked = one.asked;
    by = one.by;
    ids = one.ids;
    once = one.once;
    alone = one.alone;
    marked = one.marked;
    why = λ C agrees. on_found halt (why C) (one.why C agrees);
  }

  -- nothing was asked for
  pub halted_none : {a : S} {old new : MarkList} {halt : Halt} {Why : Content → Flaw → Type 0} → new ≡ old → ((C : Content) → OnFound halt (Why C)) → Halted loads owner a a old new halt Why
  halted_none {old = old} same why = record {
    asked = [];
    by = refl;
    ids = [];
    once = refl;
    alone = tt;
    marked = subst (λ z. MarkedAll old z [] owner) (sym same) (marked-none old owner);
    why = λ C agrees. why C;
  }

  -- one block was asked for
  pub halted_one : {a b : S} {old new : MarkList} {halt : Halt} {Why : Content → Flaw → Type 0} (id : Id) (answer : LoadAnswer) → MarkedOne old new id owner → loads a b id answer
      → ((C : Content) → AgreesWith C (given_by id answer ++ []) → OnFound halt (Why C)) → Halted loads owner a b old new halt Why
  halted_one {a = a} id answer one load why = record {
    asked = (id, answer) ∷ [];
    by = (a, (refl, load));
    ids = id ∷ [];
    once = refl;
    alone = (refl, tt);
    marked = marked-one one;
    why = why;
  }
