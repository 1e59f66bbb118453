-- A line that is read piece by piece.
use Rattle.std.proofs.Common.{◌≡◌, not, ◌<◌, ◌++◌, [], ◌∷◌, ℕ, List, Bool, true, false, MatchBool, Result, Ok, Err, OnErr, length, ap, ◌∙◌, arith, sym, subst, append_assoc, append-nil, IsTrue, refl}
use Rattle.std.specs.declared.option.Option.{Option}
use Rattle.std.specs.declared.option.Option.TheVariants.{None, Some}
use Rattle.outside.specs.Streams.{Ends, WereTaken}
use Rattle.line_io.specs.Lines.{IsUnbroken, kept, kept_on, first_line, first_of}
use Rattle.line_io.specs.Reading.{coming, Line, TookLine, TookAhead, ShowsFirst, ShowsUnended}
use Rattle.line_io.proofs.Cutting.{IsUnbroken-append, kept-append, lines-cut, lines-last}
use Rattle.line_io.proofs.Flow.{coming-append, WereTaken-append, Line-cut, Line-last}

-- the pieces of a line so far, before what was read ahead and what is left
pub record Part (all shown : Option (List ℕ)) (ahead : List ℕ) (rest : Option (List ℕ)) (part : List ℕ) : Type 0 where
  pub shown_is : shown ≡ kept part
  pub unbroken : IsUnbroken part
  pub all_is : all ≡ coming (part ++ ahead) rest

-- more was read ahead
pub Part-ahead : (all shown now : Option (List ℕ)) (ahead next : List ℕ) (rest new : Option (List ℕ)) (part : List ℕ)
    → Part all shown ahead rest part → now ≡ shown → coming next new ≡ coming ahead rest → Part all now next new part
Part-ahead all shown now ahead next rest new part p e f = record {
  shown_is = e ∙ p.shown_is;
  unbroken = p.unbroken;
  all_is = p.all_is ∙ (coming-append part ahead rest ∙ (ap (coming part) (sym f) ∙ sym (coming-append part next new)));
}

pub Part-more : (all shown now : Option (List ℕ)) (ahead : List ℕ) (rest : Option (List ℕ)) (part : List ℕ)
    → Part all shown ahead rest part → IsUnbroken ahead → now ≡ kept_on shown ahead → Part all now [] rest (part ++ ahead)
Part-more all shown now ahead rest part p u e = record {
  shown_is = e ∙ (ap (λ (s : Option (List ℕ)). kept_on s ahead) p.shown_is ∙ kept-append part ahead);
  unbroken = IsUnbroken-append part ahead p.unbroken u;
  all_is = p.all_is ∙ ap (λ l. coming l rest) (sym (append-nil (part ++ ahead)));
}

pub took_cut : (all shown now : Option (List ℕ)) (ahead next more : List ℕ) (rest : Option (List ℕ)) (part : List ℕ)
    → Part all shown ahead rest part → IsUnbroken more → ahead ≡ more ++ 10 ∷ next → now ≡ kept_on shown more → TookLine all now (coming next rest)
took_cut all shown now ahead next more rest part p u e f = (
  part ++ more,
  f ∙ (ap (λ (s : Option (List ℕ)). kept_on s more) p.shown_is ∙ kept-append part more),
  subst (λ (a : Option (List ℕ)). Line a (part ++ more) (coming next rest))
      (sym (p.all_is ∙ (ap (λ l. coming (part ++ l) rest) e ∙ ap (λ l. coming l rest) (sym (append_assoc part more (10 ∷ next))))))
      (Line-cut (part ++ more) next rest (IsUnbroken-append part more p.unbroken u)),
)

pub took_last : (all shown : Option (List ℕ)) (ahead : List ℕ) (rest : Option (List ℕ)) (part : List ℕ)
    → Part all shown ahead rest part → 0 < length part → Ends (coming ahead rest) → TookLine all shown (coming ahead rest)
took_last all shown ahead rest [] p h e = absurd (omega arith)
took_last all shown ahead rest (byte ∷ line) p h e = (
  byte ∷ line,
  p.shown_is,
  subst (λ (a : Option (List ℕ)). Line a (byte ∷ line) (coming ahead rest)) (sym (p.all_is ∙ coming-append (byte ∷ line) ahead rest))
      (Line-last byte line (coming ahead rest) p.unbroken e),
)

pub at_true : (b : Bool) (P Q : Type 0) → b ≡ true → MatchBool b P Q → P
at_true b P Q e m = subst (λ (b : Bool). MatchBool b P Q) e m

pub at_false : (b : Bool) (P Q : Type 0) → b ≡ false → MatchBool b P Q → Q
at_false b P Q e m = subst (λ (b : Bool). MatchBool b P Q) e m

-- what ends still ends with fewer bytes in front
pub Ends-less : (ahead next : List ℕ) (rest : Option (List ℕ)) → next ≡ [] → Ends (coming ahead rest) → Ends (coming next rest)
Ends-less ahead next None e h = tt
Ends-less [] next (Some rest) e h = ap (λ (l : List ℕ). l ++ rest) e ∙ h
Ends-less (byte ∷ ahead) next (Some rest) e h = absurd (cc)

pub Ends-rest : (ahead : List ℕ) (rest : Option (List ℕ)) → Ends (coming ahead rest) → Ends rest
Ends-rest ahead None h = tt
Ends-rest [] (Some rest) h = h
Ends-rest (byte ∷ ahead) (Some rest) h = absurd (cc)

pub at_not : (b : Bool) (P Q : Type 0) → IsTrue (not b) → MatchBool b P Q → Q
at_not true P Q e m = absurd (cc)
at_not false P Q e m = m

-- the pieces so far, and what was read ahead, are what was read ahead at first and what was taken since
pub record Taken (first ahead : List ℕ) (old rest : Option (List ℕ)) (part : List ℕ) : Type 0 where
  pub taken : List ℕ
  pub gave : WereTaken old rest taken
  pub same : first ++ taken ≡ part ++ ahead

-- more was read ahead
pub Taken-ahead : (first ahead next part : List ℕ) (old rest new : Option (List ℕ)) → Taken first ahead old rest part → TookAhead ahead rest new next
    → Taken first next old new part
Taken-ahead first ahead next part old rest new t a = record {
  taken = t.taken ++ a.0;
  gave = WereTaken-append old rest new t.taken a.0 t.gave a.1;
  same = sym (append_assoc first t.taken a.0) ∙ (ap (λ (l : List ℕ). l ++ a.0) t.same ∙ (append_assoc part ahead a.0 ∙ ap (λ (l : List ℕ). part ++ l) (sym a.2)));
}

pub Taken-more : (first ahead next part : List ℕ) (old rest : Option (List ℕ)) → Taken first ahead old rest part → next ≡ [] → Taken first next old rest (part ++ ahead)
Taken-more first ahead next part old rest t e = record {
  taken = t.taken;
  gave = t.gave;
  same = t.same ∙ (sym (append-nil (part ++ ahead)) ∙ ap (λ (l : List ℕ). (part ++ ahead) ++ l) (sym e));
}

-- the line that a newline ended is the first
pub shown_cut : (first ahead next part more : List ℕ) (all shown now old rest : Option (List ℕ)) → Part all shown ahead rest part → Taken first ahead old rest part
    → IsUnbroken more → ahead ≡ more ++ 10 ∷ next → now ≡ kept_on shown more → ShowsFirst first old rest now
shown_cut first ahead next part more all shown now old rest p t u e f = (
  t.taken,
  t.gave,
  f ∙ (ap (λ (s : Option (List ℕ)). kept_on s more) p.shown_is ∙ (kept-append part more ∙ ap kept (sym
      (ap first_line (t.same ∙ (ap (λ (l : List ℕ). part ++ l) e ∙ sym (append_assoc part more (10 ∷ next))))
      ∙ ap first_of (lines-cut (part ++ more) next (IsUnbroken-append part more p.unbroken u)))))),
)

first_whole : (part : List ℕ) → IsUnbroken part → first_line part ≡ part
first_whole [] u = refl
first_whole (byte ∷ line) u = ap first_of (lines-last byte line u)

-- the pieces so far are the first line, where nothing is read ahead
pub shown_whole : (first ahead before part : List ℕ) (all shown now old rest left : Option (List ℕ)) → Part all shown before left part → Taken first ahead old rest part
    → ahead ≡ [] → now ≡ shown → ShowsFirst first old rest now
shown_whole first ahead before part all shown now old rest left p t e f = (
  t.taken,
  t.gave,
  f ∙ (p.shown_is ∙ ap kept (sym (ap first_line (t.same ∙ (ap (λ (l : List ℕ). part ++ l) e ∙ append-nil part)) ∙ first_whole part p.unbroken))),
)

-- no line ends in the pieces so far, where nothing is read ahead
pub unended_whole : (first ahead before part : List ℕ) (all shown now old rest left : Option (List ℕ)) → Part all shown before left part → Taken first ahead old rest part
    → ahead ≡ [] → now ≡ shown → ShowsUnended first old rest now
unended_whole first ahead before part all shown now old rest left p t e f =
    let whole : part ≡ first ++ t.taken = sym (t.same ∙ (ap (λ (l : List ℕ). part ++ l) e ∙ append-nil part)) in
    (t.taken, t.gave, subst IsUnbroken whole p.unbroken, f ∙ (p.shown_is ∙ ap kept whole))

pub on_err : {T : Type 0} {E : Type 0} (result : Result T E) (P : Type 0) → P → OnErr result P
on_err (Ok x) P p = tt
on_err (Err e) P p = p
