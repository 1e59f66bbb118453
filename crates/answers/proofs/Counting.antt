-- The summary of one answer more.
use Rattle.std.proofs.Common.{◌≡◌, ◌+◌, ℕ, List, ◌∷◌, length, refl, sym, ap, ◌∙◌, arith, cond}
use Rattle.std.proofs.lemmas.List.Sums.{sum_by-cons}
use Rattle.std.specs.List.{count_by, sum_by}
use Rattle.fs_model.specs.declared.reply.Reply.{Reply}
use Rattle.fs_model.specs.declared.reply.Reply.TheVariants.{Done, Rows, Info, Target, Content, Error}
use Rattle.answers.specs.declared.answer.Answer.{Answer}
use Rattle.answers.specs.declared.answer.Answer.TheVariants.{Reply as Replied, Memory, Spent, FaultDirectory, FaultState, Violation, Refused}
use Rattle.answers.specs.Summaries.{Counts, with_other, is_reply, is_error, is_other, read_len, summary_of}

-- the counts with an answer more
abbrev pub one_more : Answer → Counts → Counts
one_more (Replied (Error error)) c = record c { lines = c.lines + 1; errors = c.errors + 1 }
one_more (Replied (Content bytes)) c = record c { lines = c.lines + 1; replies = c.replies + 1; read = c.read + length bytes }
one_more (Replied Done) c = record c { lines = c.lines + 1; replies = c.replies + 1 }
one_more (Replied (Rows rows)) c = record c { lines = c.lines + 1; replies = c.replies + 1 }
one_more (Replied (Info attr size)) c = record c { lines = c.lines + 1; replies = c.replies + 1 }
one_more (Replied (Target target)) c = record c { lines = c.lines + 1; replies = c.replies + 1 }
one_more Memory c = with_other c
one_more Spent c = with_other c
one_more FaultDirectory c = with_other c
one_more FaultState c = with_other c
one_more (Violation why) c = with_other c
one_more Refused c = with_other c

made : (a b c d e f g h i j : ℕ) → a ≡ f → b ≡ g → c ≡ h → d ≡ i → e ≡ j
    → (let x : Counts = record { lines = a; replies = b; errors = c; other = d; read = e } in x) ≡ record { lines = f; replies = g; errors = h; other = i; read = j }
made a b c d e f g h i j p q r s t = cc

summary-cons : (a : Answer) (rest : List Answer) (lines replies errors other read : ℕ)
    → lines ≡ length rest + 1 → replies ≡ cond (is_reply a) 1 0 + count_by is_reply rest → errors ≡ cond (is_error a) 1 0 + count_by is_error rest
    → other ≡ cond (is_other a) 1 0 + count_by is_other rest → read ≡ read_len a + sum_by read_len rest
    → record { lines = lines; replies = replies; errors = errors; other = other; read = read } ≡ summary_of (a ∷ rest)
unfolding summary_of
summary-cons a rest lines replies errors other read p q r s t =
    made _ _ _ _ _ _ _ _ _ _ (p ∙ add_suc rest)
    (q ∙ sym (sum_by-cons (λ x. cond (is_reply x) 1 0) a rest)) (r ∙ sym (sum_by-cons (λ x. cond (is_error x) 1 0) a rest))
    (s ∙ sym (sum_by-cons (λ x. cond (is_other x) 1 0) a rest)) (t ∙ sym (sum_by-cons read_len a rest))
  where
    add_suc : (rest : List Answer) → length rest + 1 ≡ length (a ∷ rest)
    add_suc rest = omega arith

more : (a : Answer) (rest : List Answer) → one_more a (summary_of rest) ≡ summary_of (a ∷ rest)
unfolding summary_of
more (Replied (Error error)) rest = summary-cons (Replied (Error error)) rest _ _ _ _ _ (omega arith) (omega arith) (omega arith) (omega arith) (omega arith)
more (Replied (Content bytes)) rest = summary-cons (Replied (Content bytes)) rest _ _ _ _ _ (omega arith) (omega arith) (omega arith) (omega arith) (omega arith)
more (Replied Done) rest = summary-cons (Replied Done) rest _ _ _ _ _ (omega arith) (omega arith) (omega arith) (omega arith) (omega arith)
more (Replied (Rows rows)) rest = summary-cons (Replied (Rows rows)) rest _ _ _ _ _ (omega arith) (omega arith) (omega arith) (omega arith) (omega arith)
more (Replied (Info attr size)) rest = summary-cons (Replied (Info attr size)) rest _ _ _ _ _ (omega arith) (omega arith) (omega arith) (omega arith) (omega arith)
more (Replied (Target target)) rest = summary-cons (Replied (Target target)) rest _ _ _ _ _ (omega arith) (omega arith) (omega arith) (omega arith) (omega arith)
more Memory rest = summary-cons Memory rest _ _ _ _ _ (omega arith) (omega arith) (omega arith) (omega arith) (omega arith)
more Spent rest = summary-cons Spent rest _ _ _ _ _ (omega arith) (omega arith) (omega arith) (omega arith) (omega arith)
more FaultDirectory rest = summary-cons FaultDirectory rest _ _ _ _ _ (omega arith) (omega arith) (omega arith) (omega arith) (omega arith)
more FaultState rest = summary-cons FaultState rest _ _ _ _ _ (omega arith) (omega arith) (omega arith) (omega arith) (omega arith)
more (Violation why) rest = summary-cons (Violation why) rest _ _ _ _ _ (omega arith) (omega arith) (omega arith) (omega arith) (omega arith)
more Refused rest = summary-cons Refused rest _ _ _ _ _ (omega arith) (omega arith) (omega arith) (omega arith) (omega arith)

-- the counts now are those before with this answer more
pub counted : (a b : Answer) (old now : Counts) (answers : List Answer) → a ≡ b → now ≡ one_more b old → old ≡ summary_of answers → now ≡ summary_of (a ∷ answers)
counted a b old now answers e f g = f ∙ (ap (one_more b) g ∙ (more b answers ∙ ap (λ (x : Answer). summary_of (x ∷ answers)) (sym e)))

-- the same of an answer that is no reply
pub counted_other : (a : Answer) (old now : Counts) (answers : List Answer) → ((reply : Reply) → ¬ (a ≡ Replied reply)) → now ≡ with_other old → old ≡ summary_of answers
    → now ≡ summary_of (a ∷ answers)
counted_other (Replied reply) old now answers none f g = absurd (none reply refl)
counted_other Memory old now answers none f g = counted Memory Memory old now answers refl f g
counted_other Spent old now answers none f g = counted Spent Spent old now answers refl f g
counted_other FaultDirectory old now answers none f g = counted FaultDirectory FaultDirectory old now answers refl f g
counted_other FaultState old now answers none f g = counted FaultState FaultState old now answers refl f g
counted_other (Violation why) old now answers none f g = counted (Violation why) (Violation why) old now answers refl f g
counted_other Refused old now answers none f g = counted Refused Refused old now answers refl f g
