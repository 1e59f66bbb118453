-- Texts of answers can be read in one way only.
use Rattle.std.proofs.Common.{◌≡◌, ℕ, zero, suc, ◌+◌, ◌*◌, ◌^◌, ◌<◌, Bool, true, ◌||◌, ◌==◌, List, [], ◌∷◌, ◌++◌, length, get_or, drop, slice_index, Some, refl, sym, ap, ◌∙◌, subst, arith, append_assoc, codes}
use Rattle.std.specs.Fmt.{decimal}
use Rattle.std.specs.declared.option.Option.{Option}
use Rattle.std.proofs.lemmas.Fmt.{decimal_injective}
use Rattle.std.proofs.Math.Seq.{take-append_seam, drop-append_seam}
use Rattle.std.proofs.Common.{take}
use Rattle.block_id.specs.Name.{name_of, id_in}
use Rattle.block_id.proofs.Names.{id_in-name_of, length-name_of}
use Rattle.block_id.specs.declared.fail.Why.{Why}
use Rattle.block_id.specs.declared.fail.Why.TheVariants.{Missing, BadLength, BadPrefix, NotOpened, BadRecord, WrongId, ForeignClient, OldVersion, AheadVersion, Structure, OldFormat}
use Rattle.fs_model.specs.declared.reply.Reply.{Reply}
use Rattle.fs_model.specs.declared.reply.Reply.TheVariants.{Done, Rows, Info, Target, Content, Error}
use Rattle.script_text.specs.Shown.{AreBytes}
use Rattle.script_text.specs.Texts.{line, word}
use Rattle.script_text.proofs.OneReading.{ends, free_decimal, third as third_of_reply, third_is as third_is_of_reply, reply_same}
use Rattle.answers.specs.declared.answer.Answer.{Answer}
use Rattle.answers.specs.declared.answer.Answer.TheVariants.{Reply as Replied, Memory, Spent, FaultDirectory, FaultState, Violation, Refused}
use Rattle.answers.specs.Shown.{IsWhyShown, IsShown, HasOneReading}
use Rattle.answers.specs.Texts.{why_text, text_of_answer, texts_of}

-- ids

byte_at : (xs : List ℕ) → AreBytes xs → (i : ℕ) → slice_index xs i < 256
byte_at [] h i = omega arith
byte_at (x ∷ xs) h zero = h.0
byte_at (x ∷ xs) h (suc i) = byte_at xs h.1 i

name_same : (a b : List ℕ) → length a ≡ 16 → length b ≡ 16 → AreBytes a → AreBytes b → name_of a ≡ name_of b → a ≡ b
name_same a b la lb fa fb e = unwrapped (sym (id_in-name_of a la (byte_at a fa)) ∙ ap id_in e ∙ id_in-name_of b lb (byte_at b fb))
  where
    unwrapped : ◌≡◌ {A = Option (List ℕ)} (Some a) (Some b) → a ≡ b
    unwrapped h = cc

-- the front, where it is as long as another, and what follows
front_same : (a b r s : List ℕ) → length a ≡ length b → a ++ r ≡ b ++ s → (a ≡ b) × (r ≡ s)
front_same a b r s l e = (
  sym (take-append_seam a r) ∙ (ap (take (length a)) e ∙ (ap (λ (n : ℕ). take n (b ++ s)) l ∙ take-append_seam b s)),
  sym (drop-append_seam a r) ∙ (ap (drop (length a)) e ∙ (ap (λ (n : ℕ). drop n (b ++ s)) l ∙ drop-append_seam b s)),
)

id_same : (a b r s : List ℕ) → length a ≡ 16 → length b ≡ 16 → AreBytes a → AreBytes b → name_of a ++ 10 ∷ r ≡ name_of b ++ 10 ∷ s → (a ≡ b) × (r ≡ s)
id_same a b r s la lb fa fb e =
    let p = front_same (name_of a) (name_of b) (10 ∷ r) (10 ∷ s) (length-name_of a la ∙ sym (length-name_of b lb)) e in
    (name_same a b la lb fa fb p.0, ap (drop 1) p.1)

-- numbers

number_same : (m n : ℕ) (r s : List ℕ) → m < 2 ^ 64 → n < 2 ^ 64 → decimal m ++ 10 ∷ r ≡ decimal n ++ 10 ∷ s → (m ≡ n) × (r ≡ s)
number_same m n r s fm fn e =
    let p = ends 10 (decimal m) (decimal n) r s (free_decimal 10 m (omega arith) fm) (free_decimal 10 n (omega arith) fn) e in
    (decimal_injective m n fm fn p.0, p.1)

pair_same : (k m l n : ℕ) (r s : List ℕ) → k < 2 ^ 64 → m < 2 ^ 64 → l < 2 ^ 64 → n < 2 ^ 64
    → (decimal k ++ word (decimal m)) ++ 10 ∷ r ≡ (decimal l ++ word (decimal n)) ++ 10 ∷ s → (k ≡ l) × (m ≡ n) × (r ≡ s)
pair_same k m l n r s fk fm fl fn e =
    let whole = sym (append_assoc (decimal k) (32 ∷ decimal m) (10 ∷ r)) ∙ e ∙ append_assoc (decimal l) (32 ∷ decimal n) (10 ∷ s) in
    let p = ends 32 (decimal k) (decimal l) (decimal m ++ 10 ∷ r) (decimal n ++ 10 ∷ s) (free_decimal 32 k (omega arith) fk) (free_decimal 32 l (omega arith) fl) whole in
    let q = number_same m n r s fm fn p.1 in
    (decimal_injective k l fk fl p.0, q.0, q.1)

-- what is wrong with a block

-- the first and the fifth byte tell which it is
abbrev mark : List ℕ → ℕ
mark text = 256 * get_or text 0 0 + get_or text 4 0

abbrev mark_of : Why → ℕ
mark_of Missing = 256 * 109 + 105
mark_of BadLength = 256 * 98 + 108
mark_of BadPrefix = 256 * 98 + 112
mark_of NotOpened = 256 * 110 + 111
mark_of BadRecord = 256 * 98 + 114
mark_of (WrongId id) = 256 * 119 + 103
mark_of (ForeignClient client) = 256 * 102 + 105
mark_of (OldVersion known found) = 256 * 111 + 118
mark_of (AheadVersion known found) = 256 * 97 + 100
mark_of Structure = 256 * 115 + 99
mark_of OldFormat = 256 * 111 + 102

mark_is : (x : Why) (r : List ℕ) → mark (why_text x ++ r) ≡ mark_of x
mark_is Missing r = refl
mark_is BadLength r = refl
mark_is BadPrefix r = refl
mark_is NotOpened r = refl
mark_is BadRecord r = refl
mark_is (WrongId id) r = refl
mark_is (ForeignClient client) r = refl
mark_is (OldVersion known found) r = refl
mark_is (AheadVersion known found) r = refl
mark_is Structure r = refl
mark_is OldFormat r = refl

mark_same : (x y : Why) (r s : List ℕ) → why_text x ++ r ≡ why_text y ++ s → mark_of x ≡ mark_of y
mark_same x y r s e = sym (mark_is x r) ∙ (ap mark e ∙ mark_is y s)

why_same : (x y : Why) (r s : List ℕ) → IsWhyShown x → IsWhyShown y → why_text x ++ 10 ∷ r ≡ why_text y ++ 10 ∷ s → (x ≡ y) × (r ≡ s)
why_same Missing Missing r s fx fy e = (refl, ap (drop 8) e)
why_same BadLength BadLength r s fx fy e = (refl, ap (drop 11) e)
why_same BadPrefix BadPrefix r s fx fy e = (refl, ap (drop 11) e)
why_same NotOpened NotOpened r s fx fy e = (refl, ap (drop 11) e)
why_same BadRecord BadRecord r s fx fy e = (refl, ap (drop 11) e)
why_same (WrongId a) (WrongId b) r s fx fy e =
    let p = id_same a.0 b.0 r s fx.0 fy.0 fx.1 fy.1 (ap (drop 9) e) in
    ((λ i. WrongId (record { 0 = p.0 i })), p.1)
why_same (ForeignClient a) (ForeignClient b) r s fx fy e =
    let p = number_same a b r s fx fy (ap (drop 15) e) in
    (ap ForeignClient p.0, p.1)
why_same (OldVersion k m) (OldVersion l n) r s fx fy e =
    let p = pair_same k m l n r s fx.0 fx.1 fy.0 fy.1 (ap (drop 12) e) in
    ((λ i. OldVersion (p.0 i) (p.1 i)), p.2)
why_same (AheadVersion k m) (AheadVersion l n) r s fx fy e =
    let p = pair_same k m l n r s fx.0 fx.1 fy.0 fy.1 (ap (drop 14) e) in
    ((λ i. AheadVersion (p.0 i) (p.1 i)), p.2)
why_same Structure Structure r s fx fy e = (refl, ap (drop 10) e)
why_same OldFormat OldFormat r s fx fy e = (refl, ap (drop 11) e)
why_same x y r s fx fy e = absurd (let t : mark_of x ≡ mark_of y = mark_same x y (10 ∷ r) (10 ∷ s) e in omega arith)

-- one answer, and then more

-- the third byte tells which answer it is, but for the two faults
abbrev third : Answer → ℕ
third (Replied reply) = third_of_reply reply
third Memory = 109
third Spent = 101
third FaultDirectory = 117
third FaultState = 117
third (Violation why) = 111
third Refused = 102

third_is : (x : Answer) (r : List ℕ) → get_or (text_of_answer x ++ r) 2 0 ≡ third x
unfolding text_of_answer
third_is (Replied reply) r = third_is_of_reply reply r
third_is Memory r = refl
third_is Spent r = refl
third_is FaultDirectory r = refl
third_is FaultState r = refl
third_is (Violation why) r = refl
third_is Refused r = refl

third_same : (x y : Answer) (r s : List ℕ) → text_of_answer x ++ r ≡ text_of_answer y ++ s → third x ≡ third y
third_same x y r s e = sym (third_is x r) ∙ (ap (λ (z : List ℕ). get_or z 2 0) e ∙ third_is y s)

abbrev is_other : ℕ → Bool
is_other n = n == 0 || n == 109 || n == 101 || n == 117 || n == 111 || n == 102

-- no reply has the third byte of another answer, nor none
apart : (x : Reply) (n : ℕ) → is_other n ≡ true → third_of_reply x ≡ n → ⊥
apart Done n h e = let f : is_other 10 ≡ true = subst (λ (m : ℕ). is_other m ≡ true) (sym e) h in absurd (cc f)
apart (Rows rows) n h e = let f : is_other 115 ≡ true = subst (λ (m : ℕ). is_other m ≡ true) (sym e) h in absurd (cc f)
apart (Info attr size) n h e = let f : is_other 97 ≡ true = subst (λ (m : ℕ). is_other m ≡ true) (sym e) h in absurd (cc f)
apart (Target target) n h e = let f : is_other 110 ≡ true = subst (λ (m : ℕ). is_other m ≡ true) (sym e) h in absurd (cc f)
apart (Content bytes) n h e = let f : is_other 116 ≡ true = subst (λ (m : ℕ). is_other m ≡ true) (sym e) h in absurd (cc f)
apart (Error error) n h e = let f : is_other 114 ≡ true = subst (λ (m : ℕ). is_other m ≡ true) (sym e) h in absurd (cc f)

-- what was wrong, after the answer's first word
after_word : (x : Why) (r : List ℕ) → drop 10 (line (codes "violation" ++ word (why_text x)) ++ r) ≡ why_text x ++ 10 ∷ r
after_word x r = append_assoc (why_text x) (10 ∷ []) r

answer_same : (x y : Answer) (r s : List ℕ) → IsShown x → IsShown y → text_of_answer x ++ r ≡ text_of_answer y ++ s → (x ≡ y) × (r ≡ s)
unfolding text_of_answer
answer_same (Replied a) (Replied b) r s fx fy e =
    let p = reply_same a b r s fx fy e in
    (ap Replied p.0, p.1)
answer_same Memory Memory r s fx fy e = (refl, ap (drop 7) e)
answer_same Spent Spent r s fx fy e = (refl, ap (drop 6) e)
answer_same FaultDirectory FaultDirectory r s fx fy e = (refl, ap (drop 16) e)
answer_same FaultState FaultState r s fx fy e = (refl, ap (drop 12) e)
answer_same Refused Refused r s fx fy e = (refl, ap (drop 18) e)
answer_same (Violation a) (Violation b) r s fx fy e =
    let p = why_same a b r s fx fy (sym (after_word a r) ∙ (ap (drop 10) e ∙ after_word b s)) in
    (ap Violation p.0, p.1)
answer_same FaultDirectory FaultState r s fx fy e = absurd (let t : 100 ≡ 115 = ap (λ (z : List ℕ). get_or z 6 0) e in omega arith)
answer_same FaultState FaultDirectory r s fx fy e = absurd (let t : 115 ≡ 100 = ap (λ (z : List ℕ). get_or z 6 0) e in omega arith)
answer_same (Replied a) y r s fx fy e = absurd (apart a (third y) refl (third_same (Replied a) y r s e))
answer_same x (Replied b) r s fx fy e = absurd (apart b (third x) refl (sym (third_same x (Replied b) r s e)))
answer_same x y r s fx fy e = absurd (let t : third x ≡ third y = third_same x y r s e in omega arith)

answer_some : (x : Answer) (r : List ℕ) → text_of_answer x ++ r ≡ [] → ⊥
answer_some x r e = some x (sym (third_is x r) ∙ ap (λ (z : List ℕ). get_or z 2 0) e)
  where
    some : (y : Answer) → third y ≡ 0 → ⊥
    some (Replied reply) h = apart reply 0 refl h
    some Memory h = omega arith
    some Spent h = omega arith
    some FaultDirectory h = omega arith
    some FaultState h = omega arith
    some (Violation why) h = omega arith
    some Refused h = omega arith

-- the texts of a list of answers tell the answers
pub one_reading : HasOneReading
one_reading [] [] fx fy e = refl
one_reading [] (y ∷ ys) fx fy e = absurd (answer_some y (texts_of ys) (sym e))
one_reading (x ∷ xs) [] fx fy e = absurd (answer_some x (texts_of xs) e)
one_reading (x ∷ xs) (y ∷ ys) fx fy e =
    let first = answer_same x y (texts_of xs) (texts_of ys) fx.0 fy.0 e in
    let rest = one_reading xs ys fx.1 fy.1 first.1 in
    λ i. first.0 i ∷ rest i
