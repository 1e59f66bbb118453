-- One piece of a text after another.
use Rattle.std.proofs.Common.{◌≡◌, ℕ, ◌+◌, ◌<◌, List, [], ◌∷◌, ◌++◌, Result, Ok, Err, length, take, drop, get_or, refl, sym, ◌∙◌, ap, subst, append_assoc, append-nil}
use Rattle.std.proofs.lemmas.List.{flat_map_more, take_more, take-append-drop}
use Rattle.std.proofs.lemmas.List.Concat.{flat_map-append}
use Rattle.std.specs.List.{flat_map}
use Rattle.std.specs.Result.{IsErrAnd}
use Rattle.std.specs.declared.option.Option.{Option}
use Rattle.copy_sessions.proofs.line_io_lemmas.Flow.{appends-append, appends-nil}
use Rattle.copy_sessions.specs.line_io.Streams.{Stream, Cut}
use Rattle.outside.specs.Causes.{RoseBy}
use Rattle.outside.specs.Streams.{appends}
use Rattle.check_texts.specs.declared.error.PrintError.{PrintError}
use Rattle.check_texts.specs.declared.error.PrintError.TheVariants.{Memory, Failed}
use Rattle.check_texts.specs.Printing.{IsCut, IsPrinted, Passes, Prints}

-- a stream by its bytes and faults
abbrev pub flow : Option (List ℕ) → Option (List ℕ) → ℕ → ℕ → Stream
flow old new faults risen = record { old = old; new = new; faults = faults; risen = risen }

cut_further : (old new : Option (List ℕ)) (text more : List ℕ) → Cut old new text → Cut old new (text ++ more)
cut_further old new text more (part, rest, is, written) = (part, rest ++ more, ap (λ u. u ++ more) is ∙ append_assoc part rest more, written)

-- a text that ended in its midst is a longer one that did
pub stops_further : (o : Stream) (text more : List ℕ) (error : PrintError) → IsCut o text error → IsCut o (text ++ more) error
stops_further o text more Failed c = (cut_further o.old o.new text more c.0, c.1)
stops_further o text more Memory c = (cut_further o.old o.new text more c.0, c.1)

module _ (w0 w1 w2 : Option (List ℕ)) (f0 f1 f2 : ℕ) (before x mid y after : List ℕ) (p : Passes (flow w0 w1 f0 f1) before x mid) where
  joined : (part rest : List ℕ) → mid ++ y ≡ part ++ rest → before ++ (x ++ y) ≡ (p.part ++ part) ++ rest
  joined part rest is =
      sym (append_assoc before x y) ∙ (ap (λ u. u ++ y) p.whole ∙ (append_assoc p.part mid y ∙ (ap (λ u. p.part ++ u) is ∙ sym (append_assoc p.part part rest))))

  written : (part : List ℕ) → w2 ≡ appends w1 part → w2 ≡ appends w0 (p.part ++ part)
  written part e = e ∙ (ap (λ u. appends u part) p.written ∙ appends-append w0 p.part part)

  cut : Cut w1 w2 (mid ++ y) → Cut w0 w2 (before ++ (x ++ y))
  cut (part, rest, is, e) = (p.part ++ part, rest, joined part rest is, written part e)

  stopped : (error : PrintError) → IsCut (flow w1 w2 f1 f2) (mid ++ y) error → IsCut (flow w0 w2 f0 f2) (before ++ (x ++ y)) error
  stopped Failed c = (cut c.0, subst (λ f. RoseBy 1 f f2) p.quiet c.1)
  stopped Memory c = (cut c.0, c.1 ∙ p.quiet)

  -- a second text behind the first
  pub then_prints : (r : Result Unit PrintError) → Prints (flow w1 w2 f1 f2) mid y after r → Prints (flow w0 w2 f0 f2) before (x ++ y) after r
  then_prints (Ok u) q = record { part = p.part ++ q.part; whole = joined q.part after q.whole; written = written q.part q.written; quiet = q.quiet ∙ p.quiet }
  then_prints (Err error) c = stopped error c

-- ---- where a text ends in its midst

abbrev failed : PrintError → Result Unit PrintError
failed error = Err error

-- memory was refused before anything was written
pub unwritten : (w : Option (List ℕ)) (f : ℕ) (before text after : List ℕ) (r : Result Unit PrintError) → IsErrAnd r (λ e. e ≡ Memory) → Prints (flow w w f f) before text after r
unwritten w f before text after (Ok u) is = absurd is
unwritten w f before text after (Err error) is = subst (λ (e : PrintError). IsCut (flow w w f f) (before ++ text) e) (sym is) (([], before ++ text, refl, appends-nil w), refl)

same_error : (a b : PrintError) → failed a ≡ failed b → a ≡ b
same_error a b h = cc

-- the error of a text is handed on
pub handed : (o : Stream) (before text after other : List ℕ) (r s : Result Unit PrintError) (error : PrintError) → r ≡ Err error → IsErrAnd s (λ e. e ≡ error) → Prints o before text after r → Prints o before text other s
handed o before text after other (Ok u) s error was is p = absurd (cc)
handed o before text after other (Err d) (Ok u) error was is p = absurd is
handed o before text after other (Err d) (Err e) error was is p = subst (λ (k : PrintError). IsCut o (before ++ text) k) (same_error d error was ∙ sym is) p

further : (o : Stream) (before x y after : List ℕ) (s : Result Unit PrintError) (error : PrintError) → IsErrAnd s (λ e. e ≡ error) → Prints o before x after s → Prints o before (x ++ y) after s
further o before x y after (Ok u) error is p = absurd is
further o before x y after (Err e) error is p = subst (λ (text : List ℕ). IsCut o text e) (append_assoc before x y) (stops_further o (before ++ x) y e p)

-- and more would have come
pub stops : (o : Stream) (before x y after other : List ℕ) (r s : Result Unit PrintError) (error : PrintError) → r ≡ Err error → IsErrAnd s (λ e. e ≡ error) → Prints o before x after r → Prints o before (x ++ y) other s
stops o before x y after other r s error was is p = further o before x y other s error is (handed o before x after other r s error was is p)

-- ---- whole texts

-- a text that was printed with nothing behind it
pub printed_whole : (o : Stream) (before text waiting : List ℕ) (r : Result Unit PrintError) → before ≡ [] → waiting ≡ [] → Prints o before (text ++ []) waiting r → IsPrinted o text waiting r
printed_whole o before text waiting (Ok u) none empty p =
    let is : text ≡ p.part =
    sym (append-nil text) ∙ (ap (λ u. u ++ (text ++ [])) (sym none) ∙ (p.whole ∙ (ap (λ u. p.part ++ u) empty ∙ append-nil p.part))) in
    (p.written ∙ ap (λ u. appends o.old u) (sym is), p.quiet, empty)
printed_whole o before text waiting (Err error) none empty c =
    subst (λ (u : List ℕ). IsCut o u error) (ap (λ u. u ++ (text ++ [])) none ∙ append-nil text) c

-- a text that waited was written
pub written_whole : (o : Stream) (text waiting : List ℕ) (r : Result Unit PrintError) → waiting ≡ [] → Prints o text [] waiting r → IsPrinted o text waiting r
written_whole o text waiting (Ok u) empty p = printed_whole o [] text waiting (Ok u) refl empty (record { part = p.part; whole = p.whole; written = p.written; quiet = p.quiet })
written_whole o text waiting (Err error) empty c = printed_whole o [] text waiting (Err error) refl empty c

-- one that ended in its midst
pub printed_stop : (o : Stream) (before text after waiting : List ℕ) (s : Result Unit PrintError) (error : PrintError) → before ≡ [] → IsErrAnd s (λ e. e ≡ error) → Prints o before text after s → IsPrinted o text waiting s
printed_stop o before text after waiting (Ok u) error none is p = absurd is
printed_stop o before text after waiting (Err e) error none is p = subst (λ (u : List ℕ). IsCut o (u ++ text) e) none p

-- ---- one text for each element

-- the text of one element more
pub more_in : {X : Type 0} (f : X → List ℕ) (xs : List X) (i : ℕ) (x : X) → i < length xs → x ≡ get_or xs i x → flat_map f (take i xs) ++ f x ≡ flat_map f (take (i + 1) xs)
more_in f xs i x within is = flat_map_more f [] (take i xs) x ∙ ap (flat_map f) (sym (take_more xs i x within ∙ ap (λ y. take i xs ++ y ∷ []) (sym is)))

module _ {X : Type 0} (f : X → List ℕ) (xs : List X) (i : ℕ) (w0 w1 w2 : Option (List ℕ)) (f0 f1 f2 : ℕ) (before mid text after : List ℕ) (r : Result Unit PrintError)
    (next : flat_map f (take i xs) ++ text ≡ flat_map f (take (i + 1) xs)) (p : Passes (flow w0 w1 f0 f1) before (flat_map f (take i xs)) mid) (q : Prints (flow w1 w2 f1 f2) mid text after r) where
  both : Prints (flow w0 w2 f0 f2) before (flat_map f (take (i + 1) xs)) after r
  both = subst (λ (u : List ℕ). Prints (flow w0 w2 f0 f2) before u after r) next (then_prints w0 w1 w2 f0 f1 f2 before (flat_map f (take i xs)) mid text after p r q)

  pub each_more : (u : Unit {0}) → r ≡ Ok u → Passes (flow w0 w2 f0 f2) before (flat_map f (take (i + 1) xs)) after
  each_more u ran = subst (λ (k : Result Unit PrintError). Prints (flow w0 w2 f0 f2) before (flat_map f (take (i + 1) xs)) after k) ran both

  pub each_stops : (other : List ℕ) (s : Result Unit PrintError) (error : PrintError) → r ≡ Err error → IsErrAnd s (λ e. e ≡ error) → Prints (flow w0 w2 f0 f2) before (flat_map f xs) other s
  each_stops other s error was is =
      let whole : flat_map f (take (i + 1) xs) ++ flat_map f (drop (i + 1) xs) ≡ flat_map f xs = sym (flat_map-append f (take (i + 1) xs) (drop (i + 1) xs)) ∙ ap (flat_map f) (take-append-drop (i + 1) xs) in
      subst (λ (u : List ℕ). Prints (flow w0 w2 f0 f2) before u other s) whole (stops (flow w0 w2 f0 f2) before (flat_map f (take (i + 1) xs)) (flat_map f (drop (i + 1) xs)) after other r s error was is both)
