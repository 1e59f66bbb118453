-- Bytes on their way from a source and to a sink.
use Rattle.std.proofs.Common.{◌≡◌, ℕ, List, [], ◌∷◌, ◌++◌, refl, sym, ◌∙◌, ap, subst, inl, inr, append_assoc, append-nil}
use Rattle.std.specs.declared.option.Option.{Option}
use Rattle.std.specs.declared.option.Option.TheVariants.{None, Some}
use Rattle.outside.specs.Streams.{appends, WereTaken, Ends}
use Rattle.line_io.specs.Lines.{lines, IsUnbroken}
use Rattle.line_io.specs.Reading.{coming, Line, TookNoLine}
use Rattle.line_io.proofs.Cutting.{lines-cut, lines-last}

-- what was given and what is left is all that was left before
pub coming-given : (old new : Option (List ℕ)) (bytes : List ℕ) → WereTaken old new bytes → coming bytes new ≡ old
coming-given None new bytes g = ap (coming bytes) g
coming-given (Some old) new bytes g = ap (coming bytes) g.2 ∙ ap Some (sym g.1)

-- bytes in front of those that come
pub coming-append : (a b : List ℕ) (rest : Option (List ℕ)) → coming (a ++ b) rest ≡ coming a (coming b rest)
coming-append a b None = refl
coming-append a b (Some rest) = ap Some (append_assoc a b rest)

pub coming-nil : (rest : Option (List ℕ)) → coming [] rest ≡ rest
coming-nil None = refl
coming-nil (Some rest) = refl

pub appends-append : (old : Option (List ℕ)) (a b : List ℕ) → appends (appends old a) b ≡ appends old (a ++ b)
appends-append None a b = refl
appends-append (Some old) a b = ap Some (append_assoc old a b)

pub appends-nil : (old : Option (List ℕ)) → old ≡ appends old []
appends-nil None = refl
appends-nil (Some old) = ap Some (sym (append-nil old))

-- a line that a newline ended
pub Line-cut : (line more : List ℕ) (rest : Option (List ℕ)) → IsUnbroken line → Line (coming (line ++ 10 ∷ more) rest) line (coming more rest)
Line-cut line more None u = refl
Line-cut line more (Some rest) u =
    let whole = append_assoc line (10 ∷ more) rest in
    (more ++ rest, ap lines whole ∙ lines-cut line (more ++ rest) u, refl, inl whole)

-- the last line, which no newline ended
pub Line-last : (byte : ℕ) (line : List ℕ) (rest : Option (List ℕ)) → IsUnbroken (byte ∷ line) → Ends rest → Line (coming (byte ∷ line) rest) (byte ∷ line) rest
Line-last byte line None u e = refl
Line-last byte line (Some rest) u e = (
  rest,
  subst (λ r. lines (byte ∷ (line ++ r)) ≡ (byte ∷ line) ∷ lines r) (sym e) (ap (λ l. lines (byte ∷ l)) (append-nil line) ∙ lines-last byte line u),
  refl,
  inr (ap (λ r. byte ∷ (line ++ r)) e ∙ ap (λ l. byte ∷ l) (append-nil line), e),
)

-- where no line ends in what was read ahead and in what was taken
pub in_line : (ahead taken : List ℕ) (old new : Option (List ℕ)) → WereTaken old new taken → IsUnbroken (ahead ++ taken) → TookNoLine (coming ahead old) new
in_line ahead taken None new w u = w
in_line ahead taken (Some old) new w u = (ahead ++ taken, w.0, u, ap (λ r. ahead ++ r) w.1 ∙ sym (append_assoc ahead taken w.0), w.2)

-- nothing was taken
pub WereTaken-nil : (old new : Option (List ℕ)) → new ≡ old → WereTaken old new []
WereTaken-nil None new e = e
WereTaken-nil (Some old) new e = (old, refl, e)

pub WereTaken-append : (old mid new : Option (List ℕ)) (a b : List ℕ) → WereTaken old mid a → WereTaken mid new b → WereTaken old new (a ++ b)
WereTaken-append None mid new a b g h = subst (λ (m : Option (List ℕ)). WereTaken m new b) g h
WereTaken-append (Some old) mid new a b g h =
    let k : WereTaken (Some g.0) new b = subst (λ (m : Option (List ℕ)). WereTaken m new b) g.2 h in
    (k.0, g.1 ∙ (ap (λ (l : List ℕ). a ++ l) k.1 ∙ sym (append_assoc a b k.0)), k.2)
