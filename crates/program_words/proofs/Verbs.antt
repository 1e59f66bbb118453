-- The names of script commands.
use Rattle.std.proofs.Common.{◌≡◌, ◌||◌, ℕ, Bool, true, false, List, [], ◌∷◌, cond, refl}
use Rattle.std.specs.Prelude.{is_some}
use Rattle.std.specs.declared.option.Option.{Option}
use Rattle.std.specs.declared.option.Option.TheVariants.{Some}
use Rattle.std.specs.List.{list_any, find}
use Rattle.std.specs.Str.{bytes_eq}
use Rattle.script_text.specs.Grammar.{name_of, verb_of}
use Rattle.script_text.specs.declared.verb.TheConstants.{VERBS}

first : {X : Type 0} (b c : Bool) (x : X) (more : Option X) → c ≡ is_some more → (b || c) ≡ is_some (cond b (Some x) more)
first true c x more e = refl
first false c x more e = e

found : {X : Type 0} (p : X → Bool) (xs : List X) → list_any p xs ≡ is_some (find p xs)
found p [] = refl
found p (x ∷ xs) = first (p x) (list_any p xs) x (find p xs) (found p xs)

-- a word is that of a command where it is one of their names
pub named : (word : List ℕ) → list_any (λ verb. bytes_eq (name_of verb) word) VERBS ≡ is_some (verb_of word)
unfolding verb_of
named word = found (λ verb. bytes_eq (name_of verb) word) VERBS
