-- Which words are of which form.
use Rattle.std.proofs.Common.{◌≡◌, ℕ, Bool, true, false, cond, codes, ◌&&◌, List, [], ◌∷◌, refl, sym, ap, ◌∙◌, subst}
use Rattle.std.specs.Prelude.{option_map, is_some, option_and_then}
use Rattle.std.specs.Str.{bytes_eq}
use Rattle.std.specs.declared.option.Option.{Option}
use Rattle.std.specs.declared.option.Option.TheVariants.{None, Some}
use Rattle.program_words.specs.declared.create_options.CreateOptions.{CreateOptions}
use Rattle.program_words.specs.CreateOptions.{options_of}
use Rattle.script_text.specs.Grammar.{verb_of}
use Rattle.program_words.specs.declared.copies.CopyKind.{CopyKind}
use Rattle.program_words.specs.declared.copies.CopyKind.TheVariants as kind
use Rattle.program_words.specs.declared.form.Form.{Form}
use Rattle.program_words.specs.declared.form.Form.TheVariants.{Trial, TrialGenerate, Create, Info, Passwd, Migrate, Shell, Generate, Command, Import, Export, ImportTimes, ExportTimes, Put, Get, Check, Survey, Look}
use Rattle.program_words.specs.Forms.{count_of, single_form, plain_form, is_looking, look_form, other_form, copy_kind, copy_at, copied, copied_to, copy_or_other, form_of, is_create, is_times, path_in, with_times}

-- a form other than that of `create`
abbrev pub IsPlain : Form → Type 0
IsPlain (Create options) = ⊥
IsPlain _ = Unit {0}

-- what is found is so
abbrev IsIn : (Form → Type 0) → Option Form → Type 0
IsIn P None = Unit {0}
IsIn P (Some form) = P form

either : (P : Form → Type 0) (b : Bool) (one other : Option Form) → IsIn P one → IsIn P other → IsIn P (cond b one other)
either P true one other p q = p
either P false one other p q = q

counted : (make : ℕ → Form) (count : Option ℕ) → ((n : ℕ) → IsPlain (make n)) → IsIn IsPlain (option_map make count)
counted make None p = tt
counted make (Some n) p = p n

single_is_plain : (word : List ℕ) → IsIn IsPlain (single_form word)
unfolding single_form
single_is_plain word =
    either IsPlain (bytes_eq word (codes "trial")) (Some Trial) _ tt
    (either IsPlain (bytes_eq word (codes "info")) (Some Info) _ tt
    (either IsPlain (bytes_eq word (codes "passwd")) (Some Passwd) _ tt
    (either IsPlain (bytes_eq word (codes "migrate")) (Some Migrate) _ tt
    (either IsPlain (bytes_eq word (codes "shell")) (Some Shell) _ tt
    (either IsPlain (bytes_eq word (codes "check")) (Some Check) None tt tt)))))

plain_is_plain : (words : List (List ℕ)) → IsIn IsPlain (plain_form words)
unfolding plain_form
plain_is_plain [] = tt
plain_is_plain (first ∷ []) = single_is_plain first
plain_is_plain (first ∷ second ∷ []) =
    either IsPlain (bytes_eq first (codes "generate")) (option_map Generate (count_of second)) _ (counted Generate (count_of second) (λ n. tt))
    (either IsPlain (bytes_eq first (codes "check") && bytes_eq second (codes "--all")) (Some Survey) None tt tt)
plain_is_plain (first ∷ second ∷ third ∷ []) =
    either IsPlain (bytes_eq first (codes "trial") && bytes_eq second (codes "generate")) (option_map TrialGenerate (count_of third)) None (counted TrialGenerate (count_of third) (λ n. tt)) tt
plain_is_plain (first ∷ second ∷ third ∷ fourth ∷ more) = tt

look_is_plain : (words : List (List ℕ)) → IsIn IsPlain (look_form words)
look_is_plain [] = tt
look_is_plain (first ∷ []) = tt
look_is_plain (first ∷ command ∷ words) = either IsPlain (is_looking command) (Some Look) None tt tt

others : (first : List ℕ) (words : List (List ℕ)) → IsIn IsPlain (other_form first words)
others first words =
    either IsPlain (is_some (verb_of first)) (Some Command) _ tt
    (either IsPlain (bytes_eq first (codes "look")) (look_form words) (plain_form words) (look_is_plain words) (plain_is_plain words))

copy_plain : (kind : CopyKind) (path : List (List ℕ)) → IsPlain (copy_at kind path)
copy_plain kind.Import path = tt
copy_plain kind.Export path = tt
copy_plain kind.ImportTimes path = tt
copy_plain kind.ExportTimes path = tt
copy_plain kind.Put path = tt
copy_plain kind.Get path = tt

to_plain : (kind : CopyKind) (path : Option (List (List ℕ))) → IsIn IsPlain (option_map (copy_at kind) path)
to_plain kind None = tt
to_plain kind (Some path) = copy_plain kind path

timed_plain : (kind : Option CopyKind) (word : List ℕ) → IsIn IsPlain (option_and_then (λ timed. copied_to timed word) kind)
timed_plain None word = tt
timed_plain (Some kind) word = to_plain kind (path_in word)

copied_plain : (kind : CopyKind) (words : List (List ℕ)) → IsIn IsPlain (copied kind words)
copied_plain kind [] = tt
copied_plain kind (first ∷ []) = tt
copied_plain kind (first ∷ word ∷ []) = to_plain kind (path_in word)
copied_plain kind (first ∷ option ∷ word ∷ []) = either IsPlain (is_times option) _ None (timed_plain (with_times kind) word) tt
copied_plain kind (first ∷ option ∷ word ∷ other ∷ more) = tt

by_copy : (copy : Option CopyKind) (first : List ℕ) (words : List (List ℕ)) → IsIn IsPlain (copy_or_other copy first words)
by_copy None first words = others first words
by_copy (Some kind) first words = copied_plain kind words

-- words that don't begin with `create`
rest_plain : (first : List ℕ) (words : List (List ℕ)) → IsIn IsPlain (copy_or_other (copy_kind first) first words)
rest_plain first words = by_copy (copy_kind first) first words

-- other words aren't of the form of `create`
pub other_is_other : (words : List (List ℕ)) (options : CreateOptions) → is_create words ≡ false → form_of words ≡ Some (Create options) → ⊥
unfolding form_of
other_is_other [] options t e = absurd (cc)
other_is_other (first ∷ words) options t e =
    subst (IsIn IsPlain) (ap (λ (b : Bool). cond b (option_map Create (options_of words)) (copy_or_other (copy_kind first) first (first ∷ words))) (sym t) ∙ e) (rest_plain first (first ∷ words))
